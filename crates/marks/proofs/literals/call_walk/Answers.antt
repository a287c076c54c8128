-- `marks::literals::call_walk` meets its contract. Assumes nothing.
use Rattle.marks.proofs.Places.{node-inside, past-ends}
use native.Mathlib.Omega.{arith}
use Rattle.std.proofs.lemmas.Result.{err_from_is_err_and}
use Rattle.syntax.specs.Terms.{output}
use Rattle.marks.proofs.Judging.{judged-term, judged-room, judged-marked}
use Rattle.marks.proofs.LiteralsLaws.{judged-at, walked-fault, walked-past}
use Rattle.marks.proofs.literals.call_walk.Goals as goal

pub marks_of-marks-requires : goal.marks_of-marks-requires
marks_of-marks-requires c = c.requires.atom_at

pub overflow_add-from : goal.overflow_add-from
overflow_add-from c = omega (arith, judged-room (judged-at c.args.check.declarations.text.now c.args.check.declarations.words.now c.args.check.declarations.count c.args.check.read.text.now c.args.check.read.table.now c.args.p c.marks_of-marks.result c.marks_of-marks.ensures c.args.check.declarations.stands c.requires.atom_at))

pub past-stop-requires : goal.past-stop-requires
past-stop-requires c = node-inside (judged-term (judged-at c.args.check.declarations.text.now c.args.check.declarations.words.now c.args.check.declarations.count c.args.check.read.text.now c.args.check.read.table.now c.args.p c.marks_of-marks.result c.marks_of-marks.ensures c.args.check.declarations.stands c.requires.atom_at))

pub ground_marked-after-requires : goal.ground_marked-after-requires
ground_marked-after-requires c = judged-marked c.args.check.read.table.now c.args.p c.marks_of-marks.result c.past-stop.result (past-ends c.past-stop.ensures) output (judged-at c.args.check.declarations.text.now c.args.check.declarations.words.now c.args.check.declarations.count c.args.check.read.text.now c.args.check.read.table.now c.args.p c.marks_of-marks.result c.marks_of-marks.ensures c.args.check.declarations.stands c.requires.atom_at)

pub call_fault-requires : goal.call_fault-requires
call_fault-requires c = judged-at c.args.check.declarations.text.now c.args.check.declarations.words.now c.args.check.declarations.count c.args.check.read.text.now c.args.check.read.table.now c.args.p c.marks_of-marks.result c.marks_of-marks.ensures c.args.check.declarations.stands c.requires.atom_at

pub overflow_add-result : goal.overflow_add-result
overflow_add-result c = omega (arith, c.requires.literal_le_p, judged-room (judged-at c.args.check.declarations.text.now c.args.check.declarations.words.now c.args.check.declarations.count c.args.check.read.text.now c.args.check.read.table.now c.args.p c.marks_of-marks.result c.marks_of-marks.ensures c.args.check.declarations.stands c.requires.atom_at))

pub returns-in_err-call_fault : goal.returns-in_err-call_fault
returns-in_err-call_fault c = let p = err_from_is_err_and c.from_residual.result c.from_residual.ensures.1 in
    rw (p.1, p.2)
    (walked-fault c.args.check.declarations.text.now c.args.check.declarations.words.now c.args.check.declarations.count c.args.check.read.text.now c.args.check.read.table.now c.args.p c.marks_of-marks.result c.marks_of-marks.ensures c.args.known c.args.check.clause c.args.literal c.call_fault.ensures c.in_err-call_fault.was)

pub returns : goal.returns
returns c = walked-past c.args.check.declarations.text.now c.args.check.declarations.words.now c.args.check.declarations.count c.args.check.read.text.now c.args.check.read.table.now c.args.p c.marks_of-marks.result c.marks_of-marks.ensures c.args.known c.args.check.clause c.args.literal c.call_fault.ensures c.in_ok-call_fault.was c.past-stop.result (past-ends c.past-stop.ensures) c.ground_marked-after.result c.ground_marked-after.ensures
