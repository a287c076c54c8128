-- `marks::clauses::clause_faults::clause_fault` meets its contract. Assumes nothing.
use Rattle.marks.proofs.Places.{node-inside, past-ends}
use native.Mathlib.Omega.{arith}
use Rattle.std.proofs.lemmas.Result.{err_from_is_err_and}
use Rattle.syntax.specs.Terms.{input}
use Rattle.mode_rules.specs.Modes.{none_ground}
use Rattle.marks.proofs.UndeclaredClauses.{clause-room, head-room, head-at, head-term, body_at}
use Rattle.marks.proofs.ClausesSheets.{head-judged, head-marked, clause-stopped, clause-passed}
use Rattle.marks.proofs.clauses.clause_faults.clause_fault.Goals as goal

pub overflow_add-p : goal.overflow_add-p
overflow_add-p c = omega (arith, clause-room c.requires)

pub word_at-items-requires : goal.word_at-items-requires
word_at-items-requires c = omega (arith, clause-room c.requires)

pub overflow_add-head : goal.overflow_add-head
overflow_add-head c = omega (arith, clause-room c.requires)

pub marks_of-marks-requires : goal.marks_of-marks-requires
marks_of-marks-requires c = head-at c.requires

pub overflow_add-from : goal.overflow_add-from
overflow_add-from c = omega (arith, head-room c.requires)

pub past-first-requires : goal.past-first-requires
past-first-requires c = node-inside (head-term c.requires)

pub ground_marked-start-requires : goal.ground_marked-start-requires
ground_marked-start-requires c = head-marked c.args.check.declarations.text.now c.args.check.declarations.words.now c.args.check.declarations.count c.args.check.read.text.now c.args.check.read.table.now c.args.p c.args.check.clause c.marks_of-marks.result c.marks_of-marks.ensures c.word_at-items.result c.word_at-items.ensures c.past-first.result (past-ends c.past-first.ensures) input c.args.check.declarations.stands c.requires

pub body_walk-requires : goal.body_walk-requires
body_walk-requires c = body_at c.args.check.read.text.now c.args.check.read.table.now c.args.p c.word_at-items.result c.word_at-items.ensures c.past-first.result (past-ends c.past-first.ensures) c.requires

pub returns-in_err-known : goal.returns-in_err-known
unfolding none_ground
returns-in_err-known c = let p = err_from_is_err_and c.from_residual.result c.from_residual.ensures.1 in
    rw (p.1, p.2)
    (clause-stopped c.args.check.declarations.text.now c.args.check.declarations.words.now c.args.check.declarations.count c.args.check.read.text.now c.args.check.read.table.now c.args.p c.args.check.clause c.marks_of-marks.result c.marks_of-marks.ensures c.word_at-items.result c.word_at-items.ensures c.past-first.result (past-ends c.past-first.ensures) c.ground_marked-start.result c.ground_marked-start.ensures c.body_walk.result c.body_walk.ensures c.in_err-known.was)

pub head_fault-requires : goal.head_fault-requires
head_fault-requires c = head-judged c.args.check.declarations.text.now c.args.check.declarations.words.now c.args.check.declarations.count c.args.check.read.text.now c.args.check.read.table.now c.args.p c.args.check.clause c.marks_of-marks.result c.marks_of-marks.ensures c.word_at-items.result c.word_at-items.ensures c.past-first.result (past-ends c.past-first.ensures) c.args.check.declarations.stands c.requires

pub returns : goal.returns
unfolding none_ground
returns c = clause-passed c.args.check.declarations.text.now c.args.check.declarations.words.now c.args.check.declarations.count c.args.check.read.text.now c.args.check.read.table.now c.args.p c.args.check.clause c.marks_of-marks.result c.marks_of-marks.ensures c.word_at-items.result c.word_at-items.ensures c.past-first.result (past-ends c.past-first.ensures) c.ground_marked-start.result c.ground_marked-start.ensures c.body_walk.result c.body_walk.ensures c.in_ok-known.was c.head_fault.ensures
