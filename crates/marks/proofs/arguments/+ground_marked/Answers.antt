use Rattle.marks.proofs.Places.{node-inside}
use native.Mathlib.Omega.{arith}
use Rattle.marks.proofs.ArgumentsMarking.{none-given, marked-first, marked-further, marked-rest, given-same, given-other}
use Rattle.marks.proofs.arguments.+ground_marked.Goals as goal

pub returns-then-stop-p : goal.returns-then-stop-p
returns-then-stop-p t c = none-given c.args.known c.if-stop-p.true

pub past-next-requires : goal.past-next-requires
past-next-requires t c = node-inside (marked-first c.if-stop-p.false c.requires)

pub ground_term-after-requires : goal.ground_term-after-requires
ground_term-after-requires t c = marked-first c.if-stop-p.false c.requires

pub ground_marked-requires : goal.ground_marked-requires
ground_marked-requires t c = let pre = c.requires in (omega (arith, marked-further c.if-stop-p.false c.past-next.ensures pre), marked-rest c.if-stop-p.false c.past-next.ensures c.other_marks-rest.ensures pre)

pub returns-then-first_mark-mark : goal.returns-then-first_mark-mark
returns-then-first_mark-mark t c = given-same c.if-stop-p.false c.past-next.ensures c.other_marks-rest.ensures c.args.known c.first_mark.ensures c.if-first_mark-mark.true c.ground_term-after.ensures c.ground_marked.ensures

pub ground_marked-requires-2 : goal.ground_marked-requires-2
ground_marked-requires-2 t c = let pre = c.requires in (omega (arith, marked-further c.if-stop-p.false c.past-next.ensures pre), marked-rest c.if-stop-p.false c.past-next.ensures c.other_marks-rest.ensures pre)

pub returns : goal.returns
returns t c = given-other c.if-stop-p.false c.past-next.ensures c.other_marks-rest.ensures c.args.known c.first_mark.ensures c.if-first_mark-mark.false c.ground_marked-2.ensures
