use native.Mathlib.Omega.{arith}
use Rattle.marks.proofs.Places.{node-inside}
use Rattle.marks.proofs.ArgumentsMarking.{none_open, marked-first, found-open, marked-further, marked-rest, open-on}
use mathlib.Core.Path.{refl}
use Rattle.marks.proofs.arguments.+first_open.Goals as goal

pub returns-then-stop-p : goal.returns-then-stop-p
returns-then-stop-p t c = none_open c.args.known c.args.number c.if-stop-p.true

pub marked_test-requires : goal.marked_test-requires
marked_test-requires t c = marked-first c.if-stop-p.false c.requires.marked_at

pub past-next-requires : goal.past-next-requires
past-next-requires t c = node-inside (marked-first c.if-stop-p.false c.requires.marked_at)

pub overflow_add-more : goal.overflow_add-more
overflow_add-more t c = omega (arith, marked-further c.if-stop-p.false c.past-next.ensures c.requires.marked_at)

pub first_open-requires : goal.first_open-requires
first_open-requires t c = let pre = c.requires in (omega (arith, marked-further c.if-stop-p.false c.past-next.ensures pre.marked_at), (marked-rest c.if-stop-p.false c.past-next.ensures c.other_marks-rest.ensures pre.marked_at, omega (arith, marked-further c.if-stop-p.false c.past-next.ensures pre.marked_at)))

pub returns-in-Some : goal.returns-in-Some
returns-in-Some t c = found-open c.if-stop-p.false c.args.known c.args.number c.marked_test.ensures c.in-Some.is

pub returns-in-None : goal.returns-in-None
returns-in-None t c = open-on c.if-stop-p.false c.past-next.ensures c.other_marks-rest.ensures c.args.known c.args.number c.marked_test.ensures c.in-None.is refl c.first_open.ensures
