use borrow.Author.Tests.{not-true, not-false}
use native.Mathlib.Omega.{arith}
use Rattle.determinacy.proofs.JoinLaws.{join-none, join_first, join-inside, join-further, join-stops, join-rest, join-on}
use Rattle.determinacy.proofs.inputs.+join_inputs.Goals as goal

pub returns-then-args : goal.returns-then-args
returns-then-args t c = λ w. join-none c.if-args.true w

pub unify_input-u-requires : goal.unify_input-u-requires
unify_input-u-requires t c = join_first c.if-args.false c.requires

pub returns-then-not-u : goal.returns-then-not-u
returns-then-not-u t c = λ w. join-stops c.if-args.false c.unify_input-u.ensures (not-true c.unify_input-u.result.equal c.if-not-u.true) w

pub past-requires : goal.past-requires
past-requires t c = (join-inside c.if-args.false c.requires).0

pub past-requires-2 : goal.past-requires-2
past-requires-2 t c = (join-inside c.if-args.false c.requires).1

pub join_inputs-requires : goal.join_inputs-requires
join_inputs-requires t c = (omega (arith, join-further c.if-args.false c.past.ensures c.requires), join-rest c.if-args.false c.unify_input-u.ensures c.past.ensures c.past-2.ensures c.other_marks.ensures c.requires)

pub returns : goal.returns
returns t c = λ w. join-on c.if-args.false c.unify_input-u.ensures c.past.ensures c.past-2.ensures c.other_marks.ensures (not-false c.unify_input-u.result.equal c.if-not-u.false) c.join_inputs.ensures w
