use native.Mathlib.Omega.{arith}
use Rattle.mode_rules.specs.Modes.{everything}
use Rattle.marks.proofs.Places.{room-three, size-least, node-inside, past-ends}
use Rattle.marks.proofs.Equating.{left_at, right-at, equated-left, equated-right, clashed, pairs-at, descended, none-equated, split, pair_fits, pair-further, others-at, others-equated}
use Rattle.marks.proofs.equations.+equate_equate_all.Goals as goal

pub equate-word_at-requires : goal.equate-word_at-requires
equate-word_at-requires t c = omega (arith, room-three c.args.read.table.now c.args.p (left_at c.requires))

pub equate-equate_variable-requires : goal.equate-equate_variable-requires
equate-equate_variable-requires t c = record { term_at = left_at c.requires; term_at_2 = right-at c.requires }

pub equate-returns-then-word_at-lt-FIRST_NAME : goal.equate-returns-then-word_at-lt-FIRST_NAME
equate-returns-then-word_at-lt-FIRST_NAME t c = let args = c.args in equated-left args.read.text.now args.read.table.now args.p args.q args.known c.word_at.result c.word_at.ensures c.if-word_at-lt-FIRST_NAME.true c.equate_variable.result c.equate_variable.ensures

pub equate-word_at-requires-2 : goal.equate-word_at-requires-2
equate-word_at-requires-2 t c = omega (arith, room-three c.args.read.table.now c.args.q (right-at c.requires))

pub equate-equate_variable-requires-then-word_at-lt-FIRST_NAME-2 : goal.equate-equate_variable-requires-then-word_at-lt-FIRST_NAME-2
equate-equate_variable-requires-then-word_at-lt-FIRST_NAME-2 t c = record { term_at = left_at c.requires; term_at_2 = right-at c.requires }

pub equate-returns-then-word_at-lt-FIRST_NAME-2 : goal.equate-returns-then-word_at-lt-FIRST_NAME-2
equate-returns-then-word_at-lt-FIRST_NAME-2 t c = let args = c.args in equated-right args.read.text.now args.read.table.now args.p args.q args.known c.word_at-2.result c.word_at-2.ensures c.if-word_at-lt-FIRST_NAME-2.true c.equate_variable-then-word_at-lt-FIRST_NAME-2.result c.equate_variable-then-word_at-lt-FIRST_NAME-2.ensures

pub equate-same_functor-requires : goal.equate-same_functor-requires
equate-same_functor-requires t c = record { pair_at = c.requires; first_name_bound = omega (arith, c.word_at.ensures, c.word_at-2.ensures) }

pub equate-returns-then-not-same_functor : goal.equate-returns-then-not-same_functor
unfolding everything
equate-returns-then-not-same_functor t c = let args = c.args in clashed args.read.text.now args.read.table.now args.p args.q args.known c.word_at.result c.word_at-2.result c.word_at.ensures c.word_at-2.ensures c.if-word_at-lt-FIRST_NAME.false c.if-word_at-lt-FIRST_NAME-2.false c.same_functor.result c.same_functor.ensures c.if-not-same_functor.true

pub equate-overflow_add-from : goal.equate-overflow_add-from
equate-overflow_add-from t c = omega (arith, room-three c.args.read.table.now c.args.p (left_at c.requires))

pub equate-past-stop-requires : goal.equate-past-stop-requires
equate-past-stop-requires t c = node-inside (left_at c.requires)

pub equate-overflow_add-other : goal.equate-overflow_add-other
equate-overflow_add-other t c = omega (arith, room-three c.args.read.table.now c.args.q (right-at c.requires))

pub equate-equate_all-requires : goal.equate-equate_all-requires
equate-equate_all-requires t c = let args = c.args in (omega (arith, c.past-stop.ensures, size-least args.read.table.now args.p (left_at c.requires)), pairs-at args.read.text.now args.read.table.now args.p args.q args.known c.word_at.result c.word_at-2.result c.word_at.ensures c.word_at-2.ensures c.if-word_at-lt-FIRST_NAME.false c.if-word_at-lt-FIRST_NAME-2.false c.same_functor.result c.same_functor.ensures c.if-not-same_functor.false c.past-stop.result (past-ends c.past-stop.ensures) c.requires)

pub equate-returns : goal.equate-returns
equate-returns t c = let args = c.args in descended args.read.text.now args.read.table.now args.p args.q args.known c.word_at.result c.word_at-2.result c.word_at.ensures c.word_at-2.ensures c.if-word_at-lt-FIRST_NAME.false c.if-word_at-lt-FIRST_NAME-2.false c.same_functor.result c.same_functor.ensures c.if-not-same_functor.false c.past-stop.result (past-ends c.past-stop.ensures) c.equate_all.result c.equate_all.ensures

pub equate_all-returns-then-stop-p : goal.equate_all-returns-then-stop-p
equate_all-returns-then-stop-p t c = let args = c.args in none-equated args.read.text.now args.read.table.now args.p args.stop args.q args.known c.if-stop-p.true

pub equate_all-equate-after-requires : goal.equate_all-equate-after-requires
equate_all-equate-after-requires t c = let args = c.args in (omega (arith, pair_fits args.read.text.now args.read.table.now args.p args.stop args.q args.known c.if-stop-p.false c.requires), (split args.read.text.now args.read.table.now args.p args.stop args.q args.known c.if-stop-p.false c.requires).first)

pub equate_all-past-next-requires : goal.equate_all-past-next-requires
equate_all-past-next-requires t c = let args = c.args in node-inside (left_at (split args.read.text.now args.read.table.now args.p args.stop args.q args.known c.if-stop-p.false c.requires).first)

pub equate_all-past-other-requires : goal.equate_all-past-other-requires
equate_all-past-other-requires t c = let args = c.args in node-inside (right-at (split args.read.text.now args.read.table.now args.p args.stop args.q args.known c.if-stop-p.false c.requires).first)

pub equate_all-equate_all-requires : goal.equate_all-equate_all-requires
equate_all-equate_all-requires t c = let args = c.args in (omega (arith, pair-further args.read.text.now args.read.table.now args.p args.stop args.q args.known c.if-stop-p.false c.past-next.result c.past-other.result (past-ends c.past-next.ensures) (past-ends c.past-other.ensures) c.requires), others-at args.read.text.now args.read.table.now args.p args.stop args.q args.known c.if-stop-p.false c.past-next.result c.past-other.result (past-ends c.past-next.ensures) (past-ends c.past-other.ensures) c.requires)

pub equate_all-returns : goal.equate_all-returns
equate_all-returns t c = let args = c.args in others-equated args.read.text.now args.read.table.now args.p args.stop args.q args.known c.if-stop-p.false c.past-next.result c.past-other.result (past-ends c.past-next.ensures) (past-ends c.past-other.ensures) c.equate-after.result c.equate-after.ensures c.equate_all.result c.equate_all.ensures
