use native.Mathlib.Omega.{arith}
use Rattle.marks.proofs.Places.{room-three, size-least, variable-below, first_fits, parted, inner-at, next-further, node-inside, past-ends}
use Rattle.marks.proofs.Grounding.{stored, stored-inner, none-stored, rest_at, rest-stored}
use Rattle.marks.proofs.terms.+ground_term_ground_terms.Goals as goal

pub ground_term-word_at-v-requires : goal.ground_term-word_at-v-requires
ground_term-word_at-v-requires t c = omega (arith, room-three c.args.table.now c.args.p c.requires)

pub ground_term-bounds-after-v : goal.ground_term-bounds-after-v
ground_term-bounds-after-v t c = variable-below c.args.table.now c.args.p c.word_at-v.result c.requires c.word_at-v.ensures c.if-v-lt-FIRST_NAME.true

pub ground_term-returns-then-v-lt-FIRST_NAME : goal.ground_term-returns-then-v-lt-FIRST_NAME
ground_term-returns-then-v-lt-FIRST_NAME t c = let args = c.args in stored args.table.now args.p args.known c.word_at-v.result c.word_at-v.ensures c.if-v-lt-FIRST_NAME.true

pub ground_term-overflow_add-from : goal.ground_term-overflow_add-from
ground_term-overflow_add-from t c = omega (arith, room-three c.args.table.now c.args.p c.requires)

pub ground_term-past-stop-requires : goal.ground_term-past-stop-requires
ground_term-past-stop-requires t c = node-inside c.requires

pub ground_term-ground_terms-requires : goal.ground_term-ground_terms-requires
ground_term-ground_terms-requires t c = (omega (arith, c.past-stop.ensures, size-least c.args.table.now c.args.p c.requires), inner-at c.word_at-v.result c.past-stop.result c.word_at-v.ensures c.if-v-lt-FIRST_NAME.false (past-ends c.past-stop.ensures) c.requires)

pub ground_term-returns : goal.ground_term-returns
ground_term-returns t c = let args = c.args in stored-inner args.table.now args.p args.known c.word_at-v.result c.word_at-v.ensures c.past-stop.result c.if-v-lt-FIRST_NAME.false (past-ends c.past-stop.ensures) c.ground_terms.result c.ground_terms.ensures

pub ground_terms-returns-then-stop-p : goal.ground_terms-returns-then-stop-p
ground_terms-returns-then-stop-p t c = none-stored c.args.table.now c.args.p c.args.stop c.args.known c.if-stop-p.true

pub ground_terms-ground_term-after-requires : goal.ground_terms-ground_term-after-requires
ground_terms-ground_term-after-requires t c = (omega (arith, first_fits c.if-stop-p.false c.requires), (parted c.if-stop-p.false c.requires).first)

pub ground_terms-past-next-requires : goal.ground_terms-past-next-requires
ground_terms-past-next-requires t c = node-inside (parted c.if-stop-p.false c.requires).first

pub ground_terms-ground_terms-requires : goal.ground_terms-ground_terms-requires
ground_terms-ground_terms-requires t c = let args = c.args in (omega (arith, next-further c.past-next.result c.if-stop-p.false (past-ends c.past-next.ensures) c.requires), rest_at args.table.now args.p args.stop args.known c.if-stop-p.false c.past-next.result (past-ends c.past-next.ensures) c.requires)

pub ground_terms-returns : goal.ground_terms-returns
ground_terms-returns t c = let args = c.args in rest-stored args.table.now args.p args.stop args.known c.if-stop-p.false c.past-next.result (past-ends c.past-next.ensures) c.ground_term-after.result c.ground_term-after.ensures c.ground_terms.result c.ground_terms.ensures
