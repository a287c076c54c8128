use native.Mathlib.Omega.{arith}
use Rattle.marks.proofs.Places.{inner-at, next-further, room-three, size-least, variable-below, first_fits, parted, node-inside, past-ends}
use Rattle.marks.proofs.Grounding.{variable-ground, variable-open, test-inner, none-tested, first-open, rest_at, rest-tested}
use Rattle.marks.proofs.terms.+ground_test_ground_test_all.Goals as goal

pub ground_test-word_at-v-requires : goal.ground_test-word_at-v-requires
ground_test-word_at-v-requires t c = omega (arith, room-three c.args.table.now c.args.p c.requires)

pub ground_test-bounds-known-v : goal.ground_test-bounds-known-v
ground_test-bounds-known-v t c = variable-below c.args.table.now c.args.p c.word_at-v.result c.requires c.word_at-v.ensures c.if-v-lt-FIRST_NAME.true

pub ground_test-returns-then-known-v : goal.ground_test-returns-then-known-v
ground_test-returns-then-known-v t c = let args = c.args in variable-ground args.table.now args.p args.known c.word_at-v.result c.word_at-v.ensures c.if-v-lt-FIRST_NAME.true c.if-known-v.true

pub ground_test-overflow_add-p : goal.ground_test-overflow_add-p
ground_test-overflow_add-p t c = omega (arith, room-three c.args.table.now c.args.p c.requires)

pub ground_test-word_at-byte-requires : goal.ground_test-word_at-byte-requires
ground_test-word_at-byte-requires t c = omega (arith, room-three c.args.table.now c.args.p c.requires)

pub ground_test-returns-then-v-lt-FIRST_NAME : goal.ground_test-returns-then-v-lt-FIRST_NAME
ground_test-returns-then-v-lt-FIRST_NAME t c = let args = c.args in variable-open args.table.now args.p args.known c.word_at-v.result c.word_at-v.ensures c.if-v-lt-FIRST_NAME.true c.if-known-v.false c.word_at-byte.result c.word_at-byte.ensures

pub ground_test-overflow_add-from : goal.ground_test-overflow_add-from
ground_test-overflow_add-from t c = omega (arith, room-three c.args.table.now c.args.p c.requires)

pub ground_test-past-stop-requires : goal.ground_test-past-stop-requires
ground_test-past-stop-requires t c = node-inside c.requires

pub ground_test-ground_test_all-requires : goal.ground_test-ground_test_all-requires
ground_test-ground_test_all-requires t c = (omega (arith, c.past-stop.ensures, size-least c.args.table.now c.args.p c.requires), inner-at c.word_at-v.result c.past-stop.result c.word_at-v.ensures c.if-v-lt-FIRST_NAME.false (past-ends c.past-stop.ensures) c.requires)

pub ground_test-returns : goal.ground_test-returns
ground_test-returns t c = let args = c.args in test-inner args.table.now args.p args.known c.word_at-v.result c.word_at-v.ensures c.past-stop.result c.if-v-lt-FIRST_NAME.false (past-ends c.past-stop.ensures) c.ground_test_all.result c.ground_test_all.ensures

pub ground_test_all-returns-then-stop-p : goal.ground_test_all-returns-then-stop-p
ground_test_all-returns-then-stop-p t c = none-tested c.args.table.now c.args.p c.args.stop c.args.known c.if-stop-p.true

pub ground_test_all-ground_test-first-requires : goal.ground_test_all-ground_test-first-requires
ground_test_all-ground_test-first-requires t c = (omega (arith, first_fits c.if-stop-p.false c.requires), (parted c.if-stop-p.false c.requires).first)

pub ground_test_all-past-next-requires : goal.ground_test_all-past-next-requires
ground_test_all-past-next-requires t c = node-inside (parted c.if-stop-p.false c.requires).first

pub ground_test_all-ground_test_all-requires : goal.ground_test_all-ground_test_all-requires
ground_test_all-ground_test_all-requires t c = let args = c.args in (omega (arith, next-further c.past-next.result c.if-stop-p.false (past-ends c.past-next.ensures) c.requires), rest_at args.table.now args.p args.stop args.known c.if-stop-p.false c.past-next.result (past-ends c.past-next.ensures) c.requires)

pub ground_test_all-returns-in-Some : goal.ground_test_all-returns-in-Some
ground_test_all-returns-in-Some t c = let args = c.args in first-open args.table.now args.p args.stop args.known c.if-stop-p.false c.ground_test-first.result c.ground_test-first.ensures c.in-Some.field-0 c.in-Some.is

pub ground_test_all-returns-in-None : goal.ground_test_all-returns-in-None
ground_test_all-returns-in-None t c = let args = c.args in rest-tested args.table.now args.p args.stop args.known c.if-stop-p.false c.past-next.result (past-ends c.past-next.ensures) c.ground_test-first.result c.ground_test-first.ensures c.in-None.is c.ground_test_all.result c.ground_test_all.ensures
