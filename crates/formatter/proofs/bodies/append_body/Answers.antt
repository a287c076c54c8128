use native.Mathlib.Omega.{arith}
use Rattle.formatter.proofs.BodyLaws.{body_begun, next_item, item_words_at, room_left, body_further, body_ended}
use Rattle.formatter.proofs.bodies.append_body.Goals as goal

pub loop-init : goal.loop-init
loop-init c = (omega arith, λ w. body_begun w)

pub append_item-written-requires-clause-stands : goal.append_item-written-requires-clause-stands
append_item-written-requires-clause-stands c = next_item c.loop-test.true (c.loop.invariant.1 c.requires.stands).0

pub past_item-place-requires : goal.past_item-place-requires
past_item-place-requires c = item_words_at c.loop-test.true (c.loop.invariant.1 c.requires.stands).0

pub loop-preserved : goal.loop-preserved
loop-preserved c = (
  room_left c.loop-test.true c.loop.written.started c.past_item-place.ensures c.append_item-written.ensures.wrote (c.loop.invariant.1 c.requires.stands).0 c.loop.invariant.0,
  λ w. body_further c.loop-test.true c.loop.written.started c.past_item-place.ensures c.append_item-written.ensures.wrote c.append_item-written.ensures.started w.body (c.loop.invariant.1 w),
)

pub returns : goal.returns
returns c = λ w. body_ended c.loop-test.false w.body c.loop.written.started (c.loop.invariant.1 w)
