-- All items are appended, one after another.
use Rattle.std.proofs.Common.{arith, ◌∙◌}
use Rattle.words.proofs.BuffersLaws.{one_more}
use Rattle.words.proofs.buffers.append_all.Goals as goal

pub loop-i-preserved : goal.loop-i-preserved
loop-i-preserved g c = (
  c.append_item-past.auto.out ∙ c.loop-i.invariant.0,
  omega (arith, c.append_item-past.ensures.past, c.loop-i.invariant.1),
  one_more c.args.items.now c.loop-i.i c.index-items-i.result c.loop-i-test.true c.index-items-i.is c.loop-i.invariant.2 c.append_item-past.ensures,
)
