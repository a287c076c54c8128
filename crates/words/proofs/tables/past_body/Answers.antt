use Rattle.words.proofs.Items.{on-begin, on-first, on-next, on-end}
use Rattle.words.proofs.tables.past_body.Goals as goal

pub loop-init : goal.loop-init
loop-init c = on-begin c.args.table.now c.args.p c.args.items

pub past_item-at-requires : goal.past_item-at-requires
past_item-at-requires c = on-first c.loop-test.true (c.loop.invariant c.requires.0 c.requires.1)

pub loop-preserved : goal.loop-preserved
loop-preserved c = λ b w. on-next c.loop-test.true (c.loop.invariant b w) c.past_item-at.ensures

pub returns : goal.returns
returns c = λ b w. on-end c.loop-test.false (c.loop.invariant b w)
