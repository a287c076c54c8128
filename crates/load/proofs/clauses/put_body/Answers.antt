use Rattle.load.proofs.Turns.{body-begin, ahead-item, item-behind, item-size, ahead-next, ahead-bounds, ahead-end}
use native.Mathlib.Omega.{arith}
use Rattle.load.proofs.clauses.put_body.Goals as goal

pub loop-item-init : goal.loop-item-init
loop-item-init c = λ m b w. body-begin w

pub put_item-requires : goal.put_item-requires
put_item-requires c = let t = ahead-item (omega arith) (c.loop-item.invariant c.requires.0 c.requires.1.0 c.requires.1.1) in
    (c.requires.0, (t.item, t.ready))

pub past_item-next-requires : goal.past_item-next-requires
past_item-next-requires c = let t = ahead-item (omega arith) (c.loop-item.invariant c.requires.0 c.requires.1.0 c.requires.1.1) in
    (t.item, t.ready.has)

pub overflow_sub-next : goal.overflow_sub-next
overflow_sub-next c = let t = ahead-item (omega arith) (c.loop-item.invariant c.requires.0 c.requires.1.0 c.requires.1.1) in
    (item-behind c.args.table.now c.loop-item.read c.past_item-next.result c.past_item-next.ensures t.item t.ready.has).0

pub nodes_of-node-requires : goal.nodes_of-node-requires
nodes_of-node-requires c = let t = ahead-item (omega arith) (c.loop-item.invariant c.requires.0 c.requires.1.0 c.requires.1.1) in
    (item-behind c.args.table.now c.loop-item.read c.past_item-next.result c.past_item-next.ensures t.item t.ready.has).1

pub overflow_add-node : goal.overflow_add-node
overflow_add-node c = let t = ahead-item (omega arith) (c.loop-item.invariant c.requires.0 c.requires.1.0 c.requires.1.1) in
    omega (arith, t.fits, item-size c.args.table.now c.loop-item.read c.past_item-next.result c.past_item-next.ensures t.item t.ready.has c.requires.0.ss c.nodes_of-node.result c.nodes_of-node.ensures)

pub next_literal-literal-requires : goal.next_literal-literal-requires
next_literal-literal-requires c = let t = ahead-bounds (c.loop-item.invariant c.requires.0 c.requires.1.0 c.requires.1.1) in
    omega (arith, t.0, t.1.0)

pub loop-item-preserved : goal.loop-item-preserved
loop-item-preserved c = λ m b w. ahead-next (omega arith) (c.loop-item.invariant m b w) c.put_item.ensures c.past_item-next.ensures c.nodes_of-node.ensures c.next_literal-literal.ensures

pub put-requires : goal.put-requires
put-requires c = (omega (arith, (ahead-bounds (c.loop-item.invariant c.requires.0 c.requires.1.0 c.requires.1.1)).0), omega arith)

pub returns : goal.returns
returns c = λ m b w. ahead-end (omega arith) c.put.ensures (c.loop-item.invariant m b w)
