use native.Mathlib.Omega.{arith}
use mathlib.Core.Path.{refl, ◌∙◌}
use Rattle.load.specs.Flat.{number_of}
use Rattle.load.proofs.Bodies.{body-begin, body-turn, body_end}
use Rattle.load.proofs.nodes.copying.copy_body.Goals as goal

pub loop-item-init : goal.loop-item-init
loop-item-init c = (refl, λ w. body-begin c.args.table.now c.args.from c.args.items (number_of c.args.source) c.args.nodes.now c.args.at c.requires.room.1.1 w)

pub overflow_add-first : goal.overflow_add-first
overflow_add-first c = omega (arith, (body-turn (omega arith) (c.loop-item.invariant.1 c.requires.body_here)).inside, c.requires.room.0)

pub past_item-next-requires : goal.past_item-next-requires
past_item-next-requires c = let t = body-turn (omega arith) (c.loop-item.invariant.1 c.requires.body_here) in
    (t.item, t.has)

pub copy_nodes-q-requires : goal.copy_nodes-q-requires
copy_nodes-q-requires c = let pre = c.requires in
    let t = body-turn (omega arith) (c.loop-item.invariant.1 pre.body_here) in
    record { room = (pre.room.0, (omega (arith, c.loop-item.invariant.0, pre.room.1.0), t.near)); run_at = t.run c.past_item-next.result (c.past_item-next.ensures t.item t.has) }

pub loop-item-preserved : goal.loop-item-preserved
loop-item-preserved c = let next = c.past_item-next.result in (
  c.copy_nodes-q.auto.nodes ∙ c.loop-item.invariant.0,
  λ w.
      let t = body-turn (omega arith) (c.loop-item.invariant.1 w) in
      let e = c.past_item-next.ensures t.item t.has in
      t.on next c.copy_nodes-q.new.nodes c.copy_nodes-q.result e (c.copy_nodes-q.ensures (t.run next e)),
)

pub returns : goal.returns
returns c = λ w. body_end (omega arith) (c.loop-item.invariant.1 w)
