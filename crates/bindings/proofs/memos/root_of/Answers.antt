use Rattle.std.proofs.Common.{refl, arith}
use Rattle.bindings.proofs.Remembering.{reaches-on}
use Rattle.bindings.proofs.memos.root_of.Goals as goal

pub loop-preserved : goal.loop-preserved
loop-preserved c = (omega (arith, c.if-w-gt-CLASS_COUNT.false, c.if-w-eq0.false), reaches-on c.args.scratch.now c.args.i c.loop.r c.link_at-w.result c.loop.invariant.1 c.link_at-w.ensures c.if-w-eq0.false c.if-w-gt-CLASS_COUNT.false _ refl)
