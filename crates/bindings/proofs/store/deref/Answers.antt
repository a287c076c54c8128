use Rattle.std.proofs.Common.{refl}
use Rattle.bindings.specs.Cells.{bound_at}
use Rattle.bindings.proofs.Deref.{place, leads-begin, leads-on, leads-end, depth_falls}
use Rattle.bindings.proofs.store.deref.Goals as goal

pub loop-next-init : goal.loop-next-init
loop-next-init c = λ g. leads-begin c.args.nodes.now c.args.state.now c.args.from.node c.args.from.copy g

pub bound_at-requires : goal.bound_at-requires
bound_at-requires c = let k = c.loop-next.invariant c.requires in place c.requires.ss c.args.nodes.now c.args.state.now c.requires.n c.loop-next.at.node c.loop-next.at.copy c.requires.store k.node k.copy

pub loop-next-smaller : goal.loop-next-smaller
loop-next-smaller c = depth_falls c.args.nodes.now c.args.state.now c.args.from.node c.args.from.copy c.loop-next.at.node c.loop-next.at.copy (bound_at c.args.nodes.now c.args.state.now c.loop-next.at.node c.loop-next.at.copy) c.requires (c.loop-next.invariant c.requires) refl c.in-Some.ensures.0 c.in-Some.ensures.1

pub loop-next-preserved : goal.loop-next-preserved
loop-next-preserved c = λ g. leads-on c.args.nodes.now c.args.state.now c.args.from.node c.args.from.copy c.loop-next.at.node c.loop-next.at.copy (bound_at c.args.nodes.now c.args.state.now c.loop-next.at.node c.loop-next.at.copy) g (c.loop-next.invariant g) refl c.in-Some.ensures.0 c.in-Some.ensures.1

pub returns : goal.returns
returns c = λ g. leads-end c.args.nodes.now c.args.state.now c.args.from.node c.args.from.copy c.loop-next.at.node c.loop-next.at.copy (bound_at c.args.nodes.now c.args.state.now c.loop-next.at.node c.loop-next.at.copy) g (c.loop-next.invariant g) refl c.in_default.ensures
