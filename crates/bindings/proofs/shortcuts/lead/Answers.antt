use Rattle.std.proofs.Common.{None}
use Rattle.bindings.proofs.ShortcutsLaws.{bound-asks, lead-here, lead-on, lead-further}
use Rattle.bindings.proofs.shortcuts.lead.Goals as goal

pub bound_at-requires : goal.bound_at-requires
bound_at-requires c = bound-asks c.args.nodes.now c.args.front.now c.args.from.node c.args.from.copy c.requires

pub returns-in_default : goal.returns-in_default
returns-in_default c = λ g. lead-here c.args.nodes.now c.args.front.now c.args.from.node c.args.from.copy g None c.in_default.ensures

pub bound_at-requires-2 : goal.bound_at-requires-2
bound_at-requires-2 c = bound-asks c.args.nodes.now c.args.front.now c.in-Some.first.node c.in-Some.first.copy (lead-on c.args.nodes.now c.args.front.now c.args.from.node c.args.from.copy c.requires c.in-Some.ensures)

pub returns-in_default-bound_at : goal.returns-in_default-bound_at
returns-in_default-bound_at c = λ g. lead-further c.args.nodes.now c.args.front.now c.args.from.node c.args.from.copy g c.in-Some.ensures (λ h. lead-here c.args.nodes.now c.args.front.now c.in-Some.first.node c.in-Some.first.copy h None c.in_default-bound_at.ensures)

pub bound_at-next-requires : goal.bound_at-next-requires
bound_at-next-requires c = bound-asks c.args.nodes.now c.args.front.now c.in-Some-bound_at.at.node c.in-Some-bound_at.at.copy (lead-on c.args.nodes.now c.args.front.now c.in-Some.first.node c.in-Some.first.copy (lead-on c.args.nodes.now c.args.front.now c.args.from.node c.args.from.copy c.requires c.in-Some.ensures) c.in-Some-bound_at.ensures)

pub returns : goal.returns
returns c = λ g. lead-further c.args.nodes.now c.args.front.now c.args.from.node c.args.from.copy g c.in-Some.ensures (λ h. lead-further c.args.nodes.now c.args.front.now c.in-Some.first.node c.in-Some.first.copy h c.in-Some-bound_at.ensures (λ i. lead-here c.args.nodes.now c.args.front.now c.in-Some-bound_at.at.node c.in-Some-bound_at.at.copy i c.bound_at-next.result c.bound_at-next.ensures))
