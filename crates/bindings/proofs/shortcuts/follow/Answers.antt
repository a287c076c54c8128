-- `bindings::shortcuts::follow` meets its contract. Assumes nothing.
use mathlib.Core.Path.{refl, sym}
use Rattle.bindings.proofs.ShortcutsLaws.{none-is, both_right, both-far, both-done, both-near, both-pairable, both-joined}
use Rattle.bindings.proofs.shortcuts.follow.Goals as goal

pub returns-then-is_none-2 : goal.returns-then-is_none-2
returns-then-is_none-2 c = λ g. both-near g (c.lead-l.ensures g.left.from) (none-is _ c.if-is_none.ensures) (c.lead-r.ensures (both_right g)) (none-is _ c.if-is_none-2.ensures)

pub follow_on-e-requires : goal.follow_on-e-requires
follow_on-e-requires c = both-far c.requires c.requires.left.from.long (λ x l. refl) (c.lead-l.ensures c.requires.left.from).leads (c.lead-r.ensures (both_right c.requires)).leads

pub join-requires : goal.join-requires
join-requires c = both-pairable c.requires (both-done c.requires c.requires.left.from.long (λ x l. refl) (c.lead-l.ensures c.requires.left.from).leads (c.lead-r.ensures (both_right c.requires)).leads c.follow_on-e.ensures)

pub returns : goal.returns
returns c = λ g. both-joined g (both-done g g.left.from.long (λ x l. refl) (c.lead-l.ensures g.left.from).leads (c.lead-r.ensures (both_right g)).leads c.follow_on-e.ensures) c.join.ensures
