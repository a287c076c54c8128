use Rattle.bindings.proofs.Deref.{depth}
use Rattle.bindings.specs.Chains.{Linked}
use Rattle.bindings.proofs.ShortcutsLaws.{WayTo}
use Rattle.bindings.proofs.shortcuts.way_on.Given as goal

abbrev pub invariant-loop-there : goal.invariant-loop-there
invariant-loop-there l = (g : Linked l.nodes l.front l.scratch l.fn.from l.fn.next) → WayTo g l.last l.at

abbrev pub decreases-loop-there : goal.decreases-loop-there
decreases-loop-there l = depth l.nodes l.at.node l.at.copy
