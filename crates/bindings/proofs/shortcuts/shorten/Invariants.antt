use Rattle.bindings.proofs.Deref.{depth}
use Rattle.bindings.specs.Chains.{Shortenable}
use Rattle.bindings.proofs.ShortcutsLaws.{WalkTo}
use Rattle.bindings.proofs.shortcuts.shorten.Given as goal

abbrev pub invariant-loop-next : goal.invariant-loop-next
invariant-loop-next l = (g : Shortenable l.nodes l.front l.initial.scratch l.fn.from l.fn.last) → WalkTo g l.scratch l.at

abbrev pub decreases-loop-next : goal.decreases-loop-next
decreases-loop-next l = depth l.nodes l.at.node l.at.copy
