use Prim.Native.Nat.{◌-◌}
use Rattle.unify.specs.Cycles.{Lookable, LookedTo}
use Rattle.unify.proofs.cycles.next_place.Given as goal

abbrev pub invariant-loop-i : goal.invariant-loop-i
invariant-loop-i l =
    (g : Lookable l.nodes l.state l.scratch l.fn.from l.e) → LookedTo g.ss l.nodes l.state l.scratch l.fn.from l.e l.i

abbrev pub decreases-loop-i : goal.decreases-loop-i
decreases-loop-i l =
    l.e - l.i
