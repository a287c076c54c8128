use Prim.Native.Nat.{◌-◌}
use Rattle.bindings.specs.Cells.{StoredTerm}
use Rattle.unify.proofs.CycleLaws.{ShallowTo}
use Rattle.unify.proofs.cycles.is_shallow.Given as goal

abbrev pub invariant-loop-i : goal.invariant-loop-i
invariant-loop-i l =
    (g : StoredTerm l.nodes l.state l.fn.at.node l.fn.at.copy) → ShallowTo g l.x l.i

abbrev pub decreases-loop-i : goal.decreases-loop-i
decreases-loop-i l =
    l.e - l.i
