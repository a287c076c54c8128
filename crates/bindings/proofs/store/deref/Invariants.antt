use Rattle.bindings.specs.Cells.{StoredTerm, MeansSame}
use Rattle.bindings.proofs.Deref.{depth}
use Rattle.bindings.proofs.store.deref.Given as goal

abbrev pub invariant-loop-next : goal.invariant-loop-next
invariant-loop-next l =
    (g : StoredTerm l.nodes l.state l.fn.from.node l.fn.from.copy) → MeansSame g.known g.ss l.nodes l.state g.n l.fn.from.node l.fn.from.copy l.at.node l.at.copy

abbrev pub decreases-loop-next : goal.decreases-loop-next
decreases-loop-next l =
    depth l.nodes l.at.node l.at.copy
