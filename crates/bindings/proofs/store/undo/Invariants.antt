use Rattle.std.proofs.Common.{◌≤◌}
use Rattle.bindings.specs.Cells.{Undone}
use Rattle.bindings.proofs.store.undo.Given as goal

abbrev pub invariant-loop-i : goal.invariant-loop-i
invariant-loop-i l =
    (l.mark ≤ l.i) × Undone l.initial.state l.state l.i l.n
