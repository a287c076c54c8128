use Prim.Native.Nat.{◌≤◌}
use Rattle.bindings.specs.Plain.{Closed}
use Rattle.unify.specs.Turns.{Solvable}
use Rattle.unify.proofs.Solving.{Solving, loop_left}
use Rattle.unify.proofs.solve.solve_pair.Given as goal

abbrev pub invariant-loop-h : goal.invariant-loop-h
invariant-loop-h l =
    ((Closed l.closed l.state) × (1 ≤ l.turns)) × ((g : Solvable l.nodes l.initial.state l.initial.scratch l.n) → Solving g l.state l.scratch l.trail l.h l.count)

abbrev pub decreases-loop-h : goal.decreases-loop-h
decreases-loop-h l =
    loop_left l.nodes l.scratch l.trail l.h l.left
