use Prim.Native.Nat.{ℕ, ◌-◌}
use mathlib.Core.List.{List}
use Rattle.std.proofs.Common.{Ok}
use Rattle.unify.specs.Turns.{Turnable, TurnGives, moved_to}
use Rattle.unify.specs.Shapes.{SafeTurnable, NoMoreLeft}
use Rattle.unify.proofs.solve.past_same.Given as goal

abbrev pub invariant-loop-left : goal.invariant-loop-left
invariant-loop-left l =
    ((state : List ℕ) (s : SafeTurnable l.nodes state l.scratch l.fn.h) → NoMoreLeft s.work (moved_to l.scratch l.fn.h l.i l.j) (Ok l.fn.h))
    × ((state : List ℕ) (g : Turnable l.nodes state l.scratch l.fn.h) → TurnGives g.work (moved_to l.scratch l.fn.h l.i l.j) (Ok l.fn.h))

abbrev pub decreases-loop-left : goal.decreases-loop-left
decreases-loop-left l = l.e - l.i
