use Prim.Native.Nat.{◌-◌}
use mathlib.Core.Path.{◌≡◌}
use Rattle.run_layout.specs.Regions.{places}
use Rattle.run_layout.specs.Program.{record_kind}
use Rattle.run.specs.Moves.{Settlable}
use Rattle.run.proofs.LayLaws.{Sliding}
use Rattle.run.proofs.alternatives.laying.settled.Given as goal

abbrev pub invariant-loop-kind : goal.invariant-loop-kind
invariant-loop-kind l =
    (l.kind ≡ record_kind l.code l.literal) × ((w : Settlable l.code l.l) → Sliding w.sh w.g l.code w.state w.copy l.l l.literal)

abbrev pub decreases-loop-kind : goal.decreases-loop-kind
decreases-loop-kind l =
    places - l.literal
