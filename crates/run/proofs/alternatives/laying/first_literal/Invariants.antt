use Rattle.run.specs.Moves.{Climbable}
use Rattle.run.proofs.LayLaws.{Along}
use Rattle.run.proofs.alternatives.laying.first_literal.Given as goal

abbrev pub invariant-loop-copy : goal.invariant-loop-copy
invariant-loop-copy l =
    (w : Climbable l.code l.state l.fn.at.copy l.fn.at.literal) → Along w.sh w.g l.code l.state w.path l.fn.at.copy l.fn.at.literal l.copy l.literal

abbrev pub decreases-loop-copy : goal.decreases-loop-copy
decreases-loop-copy l =
    l.copy
