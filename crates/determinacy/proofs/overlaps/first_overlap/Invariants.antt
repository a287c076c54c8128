-- `determinacy::overlaps::first_overlap` meets its contract. The invariant: the search from what is told on gives the answer of the whole (`Told_seeking`). Assumes nothing.
use mathlib.Core.Path.{◌≡◌}
use lib.ListN.{length}
use Rattle.determinacy.specs.Overlaps.{ClauseOf}
use Rattle.determinacy.proofs.OverlapLaws.{Told_seeking, reach_told}
use Rattle.determinacy.proofs.overlaps.first_overlap.Given as goal

abbrev pub invariant-loop-next : goal.invariant-loop-next
invariant-loop-next l =
    (length l.state ≡ length l.initial.state) × ((length l.scratch ≡ length l.initial.scratch) × ((w : ClauseOf l.program.nodes.now l.program.code.now l.initial.state l.initial.scratch l.i l.marks) → Told_seeking w l.state l.scratch l.next))

abbrev pub decreases-loop-next : goal.decreases-loop-next
decreases-loop-next l =
    reach_told l.program.code.now l.next
