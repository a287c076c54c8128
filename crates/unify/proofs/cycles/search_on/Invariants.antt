use Rattle.unify.specs.Cycles.{Searching, search_left}
use Rattle.unify.proofs.CycleLaws.{SearchLoop}
use Rattle.unify.proofs.cycles.search_on.Given as goal

abbrev pub invariant-loop-p : goal.invariant-loop-p
invariant-loop-p l =
    (g : Searching l.nodes l.state l.initial.scratch l.fn.start) → SearchLoop g l.scratch l.p

abbrev pub decreases-loop-p : goal.decreases-loop-p
decreases-loop-p l =
    search_left l.p
