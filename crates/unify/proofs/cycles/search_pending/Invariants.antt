use Rattle.unify.specs.Cycles.{Testable}
use Rattle.unify.proofs.CycleLaws.{PendingLoop}
use Rattle.unify.proofs.cycles.search_pending.Given as goal

abbrev pub invariant-loop-k : goal.invariant-loop-k
invariant-loop-k l =
    (g : Testable l.nodes l.state l.initial.scratch l.pending) → PendingLoop g l.fn.limit l.scratch l.m l.left l.k
