-- `load::nodes::copying::copy_clauses` meets its contract. The invariant: what is left of the clauses gives the whole (`Clausing`). Assumes nothing.
use mathlib.Core.Path.{◌≡◌}
use lib.ListN.{length}
use Rattle.load.specs.Flat.{clauses_parsed, flat_words, flat_all, ClausesHere}
use Rattle.load.proofs.NodesClauses.{Clausing}
use Rattle.load.proofs.nodes.copying.copy_clauses.Given as goal

abbrev pub invariant-loop-clause : goal.invariant-loop-clause
invariant-loop-clause l =
    ((length l.nodes ≡ length l.initial.nodes) × ((w : ClausesHere l.table 0 l.clauses) → Clausing l.table l.clauses l.initial.nodes l.at (flat_words (flat_all 0 (clauses_parsed w.list))) l.nodes l.p l.q l._clause))
