-- `load::programs::put_clauses` meets its contract. The invariant: what is left of the clauses makes the whole (`ClausesAhead`). Assumes nothing.
use mathlib.Core.List.{List}
use Rattle.syntax.specs.Terms.{Clause}
use Rattle.run_layout.specs.Regions.{clause_bodies}
use Rattle.load.specs.Search.{Meant}
use Rattle.load.specs.ProgramsRecords.{put_clauses}
use Rattle.load.specs.ProgramsPlaces.{ClausesTo, first_clause}
use Rattle.load.proofs.Sheets.{ClausesAhead}
use Rattle.load.proofs.programs.put_clauses.Given as goal

abbrev pub invariant-loop-k : goal.invariant-loop-k
invariant-loop-k l =
    (m : Meant) (cls : List Clause) → ClausesTo m cls l.table l.heads l.initial.code 1 (first_clause l.q)
    → ClausesAhead m (put_clauses m.ss m.sh l.q cls l.initial.code 1 clause_bodies) l.table l.heads l.code l.k (record { read = l.read; node = l.node; literal = l.literal })
