-- `load::programs::put_heads` meets its contract. The invariant: what is left of the heads makes the whole (`HeadsAhead`). Assumes nothing.
use mathlib.Core.List.{List}
use Rattle.syntax.specs.Terms.{Clause}
use Rattle.run_layout.specs.Nodes.{Symbol}
use Rattle.load.specs.ProgramsRecords.{put_heads}
use Rattle.load.specs.ProgramsPlaces.{HeadsTo}
use Rattle.load.proofs.Sheets.{HeadsAhead}
use Rattle.load.proofs.programs.put_heads.Given as goal

abbrev pub invariant-loop-k : goal.invariant-loop-k
invariant-loop-k l =
    (ss : List Symbol) (cls : List Clause) → HeadsTo ss cls l.table 0 l.q l.clauses l.initial.code 1 → HeadsAhead ss (put_heads ss l.q cls l.initial.code 1) l.table l.at l.node l.clauses l.code l.k
