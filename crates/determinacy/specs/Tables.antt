-- What the functions on the tables of a sheet are given.
use Rattle.std.specs.Prelude.{ℕ, ◌≤◌, List, length}
use Rattle.syntax.specs.Limits.{sheet_bytes}
use Rattle.syntax.specs.Terms.{Goal}
use Rattle.syntax.specs.Words.{sheet_words}
use Rattle.marks.specs.Tables.{SheetAt}
use Rattle.marks.specs.declared.declarations.Declarations.{Declarations}
use Rattle.run_layout.specs.Limits.{SheetLimited}
use Rattle.run_layout.specs.Nodes.{Symbol}
use Rattle.run_layout.specs.Program.{Program}
use Rattle.load.specs.declared.records.Compiled.{Compiled}
use Rattle.determinacy.specs.Overlaps.{NothingBound}

-- a sheet of which the n declarations and k clauses stand in tables, within the limits of RULES
pub record SheetReady (s declared : List ℕ) (n : ℕ) (table : List ℕ) (k : ℕ) : Type 0 where
  pub stands : SheetAt s declared n table k
  pub limits : SheetLimited stands.sheet
  pub short : length s ≤ sheet_bytes
  pub table_short : length table ≤ sheet_words

-- the same, loaded and linked
pub record SheetLinked (s declared : List ℕ) (n : ℕ) (table : List ℕ) (k : ℕ) (nodes code : List ℕ) : Type 0 where
  pub stands : SheetAt s declared n table k
  pub ss : List Symbol
  pub g : Goal
  pub program : Program ss stands.sheet g nodes code

-- the same of declarations and program as the code holds them, and words for unification, without bindings
pub record PairsReady (declared : Declarations) (table : List ℕ) (k : ℕ) (program : Compiled) (state scratch : List ℕ) : Type 0 where
  pub linked : SheetLinked declared.text.now declared.words.now declared.count table k program.nodes.now program.code.now
  pub blank : NothingBound linked.ss program.nodes.now state scratch
