-- A sheet and a goal as they were read into their tables.
use Rattle.std.specs.Prelude.{ℕ, ◌+◌, ◌*◌, ◌^◌, ◌<◌, ◌≤◌, ◌≡◌, min, List}
use Rattle.run_layout.specs.Regions.{stack, deepest, open_size, rows}
use Rattle.syntax.specs.Terms.{Sheet, Goal}
use Rattle.run_layout.specs.Nodes.{Symbol}
use Rattle.run_layout.specs.Limits.{ProgramLimited, GoalLimited}
use Rattle.run_layout.specs.Program.{Program}
use Rattle.run_layout.specs.SymbolNames.{SymbolsSpelt}
use Rattle.syntax.specs.Spans.{names_from}
use Rattle.answers.specs.Words.{Named}
use Rattle.answers.specs.Fitting.{Tellable}
use Rattle.load.specs.Loading.{BothTabled}
use Rattle.run.specs.declared.telling.LoadedProgram.{LoadedProgram}
use Rattle.run.specs.Telling.{Spelt}

-- so many words are enough for unification, and for answers in a text of so many bytes, and no more than an array can have
pub record RoomFor (words room : ℕ) : Type 0 where
  pub array : words < 2 ^ 61
  pub rows_fit : rows ≤ words
  pub brackets_fit : min (deepest * open_size) (room * 2 + 4) + stack ≤ words

-- A sheet and a goal in tables, within the limits of a program and of a goal.
pub record LimitedTables (sheet table : List ℕ) (clauses : ℕ) (goal goals : List ℕ) (literals : ℕ) : Type 0 where
  pub tables : BothTabled sheet table clauses goal goals literals
  pub limits : ProgramLimited tables.sh
  pub goal_limits : GoalLimited tables.g

-- The same, and the goal's variables are spelt in it.
pub record Programmed (sheet table : List ℕ) (clauses : ℕ) (goal goals : List ℕ) (literals : ℕ) (names : List ℕ) (count : ℕ) : Type 0 where
  pub tables : BothTabled sheet table clauses goal goals literals
  pub limits : ProgramLimited tables.sh
  pub goal_limits : GoalLimited tables.g
  pub named : Named goal names count
  pub names_are : tables.g.names ≡ names_from goal names 0 count

-- A sheet and a goal loaded and linked; the symbols are spelt in the two texts.
pub record LinkedTables (sheet goal : List ℕ) (sh : Sheet) (g : Goal) (nodes symbols code : List ℕ) : Type 0 where
  pub ss : List Symbol
  pub program : Program ss sh g nodes code
  pub spelt : SymbolsSpelt ss symbols sheet goal

-- loaded and linked
pub record ProgramLinked (loaded : LoadedProgram) : Type 0 where
  pub ss : List Symbol
  pub sh : Sheet
  pub g : Goal
  pub program : Program ss sh g loaded.nodes.now loaded.code.now
  pub spelt : Spelt ss g loaded
