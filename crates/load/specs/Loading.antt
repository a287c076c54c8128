-- What loading the nodes is given, and what the tables then hold.
use Rattle.std.specs.Prelude.{ℕ, ◌≤◌, ◌≡◌, List, T, length}
use Rattle.syntax.specs.Limits.{goal_bytes}
use Rattle.syntax.specs.Terms.{Sheet, Goal}
use Rattle.syntax.specs.Words.{body_words, body_length, clauses_words, program_words, goal_words, program_bytes}
use Rattle.marks.specs.Spelt.{BodySpelt, ClausesSpelt}
use Rattle.words.specs.Tables.{WordsAt}
use Rattle.run_layout.specs.Regions.{nodes_words, places}
use Rattle.run_layout.specs.Nodes.{Symbol}
use Rattle.run_layout.specs.Program.{program_nodes, body_loadable, clauses_loadable}
use Rattle.run_layout.specs.SymbolNames.{SymbolsSpelt}

-- A sheet's clauses and a goal as they were read into their tables.
pub record BothTabled (sheet table : List ℕ) (clauses : ℕ) (goal goals : List ℕ) (literals : ℕ) : Type 0 where
  pub sh : Sheet
  pub g : Goal
  pub has_clauses : WordsAt table 0 (clauses_words sh.clauses)
  pub clauses_count : clauses ≡ length sh.clauses
  pub clauses_stand : ClausesSpelt sheet sh.clauses
  pub has_goal : WordsAt goals 0 (body_words g.body)
  pub literals_count : literals ≡ body_length g.body
  pub goal_stands : BodySpelt goal g.body
  pub sheet_short : length sheet ≤ program_bytes
  pub goal_short : length goal ≤ goal_bytes
  pub table_short : length table ≤ program_words
  pub goals_short : length goals ≤ goal_words

-- The same; room for nodes and symbols.
pub record Loadable (sheet table : List ℕ) (clauses : ℕ) (goal goals : List ℕ) (literals : ℕ) (nodes symbols : List ℕ) : Type 0 where
  pub tables : BothTabled sheet table clauses goal goals literals
  pub nodes_room : nodes_words ≤ length nodes
  pub nodes_short : length nodes ≤ places
  pub symbols_room : nodes_words ≤ length symbols
  pub symbols_short : length symbols ≤ places

-- The symbols of both texts are listed and spelt, and the nodes stand.
pub record Loaded (sheet goal : List ℕ) (sh : Sheet) (g : Goal) (nodes symbols : List ℕ) : Type 0 where
  pub ss : List Symbol
  pub names : SymbolsSpelt ss symbols sheet goal
  pub nodes_stand : WordsAt nodes 0 (program_nodes ss sh g)
  pub goal_loadable : T (body_loadable ss g.body)
  pub clauses-loadable : T (clauses_loadable ss sh.clauses)
