-- What linking is given: the tables as they were read, and the loaded nodes.
use Rattle.std.specs.Prelude.{ℕ, ◌≤◌, ◌≡◌, List, T, length}
use Rattle.syntax.specs.Terms.{Sheet, Goal}
use Rattle.syntax.specs.Words.{sheet_words, program_words, body_words, body_length, clauses_words}
use Rattle.words.specs.Tables.{WordsAt}
use Rattle.run_layout.specs.Regions.{code_words, places}
use Rattle.run_layout.specs.Nodes.{Symbol}
use Rattle.run_layout.specs.Limits.{ProgramLimited, GoalLimited}
use Rattle.run_layout.specs.Program.{program_nodes, body_loadable, clauses_loadable}

pub record Linkable (table : List ℕ) (clauses : ℕ) (goals : List ℕ) (literals : ℕ) (nodes code : List ℕ) : Type 0 where
  pub ss : List Symbol
  pub sh : Sheet
  pub g : Goal
  pub has_clauses : WordsAt table 0 (clauses_words sh.clauses)
  pub clauses_count : clauses ≡ length sh.clauses
  pub has_goal : WordsAt goals 0 (body_words g.body)
  pub literals_count : literals ≡ body_length g.body
  pub limits : ProgramLimited sh
  pub goal_limits : GoalLimited g
  pub nodes_stand : WordsAt nodes 0 (program_nodes ss sh g)
  pub goal_loadable : T (body_loadable ss g.body)
  pub clauses-loadable : T (clauses_loadable ss sh.clauses)
  pub nodes_short : length nodes ≤ places
  pub table_short : length table ≤ program_words
  pub goals_short : length goals ≤ sheet_words
  pub code_room : code_words ≤ length code
  pub code_short : length code ≤ places
