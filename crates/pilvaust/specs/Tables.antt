-- What the tables hold after a sheet and a goal were read.
use Rattle.std.specs.Prelude.{ℕ, ◌≡◌, List, length, Result, Ok, Err}
use Rattle.syntax.specs.Terms.{Sheet, Goal}
use Rattle.syntax.specs.Verdicts.{Verdict, accepted, goal_outcome, goal_verdict}
use Rattle.syntax.specs.declared.Fault.{Fault}
use Rattle.syntax.specs.Words.{body_words, body_length, declarations_words}
use Rattle.marks.specs.Spelt.{DeclarationsSpelt, GoalSpelt}
use Rattle.words.specs.Tables.{WordsAt}
use Rattle.marks.specs.Tables.{SheetAt}
use Rattle.syntax.specs.Spans.{names_from, met}
use Rattle.answers.specs.Words.{Named}
use Rattle.pilvaust.specs.declared.reading.GoalRead.{GoalRead}

-- the sheet that was read stands in the tables
pub record Tabled (s declared table : List ℕ) (sh : Sheet) : Type 0 where
  pub stands : SheetAt s declared (length sh.declarations) table (length sh.clauses)
  pub is : stands.sheet ≡ sh

-- the goal that was read stands in the table; its k variables are spelt where the last words of the table say
pub record GoalInTable (s table : List ℕ) (literals k : ℕ) (g : Goal) : Type 0 where
  pub has : WordsAt table 0 (body_words g.body)
  pub count : literals ≡ body_length g.body
  pub stands : GoalSpelt s g
  pub named : Named s (met table) k
  pub names_are : g.names ≡ names_from s (met table) 0 k

-- the answer to a goal: the fault that the definition gives, or what was read of a goal that it accepts
abbrev pub GoalTabled : List ℕ → List ℕ → Result GoalRead Fault → Type 0
GoalTabled s table (Err f) = ◌≡◌ {A = Verdict} (Err f) (goal_verdict (goal_outcome s))
GoalTabled s table (Ok r) = (g : Goal) × (goal_outcome s ≡ accepted g) × GoalInTable s table r.literals r.count g

-- a sheet of which the n declarations stand in a table, and which has k clauses
pub record SheetTabled (s declared : List ℕ) (n k : ℕ) : Type 0 where
  pub sheet : Sheet
  pub has : WordsAt declared 0 (declarations_words sheet.declarations)
  pub count : n ≡ length sheet.declarations
  pub clauses : k ≡ length sheet.clauses
  pub stand : DeclarationsSpelt s sheet.declarations
