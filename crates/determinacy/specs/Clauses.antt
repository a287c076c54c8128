-- Clauses in a table, and their numbers.
use Rattle.std.specs.Prelude.{ℕ, ◌≡◌, List, length, Option as Told, Some, None}
use Rattle.std.proofs.Math.Option.{Option, none, some}
use Rattle.syntax.specs.Terms.{Clause}
use Rattle.syntax.specs.Words.{clauses_words}
use Rattle.words.specs.Tables.{WordsAt}

-- a clause's number as the code tells it; clauses count from 1
unfoldable pub told_number : Option ℕ → Told ℕ
told_number none = None
told_number (some n) = Some n

-- so many clauses stand in a table
pub record ClausesIn (table : List ℕ) (k : ℕ) : Type 0 where
  pub list : List Clause
  pub has : WordsAt table 0 (clauses_words list)
  pub count : k ≡ length list
