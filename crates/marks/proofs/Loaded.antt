-- From what the parser promises of its tables to what this crate's functions ask for. Assumes nothing.
use Prim.Native.Nat.{ℕ, ◌*◌}
use mathlib.Core.Path.{◌≡◌}
use mathlib.Core.List.{List}
use lib.ListN.{length, take}
use Rattle.syntax.specs.Terms.{Sheet, Goal}
use Rattle.syntax.specs.Words.{declarations_words, clauses_words, body_words, body_length, declaration_size}
use Rattle.syntax.specs.Reading.{ok, read_sheet, read_goal}
use Rattle.syntax.specs.Reading.{Cursor}
use Rattle.words.proofs.TablesLaws.{has-taken}
use Rattle.marks.specs.Tables.{SheetAt, GoalAt}
use Rattle.marks.proofs.Accepted.{read-stands, goal_stands}

-- the tables of a sheet that was read
abbrev pub sheet-at : (s declared : List ℕ) (n : ℕ) (table : List ℕ) (used cs : ℕ) (sh : Sheet) (st : Cursor) → read_sheet s ≡ ok sh st
    → take (declaration_size * n) declared ≡ declarations_words sh.declarations → n ≡ length sh.declarations → take used table ≡ clauses_words sh.clauses
    → cs ≡ length sh.clauses → SheetAt s declared n table cs
sheet-at s declared n table used cs sh st e hd nd hc nc = record {
  sheet = sh;
  has_declarations = has-taken declared (declaration_size * n) (declarations_words sh.declarations) hd;
  declarations_count = nd;
  has_clauses = has-taken table used (clauses_words sh.clauses) hc;
  clauses_count = nc;
  stands = read-stands s sh st e;
}

-- the tables of a goal that was read, with the declarations of a sheet
abbrev pub goal-at : (s declared : List ℕ) (n : ℕ) (g table : List ℕ) (used literals : ℕ) (sh : Sheet) (st : Cursor) (goal : Goal) (after : Cursor)
    → read_sheet s ≡ ok sh st → take (declaration_size * n) declared ≡ declarations_words sh.declarations → n ≡ length sh.declarations → read_goal g ≡ ok goal after
    → take used table ≡ body_words goal.body → literals ≡ body_length goal.body → GoalAt s declared n g table literals
goal-at s declared n g table used literals sh st goal after e hd nd eg hb nb = record {
  sheet = sh;
  goal = goal;
  has_declarations = has-taken declared (declaration_size * n) (declarations_words sh.declarations) hd;
  declarations_count = nd;
  declarations_stand = (read-stands s sh st e).declarations;
  has_body = has-taken table used (body_words goal.body) hb;
  literals_count = nb;
  stands = goal_stands g goal after eg;
}
