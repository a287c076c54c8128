-- The tables of a sheet that 7 has passed, and which of its declarations have a clause.
use Rattle.std.specs.Prelude.{ℕ, ◌≤◌, ◌<◌, ◌≡◌, Bool, false, List, [], eqb, length, get_or, Option, Some, None}
use Rattle.std.proofs.Math.Option.{none}
use Rattle.syntax.specs.Limits.{declarations}
use Rattle.syntax.specs.Reading.{first_repeat}
use Rattle.syntax.specs.Terms.{arity, Atom, Declaration, Clause, same_predicate}
use Rattle.mode_rules.specs.Written.{is_written}
use Rattle.marks.specs.Tables.{SheetAt}
use Rattle.marks.specs.declared.declarations.Declarations.{Declarations}
use Rattle.marks.specs.Repeating.{nth_declaration}

-- a sheet that was read stands in the tables: no more declarations than there may be, each predicate declared once
pub record DeclaredOnce (s declared : List ℕ) (n : ℕ) (table : List ℕ) (clauses : ℕ) : Type 0 where
  pub stands : SheetAt s declared n table clauses
  pub few : n ≤ declarations
  pub once : first_repeat [] stands.sheet.declarations ≡ none

-- the same of declarations as the code holds them
abbrev pub StandOnce : Declarations → List ℕ → ℕ → Type 0
StandOnce d table clauses = DeclaredOnce d.text.now d.words.now d.count table clauses

-- i is the place, if there is one
abbrev pub is_place : Option ℕ → ℕ → Bool
is_place None i = false
is_place (Some k) i = eqb i k

-- r is the number of the only declaration of an atom's predicate, or none where it has no declaration
pub record OnlyDeclaration (ds : List Declaration) (a : Atom) (r : Option ℕ) : Type 0 where
  pub low : (k : ℕ) → r ≡ Some k → k < length ds
  pub only : (i : ℕ) → i < length ds → same_predicate (nth_declaration ds i).name (length (nth_declaration ds i).marks) a.name (arity a.args) ≡ is_place r i

-- a flag for each declaration: whether it has a clause
abbrev pub Flagged : List Bool → List Declaration → List Clause → Type 0
Flagged flags ds cs = (i : ℕ) → i < length ds → get_or flags i false ≡ is_written cs (nth_declaration ds i)
