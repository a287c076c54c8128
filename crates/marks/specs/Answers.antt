-- The definitions' answers as the code gives them.
use Rattle.std.specs.Prelude.{ℕ, suc, ◌+◌, ◌*◌, true, false, List, [], ◌∷◌, length, get_or, Option, Some, None, Result, Ok, Err}
use Rattle.std.specs.Prelude.{option_map}
use Rattle.std.proofs.Math.Option as maybe
use Rattle.std.proofs.Math.Option.{none, some}
use Rattle.syntax.specs.Terms.{Atom, Declaration, arity, same_predicate}
use Rattle.syntax.specs.Words.{declaration_size}
use Rattle.syntax.specs.declared.Refusal.{Refusal}
use Rattle.syntax.specs.declared.Entry.{Entry}

-- what a check gives: no fault, or the first one
abbrev pub Checked : Type 0
Checked = Result (Unit {0}) Refusal

abbrev pub checked_of : maybe.Option Refusal → Checked
checked_of none = Ok tt
checked_of (some r) = Err r

-- a name's byte, length and number of arguments
abbrev pub atom_name : Atom → Entry
atom_name a = record { at = a.at; len = length a.name; arguments = arity a.args }

-- no open variable, or the byte of the first one
abbrev pub groundness_of : maybe.Option ℕ → Option ℕ
groundness_of none = None
groundness_of (some byte) = Some byte

-- the place of a predicate's first declaration among some, or none where it has no declaration
unfoldable pub position : List Declaration → List ℕ → ℕ → Option ℕ
position [] name n = None
position (d ∷ ds) name n = elim (same_predicate d.name (length d.marks) name n) [ true ↦ Some 0 | false ↦ option_map suc (position ds name n) ]
