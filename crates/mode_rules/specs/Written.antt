-- Declared predicates without a clause: refusal 16 (REQUESTS (x), "Declared and never written").
use Rattle.std.specs.Prelude.{◌≡◌, Bool, true, false, ◌||◌, List, [], ◌∷◌, length}
use Rattle.std.proofs.Math.Option.{Option, none, some}
use Rattle.syntax.specs.Terms.{arity, Declaration, Clause, Sheet, same_predicate, seen_name, seen_arguments}
use Rattle.syntax.specs.declared.Refusal.{Refusal}
use Rattle.syntax.specs.declared.Refusal.TheVariants.{Unwritten}

-- a clause is one of the declared predicate
abbrev pub writes : Declaration → Clause → Bool
writes d c = same_predicate d.name (length d.marks) c.head.name (arity c.head.args)

-- a declared predicate has a clause
unfoldable pub is_written : List Clause → Declaration → Bool
is_written [] d = false
is_written (c ∷ cs) d = writes d c || is_written cs d

-- "`seen` with three arguments is exempt"
abbrev pub is_exempt : Declaration → Bool
is_exempt d = same_predicate d.name (length d.marks) seen_name seen_arguments

-- "A declared predicate without clauses is refused from now on, the byte being the first such name"
unfoldable pub first_unwritten : List Clause → List Declaration → Option Refusal
first_unwritten cs [] = none
first_unwritten cs (d ∷ ds) = elim (is_written cs d || is_exempt d) [ true ↦ first_unwritten cs ds | false ↦ some (Unwritten d.at) ]

-- "Sheets stored earlier still run: a run … takes a mark for them, and with it this test is passed over." `stored` is the mark.
unfoldable pub unwritten : Bool → Sheet → Option Refusal
unwritten true sh = none
unwritten false sh = first_unwritten sh.clauses sh.declarations

-- ---- the same as rules, for the theorem that both agree

-- a clause of the declared predicate stands among some
pub data WrittenIn (d : Declaration) : List Clause → Type 0 where
  here : {c : Clause} {cs : List Clause} → writes d c ≡ true → WrittenIn d (c ∷ cs)
  later : {c : Clause} {cs : List Clause} → WrittenIn d cs → WrittenIn d (c ∷ cs)

-- every declared predicate is written or exempt
pub data AllWritten (cs : List Clause) : List Declaration → Type 0 where
  no_more : AllWritten cs []
  written : {d : Declaration} {ds : List Declaration} → WrittenIn d cs → AllWritten cs ds → AllWritten cs (d ∷ ds)
  exempt : {d : Declaration} {ds : List Declaration} → is_exempt d ≡ true → AllWritten cs ds → AllWritten cs (d ∷ ds)

-- what 16 asks of a sheet, by the mark: nothing with it
abbrev pub WrittenOrStored : Bool → Sheet → Type 0
WrittenOrStored true sh = Unit {0}
WrittenOrStored false sh = AllWritten sh.clauses sh.declarations
