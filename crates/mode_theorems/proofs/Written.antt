-- Refusal 16: a sheet is free of it exactly where every declared predicate is written or exempt; without the mark a sheet's fault is that with the mark,
-- or 16. Assumes nothing.
use Prim.Native.Nat.{ℕ}
use mathlib.Core.Path.{◌≡◌, refl, ap, ◌∙◌}
use mathlib.Core.Logic.{◌⊎◌, inl, inr, ⊎_elim}
use mathlib.Core.Bool.{Bool, true, false, ◌||◌}
use mathlib.Core.List.{List, [], ◌∷◌}
use mathlib.Core.Option.{Option, none, some}
use native.Mathlib.Omega.{arith}
use Rattle.syntax.specs.Terms.{Declaration, Clause, Sheet}
use Rattle.syntax.specs.declared.Refusal.{Refusal}
use Rattle.syntax.specs.declared.Refusal.TheVariants.{Unwritten}
use Rattle.mode_rules.specs.Modes.{undeclared_in_sheet, clauses_fault, first_of, sheet_fault}
use Rattle.mode_rules.specs.Written.{writes, is_written, is_exempt, first_unwritten, unwritten, WrittenIn, here, later, AllWritten, no_more, written, exempt, WrittenOrStored}

-- ---- one declaration

or-either : (a b : Bool) → (a || b) ≡ true → (a ≡ true) ⊎ (b ≡ true)
or-either true b e = inl refl
or-either false b e = inr e

or-second : (a b : Bool) → b ≡ true → (a || b) ≡ true
or-second true b e = refl
or-second false b e = e

or-first : (a b : Bool) → a ≡ true → (a || b) ≡ true
or-first a b e = rw e

written-true : {d : Declaration} {cs : List Clause} → WrittenIn d cs → is_written cs d ≡ true
unfolding is_written
written-true {d} (here {c} {cs} e) = or-first (writes d c) (is_written cs d) e
written-true {d} (later {c} {cs} w) = or-second (writes d c) (is_written cs d) (written-true w)

true-written : (d : Declaration) (cs : List Clause) → is_written cs d ≡ true → WrittenIn d cs
unfolding is_written
true-written d [] e = absurd (let z : ◌≡◌ {A = ℕ} 0 1 = cc in omega arith)
true-written d (c ∷ cs) e = ⊎_elim (λ h. here h) (λ h. later (true-written d cs h)) (or-either (writes d c) (is_written cs d) e)

-- ---- all of them

passes : (d : Declaration) (ds : List Declaration) (cs : List Clause) → (is_written cs d || is_exempt d) ≡ true → first_unwritten cs (d ∷ ds) ≡ first_unwritten cs ds
unfolding first_unwritten
passes d ds cs e = rw (e, first_unwritten)

all-accepted : {cs : List Clause} {ds : List Declaration} → AllWritten cs ds → first_unwritten cs ds ≡ none
all-accepted no_more = unfold first_unwritten in refl
all-accepted {cs} (written {d} {ds} w h) = passes d ds cs (or-first (is_written cs d) (is_exempt d) (written-true w)) ∙ all-accepted h
all-accepted {cs} (exempt {d} {ds} e h) = passes d ds cs (or-second (is_written cs d) (is_exempt d) e) ∙ all-accepted h

all-derived : (cs : List Clause) (ds : List Declaration) → first_unwritten cs ds ≡ none → AllWritten cs ds
unfolding first_unwritten
all-derived cs [] e = no_more
all-derived cs (d ∷ ds) e = by (is_written cs d) (is_exempt d) refl refl e (all-derived cs ds)
  where
    by : (a b : Bool) → is_written cs d ≡ a → is_exempt d ≡ b
        → ◌≡◌ {A = Option Refusal} (elim (a || b) [ true ↦ first_unwritten cs ds | false ↦ some (Unwritten d.at) ]) none
        → (first_unwritten cs ds ≡ none → AllWritten cs ds) → AllWritten cs (d ∷ ds)
    by true b p q h f = written (true-written d cs p) (f h)
    by false true p q h f = exempt q (f h)
    by false false p q h f = absurd (let z : ◌≡◌ {A = ℕ} 0 1 = cc in omega arith)

-- ---- a sheet

pub written-accepted : (stored : Bool) (sh : Sheet) → WrittenOrStored stored sh → unwritten stored sh ≡ none
unfolding unwritten
written-accepted true sh w = refl
written-accepted false sh w = all-accepted w

pub written-derived : (stored : Bool) (sh : Sheet) → unwritten stored sh ≡ none → WrittenOrStored stored sh
unfolding unwritten
written-derived true sh e = tt
written-derived false sh e = all-derived sh.clauses sh.declarations e

-- what is found is 16
found-16 : (cs : List Clause) (ds : List Declaration) → (first_unwritten cs ds ≡ none) ⊎ ((byte : ℕ) × (first_unwritten cs ds ≡ some (Unwritten byte)))
unfolding first_unwritten
found-16 cs [] = inl refl
found-16 cs (d ∷ ds) = by (is_written cs d || is_exempt d) (found-16 cs ds)
  where
    one : Bool → Option Refusal
    one b = elim b [ true ↦ first_unwritten cs ds | false ↦ some (Unwritten d.at) ]

    by : (b : Bool) → (first_unwritten cs ds ≡ none) ⊎ ((byte : ℕ) × (first_unwritten cs ds ≡ some (Unwritten byte)))
        → (one b ≡ none) ⊎ ((byte : ℕ) × (one b ≡ some (Unwritten byte)))
    by true h = h
    by false h = inr (d.at, refl)

-- "this test is passed over": without the mark the first fault is the one with it, or 16.
pub mark-turns-only-16 : (sh : Sheet) → (sheet_fault false sh ≡ sheet_fault true sh) ⊎ ((byte : ℕ) × (sheet_fault false sh ≡ some (Unwritten byte)))
unfolding sheet_fault unwritten
mark-turns-only-16 sh =
    by (undeclared_in_sheet sh) (first_unwritten sh.clauses sh.declarations) (clauses_fault sh.declarations 1 sh.clauses) (found-16 sh.clauses sh.declarations)
  where
    by : (o p q : Option Refusal) → (p ≡ none) ⊎ ((byte : ℕ) × (p ≡ some (Unwritten byte)))
        → (first_of o (first_of p q) ≡ first_of o q) ⊎ ((byte : ℕ) × (first_of o (first_of p q) ≡ some (Unwritten byte)))
    by (some r) p q h = inl refl
    by none p q (inl e) = inl (ap (λ (x : Option Refusal). first_of x q) e)
    by none p q (inr h) = inr (h.0, ap (λ (x : Option Refusal). first_of x q) h.1)
