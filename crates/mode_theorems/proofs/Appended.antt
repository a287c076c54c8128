-- Clauses behind those of a sheet without fault: where they have none by themselves, the sheet with them has none. Assumes nothing.
use Prim.Native.Nat.{ℕ, suc}
use mathlib.Core.Path.{◌≡◌, refl, sym, ◌∙◌}
use mathlib.Core.Bool.{Bool, true, false}
use mathlib.Core.List.{List, [], ◌∷◌, ◌++◌}
use mathlib.Core.Option.{Option, none}
use Rattle.syntax.specs.Terms.{Declaration, Clause, Sheet}
use Rattle.syntax.specs.declared.Refusal.{Refusal}
use Rattle.mode_rules.specs.Modes.{undeclared_clause, undeclared_clauses, undeclared_in_sheet, clause_fault, clauses_fault, first_of, sheet_fault}
use Rattle.mode_rules.specs.Written.{unwritten, WrittenIn, here, later, AllWritten, no_more, written, exempt, WrittenOrStored}
use Rattle.mode_theorems.proofs.Bodies.{first-none, second_none, both-none}
use Rattle.mode_theorems.proofs.Written.{written-accepted, written-derived}
use Rattle.mode_theorems.proofs.Agreement.{sheet-declared, sheet-written, sheet-marks}

-- a sheet with more clauses behind its own
abbrev pub with_more : Sheet → List Clause → Sheet
with_more sh more = record { declarations = sh.declarations; clauses = sh.clauses ++ more }

-- clauses in turn have no fault where none is in the first of them and none in those behind; `one` is the fault of one clause
module _ (one : ℕ → Clause → Option Refusal) (all : ℕ → List Clause → Option Refusal)
    (goes : (c : ℕ) (x : Clause) (xs : List Clause) → all c (x ∷ xs) ≡ first_of (one c x) (all (suc c) xs)) where
  none-more : (cs more : List Clause) (c : ℕ) → all c cs ≡ none → ((k : ℕ) → all k more ≡ none) → all c (cs ++ more) ≡ none
  none-more [] more c e h = h c
  none-more (x ∷ xs) more c e h =
      let z : first_of (one c x) (all (suc c) xs) ≡ none = sym (goes c x xs) ∙ e in
      goes c x (xs ++ more) ∙ both-none (one c x) (all (suc c) (xs ++ more)) (first-none (one c x) (all (suc c) xs) z)
      (none-more xs more (suc c) (second_none (one c x) (all (suc c) xs) z) h)

-- what is written stays so
written-in-more : {d : Declaration} {cs : List Clause} (more : List Clause) → WrittenIn d cs → WrittenIn d (cs ++ more)
written-in-more more (here e) = here e
written-in-more more (later w) = later (written-in-more more w)

all_more : {cs : List Clause} {ds : List Declaration} (more : List Clause) → AllWritten cs ds → AllWritten (cs ++ more) ds
all_more more no_more = no_more
all_more more (written w h) = written (written-in-more more w) (all_more more h)
all_more more (exempt e h) = exempt e (all_more more h)

written-more : (stored : Bool) (sh : Sheet) (more : List Clause) → WrittenOrStored stored sh → WrittenOrStored stored (with_more sh more)
written-more true sh more w = tt
written-more false sh more w = all_more more w

pub with-more : (stored : Bool) (sh : Sheet) (more : List Clause) → sheet_fault stored sh ≡ none → ((k : ℕ) → undeclared_clauses sh.declarations k more ≡ none)
    → ((k : ℕ) → clauses_fault sh.declarations k more ≡ none) → sheet_fault stored (with_more sh more) ≡ none
unfolding sheet_fault undeclared_in_sheet undeclared_clauses clauses_fault
with-more stored sh more e declared moded =
    both-none (undeclared_in_sheet wider) (first_of (unwritten stored wider) (clauses_fault ds 1 wider.clauses))
    (none-more (undeclared_clause ds) (undeclared_clauses ds) (λ c x xs. refl) sh.clauses more 1 (sheet-declared stored sh e) declared)
    (both-none (unwritten stored wider) (clauses_fault ds 1 wider.clauses)
    (written-accepted stored wider (written-more stored sh more (written-derived stored sh (sheet-written stored sh e))))
    (none-more (clause_fault ds) (clauses_fault ds) (λ c x xs. refl) sh.clauses more 1 (sheet-marks stored sh e) moded))
  where
    wider : Sheet
    wider = with_more sh more

    ds : List Declaration
    ds = sh.declarations
