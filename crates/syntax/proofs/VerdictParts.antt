-- Two verdicts that are the same have the same parts. Assumes nothing.
use Prim.Native.Nat.{ℕ}
use mathlib.Core.Path.{◌≡◌, ap}
use Rattle.std.proofs.Common.{Ok, Err}
use Rattle.syntax.specs.Verdicts.{Verdict, Accepted, Refused}
use Rattle.syntax.specs.declared.Text.{Text}
use Rattle.syntax.specs.declared.Refusal.{Refusal}

-- of one of each kind, the other kind having what is given
abbrev declarations_in : ℕ → Verdict → ℕ
declarations_in none (Ok counts) = counts.declarations
declarations_in none (Err fault) = none

abbrev clauses_in : ℕ → Verdict → ℕ
clauses_in none (Ok counts) = counts.clauses
clauses_in none (Err fault) = none

abbrev text_in : Text → Verdict → Text
text_in none (Ok counts) = none
text_in none (Err fault) = fault.text

abbrev refusal_in : Refusal → Verdict → Refusal
refusal_in none (Ok counts) = none
refusal_in none (Err fault) = fault.refusal

pub same-declarations : {n k m j : ℕ} → ◌≡◌ {A = Verdict} (Accepted n k) (Accepted m j) → n ≡ m
same-declarations {n} e = ap (declarations_in n) e

pub same-clauses : {n k m j : ℕ} → ◌≡◌ {A = Verdict} (Accepted n k) (Accepted m j) → k ≡ j
same-clauses {n} {k} e = ap (clauses_in k) e

pub same_text : {a b : Text} {q r : Refusal} → ◌≡◌ {A = Verdict} (Refused a q) (Refused b r) → a ≡ b
same_text {a} e = ap (text_in a) e

pub same_refusal : {a b : Text} {q r : Refusal} → ◌≡◌ {A = Verdict} (Refused a q) (Refused b r) → q ≡ r
same_refusal {a} {b} {q} e = ap (refusal_in q) e
