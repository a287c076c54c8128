-- Laws of a first fault and what comes after it, and of a walk that has come to its end. Assumes nothing.
use Prim.Native.Nat.{ℕ, ◌+◌, ◌≤◌}
use native.Mathlib.Omega.{arith}
use mathlib.Core.Path.{◌≡◌, refl, sym, ◌∙◌}
use mathlib.Core.List.{List, [], ◌∷◌}
use lib.ListN.{length}
use mathlib.Core.Option.{Option, none, some}
use Rattle.std.specs.Prelude.{Ok, Err}
use Rattle.syntax.specs.declared.Refusal.{Refusal}
use Rattle.marks.specs.Answers.{Checked, checked_of}

pub fault-stays : (o rest : Option Refusal) {f : Checked} {r : Refusal} → f ≡ checked_of o → f ≡ Err r
    → Err r ≡ checked_of (elim o as (λ _. Option Refusal) [ none ↦ rest | some q ↦ some q ])
fault-stays none rest {f} {r} e t = let z : ◌≡◌ {A = Checked} (Ok tt) (Err r) = sym e ∙ t in let y : ◌≡◌ {A = ℕ} 0 1 = cc in absurd (omega arith)
fault-stays (some q) rest e t = sym t ∙ e

pub fine-goes : (o rest : Option Refusal) {f : Checked} → f ≡ checked_of o → f ≡ Ok tt
    → elim o as (λ _. Option Refusal) [ none ↦ rest | some r ↦ some r ] ≡ rest
fine-goes none rest e t = refl
fine-goes (some r) rest e t = let z : ◌≡◌ {A = Checked} (Ok tt) (Err r) = sym t ∙ e in let y : ◌≡◌ {A = ℕ} 0 1 = cc in absurd (omega arith)

-- behind all of them nothing is left
pub over : {X : Type 0} (i many : ℕ) (xs : List X) → many ≤ i → many ≡ i + length xs → xs ≡ []
over i many [] l e = refl
over i many (x ∷ xs) l e = absurd (omega arith)
