-- The top of a pile. Assumes nothing.
use Prim.Native.Nat.{ℕ, zero, suc, ◌-◌, ◌≤◌}
use native.Mathlib.Omega.{arith}
use mathlib.Core.Path.{◌≡◌, ap, ◌∙◌}
use mathlib.Core.List.{List, ◌∷◌}
use Rattle.machine.specs.Machine.{Alternative}
use Rattle.run_layout.specs.Pile.{pile_of}
use Rattle.run.specs.Meanings.{Meaning, pile_in}
use Rattle.run.proofs.TopLaws.{at_top, head-eq}
use Rattle.workings.specs.Choices.{alternative_in}

-- the top of a pile that is known
pub record OnTop (m : Meaning) (state : List ℕ) (h : ℕ) (a : Alternative) : Type 0 where
  pub some : 1 ≤ h
  pub is : alternative_in m state (h - 1) ≡ a

pub on-top : (m : Meaning) (state : List ℕ) (a : Alternative) (others : List Alternative) (h : ℕ) → pile_in m state h ≡ a ∷ others → OnTop m state h a
unfolding pile_of
on-top m state a others zero e = absurd (let z : ◌≡◌ {A = ℕ} 0 1 = cc in omega arith)
on-top m state a others (suc j) e =
    record {
      some = omega arith;
      is = ap (λ (k : ℕ). alternative_in m state k) (let z : suc j - 1 ≡ j = omega arith in z)
          ∙ head-eq (alternative_in m state j) a (pile_in m state j) others e;
    }

pub same-top : (m : Meaning) (a b : List ℕ) (h : ℕ) → 1 ≤ h → pile_in m b h ≡ pile_in m a h → alternative_in m b (h - 1) ≡ alternative_in m a (h - 1)
unfolding pile_of
same-top m a b h l =
    at_top (λ x k. pile_in m b x ≡ pile_in m a x → alternative_in m b k ≡ alternative_in m a k)
    (λ j e. head-eq (alternative_in m b j) (alternative_in m a j) (pile_in m b j) (pile_in m a j) e) h l
