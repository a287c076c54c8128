-- Laws of the test of a side of an equation and of one with a variable, one for each way out of the functions. Assumes nothing.
use Prim.Native.Nat.{ℕ}
use mathlib.Core.Path.{◌≡◌, refl, sym, ap, ap₂, ◌∙◌}
use mathlib.Core.Bool.{Bool, true, false, not, ◌||◌}
use mathlib.Core.List.{List}
use mathlib.Core.Option.{Option, none, some}
use Rattle.syntax.specs.Terms.{Term}
use Rattle.mode_rules.specs.Modes.{Known, is_ground, open_byte, ground_term, ground_both, equate_variable}
use Rattle.mode_rules.proofs.Terms.{is_none, ground-none}
use Rattle.marks.specs.Tables.{TermAt}
use Rattle.marks.specs.Answers.{groundness_of}
use Rattle.std.specs.Prelude.{Option as Groundness}
use Rattle.std.specs.Prelude.{is_some, is_none as is_closed}

-- ---- yes or no

pub test-is : (table : List ℕ) (p : ℕ) (τ : Known) {g : Groundness ℕ} → ((w : TermAt table p) → g ≡ groundness_of (open_byte τ w.term)) → {r : Bool} → is_some g ≡ not r
    → (w : TermAt table p) → r ≡ is_ground τ w.term
test-is table p τ {g} eg {r} er w = twice r ∙ ap not (sym er) ∙ ap (λ (o : Groundness ℕ). is_closed o) (eg w) ∙ by (open_byte τ w.term) ∙ sym (ground-none τ w.term)
  where
    twice : (b : Bool) → b ≡ not (not b)
    twice true = refl
    twice false = refl

    by : (o : Option ℕ) → is_closed (groundness_of o) ≡ is_none o
    by none = refl
    by (some b) = refl

-- ---- an equation with a variable

module _ (table : List ℕ) (p q : ℕ) (τ : Known) (a b : Bool) (ea : (t : TermAt table p) → a ≡ is_ground τ t.term) where
  by-test : (x y : Bool) (t u : Term) → is_ground τ t ≡ x → is_ground τ u ≡ y → equate_variable t u τ ≡ ground_both (x || y) t u τ
  unfolding equate_variable
  by-test x y t u e f = ap₂ (λ (m n : Bool). ground_both (m || n) t u τ) e f

  pub left-grounds : a ≡ true → (σ ρ : Known) → ((t : TermAt table p) → σ ≡ ground_term t.term τ) → ((u : TermAt table q) → ρ ≡ ground_term u.term σ) → (t : TermAt table p) (u : TermAt table q) → ρ ≡ equate_variable t.term u.term τ
  unfolding ground_both
  left-grounds h σ ρ es er t u =
      er u ∙ ap (ground_term u.term) (es t) ∙ sym (by-test true (is_ground τ u.term) t.term u.term (sym (ea t) ∙ h) refl)

  module _ (eb : (u : TermAt table q) → b ≡ is_ground τ u.term) (h : a ≡ false) where
    pub right-grounds : b ≡ true → (σ ρ : Known) → ((t : TermAt table p) → σ ≡ ground_term t.term τ) → ((u : TermAt table q) → ρ ≡ ground_term u.term σ) → (t : TermAt table p) (u : TermAt table q) → ρ ≡ equate_variable t.term u.term τ
    unfolding ground_both
    right-grounds k σ ρ es er t u =
        er u ∙ ap (ground_term u.term) (es t) ∙ sym (by-test false true t.term u.term (sym (ea t) ∙ h) (sym (eb u) ∙ k))

    pub neither-grounds : b ≡ false → (t : TermAt table p) (u : TermAt table q) → τ ≡ equate_variable t.term u.term τ
    unfolding ground_both
    neither-grounds k t u = sym (by-test false false t.term u.term (sym (ea t) ∙ h) (sym (eb u) ∙ k))
