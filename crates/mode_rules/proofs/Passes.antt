-- An equation gone over again (REQUESTS (xiv)): each pass but the last makes a variable ground, so `variables` passes are enough; the result is
-- what the judgment gives, and one pass more changes nothing. Assumes nothing.
use Prim.Native.Nat.{ℕ, zero, suc, ◌+◌, ◌≤◌, ◌<◌}
use mathlib.Core.Path.{◌≡◌, refl, sym, ap, subst, subst⁻¹, ◌∙◌}
use mathlib.Core.Bool.{Bool, true, false, true≢false, false≢true}
use mathlib.Core.List.{[], ◌∷◌}
use native.Mathlib.Omega.{arith}
use lib.ListN.{length}
use Rattle.syntax.specs.Terms.{Term}
use Rattle.syntax.specs.Limits.{variables}
use Rattle.mode_rules.specs.Modes.{Known, knows, equate, one_more, further, go_over, passes, settle}
use Rattle.mode_rules.specs.Judgment.{Equating, Settling, settled, again}
use Rattle.mode_rules.proofs.Equations.{equating-derived, equating-unique}
use Rattle.mode_rules.proofs.Growth.{Grown, stays, grown-on, equate-grown}

-- ---- how many variables are known ground

unfoldable pub count_known : Known → ℕ
count_known [] = 0
count_known (b ∷ τ) = one_more b (count_known τ)

pub count_most : (τ : Known) → count_known τ ≤ length τ
unfolding count_known one_more
count_most [] = omega arith
count_most (false ∷ τ) = let h : count_known τ ≤ length τ = count_most τ in omega arith
count_most (true ∷ τ) = let h : count_known τ ≤ length τ = count_most τ in omega arith

-- no fewer where what is known grows
count-grows : (τ σ : Known) → length τ ≡ length σ → ((i : ℕ) → knows τ i ≡ true → knows σ i ≡ true) → count_known τ ≤ count_known σ
unfolding count_known one_more
count-grows [] σ l k = omega arith
count-grows (b ∷ τ) [] l k = absurd (omega arith)
count-grows (true ∷ τ) (false ∷ σ) l k = absurd (false≢true (k 0 refl))
count-grows (false ∷ τ) (false ∷ σ) l k = count-grows τ σ (omega arith) (λ i e. k (suc i) e)
count-grows (false ∷ τ) (true ∷ σ) l k = let h : count_known τ ≤ count_known σ = count-grows τ σ (omega arith) (λ i e. k (suc i) e) in omega arith
count-grows (true ∷ τ) (true ∷ σ) l k = let h : count_known τ ≤ count_known σ = count-grows τ σ (omega arith) (λ i e. k (suc i) e) in omega arith

-- more where some variable became ground
count-further : (τ σ : Known) → length τ ≡ length σ → ((i : ℕ) → knows τ i ≡ true → knows σ i ≡ true) → further τ σ ≡ true → count_known τ < count_known σ
unfolding count_known one_more further
count-further [] σ l k h = absurd (false≢true h)
count-further (b ∷ τ) [] l k h = absurd (omega arith)
count-further (true ∷ τ) (false ∷ σ) l k h = absurd (false≢true (k 0 refl))
count-further (false ∷ τ) (true ∷ σ) l k h = let m : count_known τ ≤ count_known σ = count-grows τ σ (omega arith) (λ i e. k (suc i) e) in omega arith
count-further (false ∷ τ) (false ∷ σ) l k h = count-further τ σ (omega arith) (λ i e. k (suc i) e) h
count-further (true ∷ τ) (true ∷ σ) l k h = let m : count_known τ < count_known σ = count-further τ σ (omega arith) (λ i e. k (suc i) e) h in omega arith

-- nothing changed where none did
none-further : (τ σ : Known) → length τ ≡ length σ → ((i : ℕ) → knows τ i ≡ true → knows σ i ≡ true) → further τ σ ≡ false → σ ≡ τ
unfolding further
none-further [] [] l k h = refl
none-further [] (c ∷ σ) l k h = absurd (omega arith)
none-further (b ∷ τ) [] l k h = absurd (omega arith)
none-further (true ∷ τ) (false ∷ σ) l k h = absurd (false≢true (k 0 refl))
none-further (false ∷ τ) (true ∷ σ) l k h = absurd (true≢false h)
none-further (false ∷ τ) (false ∷ σ) l k h = ap (λ (ρ : Known). false ∷ ρ) (none-further τ σ (omega arith) (λ i e. k (suc i) e) h)
none-further (true ∷ τ) (true ∷ σ) l k h = ap (λ (ρ : Known). true ∷ ρ) (none-further τ σ (omega arith) (λ i e. k (suc i) e) h)

same-further : (τ : Known) → further τ τ ≡ false
unfolding further
same-further [] = refl
same-further (true ∷ τ) = same-further τ
same-further (false ∷ τ) = same-further τ

-- ---- a pass makes a variable ground, or changes nothing

pub data Pass (t u : Term) (τ : Known) : Type 0 where
  adds : further τ (equate t u τ) ≡ true → count_known τ < count_known (equate t u τ) → Pass t u τ
  still : further τ (equate t u τ) ≡ false → equate t u τ ≡ τ → Pass t u τ

pub pass : (t u : Term) (τ : Known) → length τ ≡ variables → Pass t u τ
pass t u τ l = by (further τ (equate t u τ)) refl
  where
    g : Grown τ (equate t u τ)
    g = equate-grown t u τ l

    by : (b : Bool) → further τ (equate t u τ) ≡ b → Pass t u τ
    by true e = adds e (count-further τ (equate t u τ) (l ∙ sym g.wide) g.keeps e)
    by false e = still e (none-further τ (equate t u τ) (l ∙ sym g.wide) g.keeps e)

over-same : (τ σ : Known) (more : Known → Known) → σ ≡ τ → go_over τ more σ ≡ σ
unfolding go_over
over-same τ σ more e = rw (go_over, ap (further τ) e ∙ same-further τ)

over-more : (τ σ : Known) (more : Known → Known) → further τ σ ≡ true → go_over τ more σ ≡ more σ
unfolding go_over
over-more τ σ more e = rw (go_over, e)

-- ---- passes

module _ (t u : Term) where
  pub passes-still : (k : ℕ) (τ : Known) → equate t u τ ≡ τ → passes k t u τ ≡ τ
  unfolding passes
  passes-still zero τ e = refl
  passes-still (suc k) τ e = over-same τ (equate t u τ) (λ σ. passes k t u σ) e ∙ e

  pub passes_on : (k : ℕ) (τ : Known) → further τ (equate t u τ) ≡ true → passes (suc k) t u τ ≡ passes k t u (equate t u τ)
  unfolding passes
  passes_on k τ l = over-more τ (equate t u τ) (λ σ. passes k t u σ) l

  pub passes-grown : (k : ℕ) (τ : Known) → length τ ≡ variables → Grown τ (passes k t u τ)
  unfolding passes
  passes-grown zero τ l = stays l
  passes-grown (suc k) τ l = by (pass t u τ l) (passes-grown k (equate t u τ) (equate-grown t u τ l).wide)
    where
      by : Pass t u τ → Grown (equate t u τ) (passes k t u (equate t u τ)) → Grown τ (passes (suc k) t u τ)
      by (still d e) g = subst⁻¹ (λ (ρ : Known). Grown τ ρ) (passes-still (suc k) τ e) (stays l)
      by (adds a m) g = subst⁻¹ (λ (ρ : Known). Grown τ ρ) (passes_on k τ a) (grown-on (equate-grown t u τ l) g)

  -- all variables are known ground: a pass changes nothing
  all_known : (τ : Known) → length τ ≡ variables → variables ≤ count_known τ → equate t u τ ≡ τ
  all_known τ l e = by (pass t u τ l)
    where
      by : Pass t u τ → equate t u τ ≡ τ
      by (still d h) = h
      by (adds a m) = absurd (omega (arith, count_most (equate t u τ), (equate-grown t u τ l).wide))

  -- where k passes are enough for the variables that are unknown, one more changes nothing
  pub passes-enough : (k : ℕ) (τ : Known) → length τ ≡ variables → variables ≤ count_known τ + k → equate t u (passes k t u τ) ≡ passes k t u τ
  passes-enough zero τ l e = unfold passes in (all_known τ l (omega arith))
  passes-enough (suc k) τ l e = by (pass t u τ l) (λ h. passes-enough k (equate t u τ) (equate-grown t u τ l).wide h)
    where
      by : Pass t u τ
          → (variables ≤ count_known (equate t u τ) + k → equate t u (passes k t u (equate t u τ)) ≡ passes k t u (equate t u τ))
          → equate t u (passes (suc k) t u τ) ≡ passes (suc k) t u τ
      by (still d h) f = rw (passes-still (suc k) τ h) h
      by (adds a m) f = rw (passes_on k τ a) (f (omega arith))

  -- and they are as good as one more
  pub passes_same : (k : ℕ) (τ : Known) → length τ ≡ variables → variables ≤ count_known τ + k → passes (suc k) t u τ ≡ passes k t u τ
  passes_same zero τ l e = passes-still 1 τ (all_known τ l (omega arith)) ∙ sym (passes-still 0 τ (all_known τ l (omega arith)))
  passes_same (suc k) τ l e = by (pass t u τ l) (λ h. passes_same k (equate t u τ) (equate-grown t u τ l).wide h)
    where
      by : Pass t u τ
          → (variables ≤ count_known (equate t u τ) + k → passes (suc k) t u (equate t u τ) ≡ passes k t u (equate t u τ))
          → passes (suc (suc k)) t u τ ≡ passes (suc k) t u τ
      by (still d h) f = passes-still (suc (suc k)) τ h ∙ sym (passes-still (suc k) τ h)
      by (adds a m) f = passes_on (suc k) τ a ∙ f (omega arith) ∙ sym (passes_on k τ a)

  -- the judgment has a derivation
  last-pass : (k : ℕ) (τ : Known) → equate t u τ ≡ τ → Settling τ t u (passes k t u τ)
  last-pass k τ h =
      subst⁻¹ (λ (ρ : Known). Settling τ t u ρ) (passes-still k τ h) (settled (subst (λ (ρ : Known). Equating τ t u ρ) h (equating-derived t u τ)))

  passes-derived : (k : ℕ) (τ : Known) → length τ ≡ variables → variables ≤ count_known τ + k → Settling τ t u (passes k t u τ)
  passes-derived zero τ l e = last-pass zero τ (all_known τ l (omega arith))
  passes-derived (suc k) τ l e = by (pass t u τ l) (λ h. passes-derived k (equate t u τ) (equate-grown t u τ l).wide h)
    where
      by : Pass t u τ
          → (variables ≤ count_known (equate t u τ) + k → Settling (equate t u τ) t u (passes k t u (equate t u τ)))
          → Settling τ t u (passes (suc k) t u τ)
      by (still d h) f = last-pass (suc k) τ h
      by (adds a m) f = subst⁻¹ (λ (ρ : Known). Settling τ t u ρ) (passes_on k τ a) (again (equating-derived t u τ) (f (omega arith)))

-- ---- the effect of an equation

module _ (t u : Term) where
  pub settle-grown : (τ : Known) → length τ ≡ variables → Grown τ (settle t u τ)
  unfolding settle
  settle-grown τ l = passes-grown t u variables τ l

  -- "until a pass makes nothing further ground": the bound on the passes is never met, one pass more changes nothing
  pub settle-still : (τ : Known) → length τ ≡ variables → equate t u (settle t u τ) ≡ settle t u τ
  unfolding settle
  settle-still τ l = passes-enough t u variables τ l (omega arith)

  -- a pass that changes nothing is the last
  pub settle-last : (τ : Known) → equate t u τ ≡ τ → settle t u τ ≡ τ
  unfolding settle
  settle-last τ e = passes-still t u variables τ e

  -- after a pass the rest of the passes leaves the same
  pub settle-on : (τ : Known) → length τ ≡ variables → settle t u (equate t u τ) ≡ settle t u τ
  unfolding settle
  settle-on τ l = by (pass t u τ l)
    where
      by : Pass t u τ → passes variables t u (equate t u τ) ≡ passes variables t u τ
      by (still d e) = ap (passes variables t u) e
      by (adds a m) = sym (passes_on t u variables τ a) ∙ passes_same t u variables τ l (omega arith)

  pub settling-derived : (τ : Known) → length τ ≡ variables → Settling τ t u (settle t u τ)
  unfolding settle
  settling-derived τ l = passes-derived t u variables τ l (omega arith)

pub settling-unique : {t u : Term} {τ σ : Known} → Settling τ t u σ → length τ ≡ variables → σ ≡ settle t u τ
settling-unique {t} {u} (settled {τ = τ} d) l = sym (settle-last t u τ (sym (equating-unique t d)))
settling-unique {t} {u} (again {τ₁ = τ} d r) l =
    settling-unique r (subst⁻¹ (λ (ρ : Known). length ρ ≡ variables) (equating-unique t d) (equate-grown t u τ l).wide)
    ∙ ap (settle t u) (equating-unique t d)
    ∙ settle-on t u τ l
