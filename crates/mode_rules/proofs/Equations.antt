-- The judgment about equations and the function that decides it.
use Prim.Native.Nat.{ℕ}
use mathlib.Core.Path.{◌≡◌, refl, sym, ap, subst, ◌∙◌}
use mathlib.Core.Bool.{Bool, true, false, or-true}
use mathlib.Core.List.{List}
use native.Mathlib.Omega.{arith}
use lib.Dec.{T, eqb, eqb→eq}
use lib.ListN.{set}
use Rattle.syntax.specs.Terms.{Term, Terms, variable, compound, nil, cons, arity, same_name, same_predicate}
use Rattle.mode_rules.specs.Modes.{Known, knows, everything, is_ground, ground_term, ground_both, equate_variable, equate_same, equate, equate_all}
use Rattle.mode_rules.specs.Judgment.{Ground, ground_variable, Grounding, Equating, AllEquating, left_given, left_gives, left_open, right_given, right_gives, right_open, descend, clash, equating_nil, equating_cons}
use Rattle.mode_rules.proofs.Terms.{and_left, ground-holds, ground-derived, open-refuted, open-holds, grounding-derived, grounding-unique, grounding-keeps, ground-grows, nothing-given}

-- ---- an equation with a variable on a side: its three effects

pub right-ground : (t u : Term) (τ : Known) → is_ground τ u ≡ true → equate_variable t u τ ≡ ground_term t τ
unfolding equate_variable ground_both
right-ground t u τ e =
    rw (e, or-true) (nothing-given u (ground_term t τ) (ground-grows u τ (ground_term t τ) (λ i h. grounding-keeps t τ i h) e))

pub left-ground : (t u : Term) (τ : Known) → is_ground τ t ≡ true → equate_variable t u τ ≡ ground_term u τ
unfolding equate_variable ground_both
left-ground t u τ e = rw e (ap (λ ρ. ground_term u ρ) (nothing-given t τ e))

pub neither-ground : (t u : Term) (τ : Known) → is_ground τ t ≡ false → is_ground τ u ≡ false → equate_variable t u τ ≡ τ
unfolding equate_variable ground_both
neither-ground t u τ e h = rw (e, h)

-- ---- a derivation for each equation

left-derived : (x at : ℕ) (u : Term) (τ : Known) (b c : Bool)
    → knows τ x ≡ b
    → is_ground τ u ≡ c
    → Equating τ (variable x at) u (equate_variable (variable x at) u τ)
unfolding is_ground ground_term
left-derived x at u τ b true p q = rw (right-ground (variable x at) u τ q) (left_given (ground-derived τ u q))
left-derived x at u τ true false p q =
    rw (left-ground (variable x at) u τ p) (left_gives p (open-refuted q) (grounding-derived τ u))
left-derived x at u τ false false p q = rw (neither-ground (variable x at) u τ p q) (left_open p (open-refuted q))

right-derived : (y at : ℕ) (t : Term) (τ : Known) (b c : Bool)
    → knows τ y ≡ b
    → is_ground τ t ≡ c
    → Equating τ t (variable y at) (equate_variable t (variable y at) τ)
unfolding is_ground ground_term
right-derived y at t τ b true p q = rw (left-ground t (variable y at) τ q) (right_given (ground-derived τ t q))
right-derived y at t τ true false p q =
    rw (right-ground t (variable y at) τ p) (right_gives p (open-refuted q) (grounding-derived τ t))
right-derived y at t τ false false p q = rw (neither-ground t (variable y at) τ q p) (right_open p (open-refuted q))

pub same-arity : (m n : ℕ) (f g : List ℕ) → same_predicate f m g n ≡ true → m ≡ n
same-arity m n f g e = eqb→eq m n (subst T (sym (and_left (eqb m n) (same_name f g) e)) tt)

compound-derived : (at bt : ℕ) (f g : List ℕ) (ts us : Terms) (τ : Known) (b : Bool)
    → same_predicate f (arity ts) g (arity us) ≡ b
    → (arity ts ≡ arity us → AllEquating τ ts us (equate_all ts us τ))
    → Equating τ (compound at f ts) (compound bt g us) (equate_same b (λ σ. equate_all ts us σ) τ)
unfolding equate_same
compound-derived at bt f g ts us τ true e h = descend e (h (same-arity (arity ts) (arity us) f g e))
compound-derived at bt f g ts us τ false e h = clash e

mutual
  unfolding equate

  pub equating-derived : (t u : Term) (τ : Known) → Equating τ t u (equate t u τ)
  equating-derived (variable x at) u τ = left-derived x at u τ (knows τ x) (is_ground τ u) refl refl
  equating-derived (compound at f ts) (variable y bt) τ = right-derived y bt (compound at f ts) τ (knows τ y) (is_ground τ (compound at f ts)) refl refl
  equating-derived (compound at f ts) (compound bt g us) τ =
      compound-derived at bt f g ts us τ (same_predicate f (arity ts) g (arity us)) refl (λ e. all-equating-derived ts us τ e)

  pub all-equating-derived : (ts us : Terms) (τ : Known) → arity ts ≡ arity us → AllEquating τ ts us (equate_all ts us τ)
  all-equating-derived nil nil τ e = equating_nil
  all-equating-derived nil (cons u us) τ e = absurd (omega arith)
  all-equating-derived (cons t ts) nil τ e = absurd (omega arith)
  all-equating-derived (cons t ts) (cons u us) τ e = equating_cons (equating-derived t u τ) (all-equating-derived ts us (equate t u τ) (omega arith))

-- ---- at most one result

equate-right : (t : Term) (y at : ℕ) (τ : Known) → equate t (variable y at) τ ≡ equate_variable t (variable y at) τ
unfolding equate
equate-right (variable x bt) y at τ = refl
equate-right (compound bt f ts) y at τ = refl

right-given-unique : (t : Term) (y at : ℕ) (τ : Known) → Ground τ t → set τ y true ≡ equate t (variable y at) τ
unfolding ground_term
right-given-unique t y at τ g = sym (equate-right t y at τ ∙ left-ground t (variable y at) τ (ground-holds g))

right-gives-unique : (t : Term) (y at : ℕ) (τ σ : Known) → knows τ y ≡ true → Grounding τ t σ → σ ≡ equate t (variable y at) τ
right-gives-unique t y at τ σ e g =
    grounding-unique t g ∙ sym (equate-right t y at τ ∙ right-ground t (variable y at) τ (ground-holds (ground_variable e)))

right-open-unique : (t : Term) (y at : ℕ) (τ : Known) → knows τ y ≡ false → ¬ Ground τ t → τ ≡ equate t (variable y at) τ
unfolding is_ground
right-open-unique t y at τ e h = sym (equate-right t y at τ ∙ neither-ground t (variable y at) τ (open-holds h) e)

left-given-unique : (x at : ℕ) (u : Term) (τ : Known) → Ground τ u → set τ x true ≡ equate_variable (variable x at) u τ
unfolding ground_term
left-given-unique x at u τ g = sym (right-ground (variable x at) u τ (ground-holds g))

left-gives-unique : (x at : ℕ) (u : Term) (τ σ : Known) → knows τ x ≡ true → Grounding τ u σ → σ ≡ equate_variable (variable x at) u τ
left-gives-unique x at u τ σ e g = grounding-unique u g ∙ sym (left-ground (variable x at) u τ (ground-holds (ground_variable e)))

left-open-unique : (x at : ℕ) (u : Term) (τ : Known) → knows τ x ≡ false → ¬ Ground τ u → τ ≡ equate_variable (variable x at) u τ
unfolding is_ground
left-open-unique x at u τ e h = sym (neither-ground (variable x at) u τ e (open-holds h))

same-unique : (b : Bool) (pairs : Known → Known) (τ σ : Known) → b ≡ true → σ ≡ pairs τ → σ ≡ equate_same b pairs τ
unfolding equate_same
same-unique b pairs τ σ e p = rw e p

clash-unique : (b : Bool) (pairs : Known → Known) (τ : Known) → b ≡ false → everything ≡ equate_same b pairs τ
unfolding equate_same
clash-unique b pairs τ e = rw e

mutual
  unfolding equate

  pub equating-unique : (t : Term) {u : Term} {τ σ : Known} → Equating τ t u σ → σ ≡ equate t u τ
  equating-unique (variable x at) (left_given {τ = τ} {s = s} g) = left-given-unique x at s τ g
  equating-unique (variable x at) (left_gives {τ = τ} {σ = σ} {s = s} e h g) = left-gives-unique x at s τ σ e g
  equating-unique (variable x at) (left_open {τ = τ} {s = s} e h) = left-open-unique x at s τ e h
  equating-unique (variable x at) (right_given {τ = τ} {y = y} {at = bt} g) = right-given-unique (variable x at) y bt τ g
  equating-unique (variable x at) (right_gives {τ = τ} {σ = σ} {y = y} {at = bt} e h g) = right-gives-unique (variable x at) y bt τ σ e g
  equating-unique (variable x at) (right_open {τ = τ} {y = y} {at = bt} e h) = right-open-unique (variable x at) y bt τ e h
  equating-unique (compound at f ts) (right_given {τ = τ} {y = y} {at = bt} g) = right-given-unique (compound at f ts) y bt τ g
  equating-unique (compound at f ts) (right_gives {τ = τ} {σ = σ} {y = y} {at = bt} e h g) = right-gives-unique (compound at f ts) y bt τ σ e g
  equating-unique (compound at f ts) (right_open {τ = τ} {y = y} {at = bt} e h) = right-open-unique (compound at f ts) y bt τ e h
  equating-unique (compound at f ts) (descend {τ = τ} {σ = σ} {g = g} {us = us} e d) =
      same-unique (same_predicate f (arity ts) g (arity us)) (λ ρ. equate_all ts us ρ) τ σ e (all-equating-unique ts d)
  equating-unique (compound at f ts) (clash {τ = τ} {g = g} {us = us} e) = clash-unique (same_predicate f (arity ts) g (arity us)) (λ ρ. equate_all ts us ρ) τ e

  pub all-equating-unique : (ts : Terms) {us : Terms} {τ σ : Known} → AllEquating τ ts us σ → σ ≡ equate_all ts us τ
  all-equating-unique nil equating_nil = refl
  all-equating-unique (cons t ts) (equating_cons {u = u} {us = us} d ds) = all-equating-unique ts ds ∙ ap (λ ρ. equate_all ts us ρ) (equating-unique t d)

-- "The first and second lines overlap … However, the answer is the same in either case."
pub equating-same : {t u : Term} {τ σ ρ : Known} → Equating τ t u σ → Equating τ t u ρ → σ ≡ ρ
equating-same {t} d e = equating-unique t d ∙ sym (equating-unique t e)
