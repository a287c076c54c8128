-- The judgments about terms and the functions that decide them.
use Prim.Native.Nat.{ℕ, zero, suc}
use mathlib.Core.Path.{◌≡◌, refl, sym, ap, ap₂, ◌∙◌}
use mathlib.Core.Bool.{Bool, true, false, ◌&&◌, true≢false, false≢true}
use mathlib.Core.List.{[], ◌∷◌}
use mathlib.Core.Option.{Option, none, some}
use lib.ListN.{set}
use Rattle.syntax.specs.Terms.{Term, Terms, variable, compound, nil, cons}
use Rattle.mode_rules.specs.Modes.{Known, knows, is_ground, are_ground, open_unless, open_byte, open_byte_of, ground_term, ground_terms}
use Rattle.mode_rules.specs.Judgment.{Ground, AllGround, ground_variable, ground_compound, ground_nil, ground_cons, Grounding, AllGrounding, grounding_variable, grounding_compound, grounding_nil, grounding_cons}

pub and_left : (a b : Bool) → (a && b) ≡ true → a ≡ true
and_left true b e = refl
and_left false b e = e

pub and_right : (a b : Bool) → (a && b) ≡ true → b ≡ true
and_right true b e = e
and_right false b e = absurd (false≢true e)

pub both : {a b : Bool} → a ≡ true → b ≡ true → (a && b) ≡ true
both p q = rw (p, q)

-- ---- τ ⊢ t ground

mutual
  unfolding is_ground

  pub ground-holds : {τ : Known} {t : Term} → Ground τ t → is_ground τ t ≡ true
  ground-holds (ground_variable e) = e
  ground-holds (ground_compound g) = all_hold g

  pub all_hold : {τ : Known} {ts : Terms} → AllGround τ ts → are_ground τ ts ≡ true
  all_hold ground_nil = refl
  all_hold (ground_cons g gs) = both (ground-holds g) (all_hold gs)

mutual
  unfolding is_ground

  pub ground-derived : (τ : Known) (t : Term) → is_ground τ t ≡ true → Ground τ t
  ground-derived τ (variable i at) e = ground_variable e
  ground-derived τ (compound at f ts) e = ground_compound (all-derived τ ts e)

  pub all-derived : (τ : Known) (ts : Terms) → are_ground τ ts ≡ true → AllGround τ ts
  all-derived τ nil e = ground_nil
  all-derived τ (cons t ts) e =
      ground_cons (ground-derived τ t (and_left (is_ground τ t) (are_ground τ ts) e)) (all-derived τ ts (and_right (is_ground τ t) (are_ground τ ts) e))

pub open-refuted : {τ : Known} {t : Term} → is_ground τ t ≡ false → ¬ Ground τ t
open-refuted e g = true≢false (sym (ground-holds g) ∙ e)

pub not-true : (b : Bool) → ¬ (b ≡ true) → b ≡ false
not-true true h = absurd (h refl)
not-true false h = refl

pub open-holds : {τ : Known} {t : Term} → ¬ Ground τ t → is_ground τ t ≡ false
open-holds {τ} {t} h = not-true (is_ground τ t) (λ e. h (ground-derived τ t e))

-- ---- the byte of the first open variable

abbrev pub is_none : Option ℕ → Bool
is_none none = true
is_none (some b) = false

either-none : (o p : Option ℕ) → (is_none o && is_none p) ≡ is_none (elim o as (λ _. Option ℕ) [ none ↦ p | some b ↦ some b ])
either-none none p = refl
either-none (some b) p = refl

unless-none : (k : Bool) (at : ℕ) → k ≡ is_none (open_unless k at)
unfolding open_unless
unless-none true at = refl
unless-none false at = refl

-- the test finds no open variable exactly where the term is ground
mutual
  unfolding is_ground open_byte

  pub ground-none : (τ : Known) (t : Term) → is_ground τ t ≡ is_none (open_byte τ t)
  ground-none τ (variable i at) = unless-none (knows τ i) at
  ground-none τ (compound at f ts) = all_none τ ts

  pub all_none : (τ : Known) (ts : Terms) → are_ground τ ts ≡ is_none (open_byte_of τ ts)
  all_none τ nil = refl
  all_none τ (cons t ts) =
      ap₂ (λ (a b : Bool). a && b) (ground-none τ t) (all_none τ ts) ∙ either-none (open_byte τ t) (open_byte_of τ ts)

-- ---- τ ⊢ t / σ

mutual
  unfolding ground_term

  pub grounding-derived : (τ : Known) (t : Term) → Grounding τ t (ground_term t τ)
  grounding-derived τ (variable i at) = grounding_variable
  grounding-derived τ (compound at f ts) = grounding_compound (all-grounding-derived τ ts)

  pub all-grounding-derived : (τ : Known) (ts : Terms) → AllGrounding τ ts (ground_terms ts τ)
  all-grounding-derived τ nil = grounding_nil
  all-grounding-derived τ (cons t ts) = grounding_cons (grounding-derived τ t) (all-grounding-derived (ground_term t τ) ts)

mutual
  unfolding ground_term

  pub grounding-unique : (t : Term) {τ σ : Known} → Grounding τ t σ → σ ≡ ground_term t τ
  grounding-unique (variable i at) grounding_variable = refl
  grounding-unique (compound at f ts) (grounding_compound g) = all-grounding-unique ts g

  pub all-grounding-unique : (ts : Terms) {τ σ : Known} → AllGrounding τ ts σ → σ ≡ ground_terms ts τ
  all-grounding-unique nil grounding_nil = refl
  all-grounding-unique (cons t ts) (grounding_cons g gs) = all-grounding-unique ts gs ∙ ap (λ ρ. ground_terms ts ρ) (grounding-unique t g)

-- ---- what stays known

pub set_known : (τ : Known) (i : ℕ) → knows τ i ≡ true → set τ i true ≡ τ
set_known [] i e = refl
set_known (b ∷ τ) zero e = ap (λ c. c ∷ τ) (sym e)
set_known (b ∷ τ) (suc i) e = ap (λ ρ. b ∷ ρ) (set_known τ i e)

pub set_keeps : (τ : Known) (i j : ℕ) → knows τ i ≡ true → knows (set τ j true) i ≡ true
set_keeps [] i j e = e
set_keeps (b ∷ τ) zero zero e = refl
set_keeps (b ∷ τ) zero (suc j) e = e
set_keeps (b ∷ τ) (suc i) zero e = e
set_keeps (b ∷ τ) (suc i) (suc j) e = set_keeps τ i j e

-- variables known ground stay so
mutual
  unfolding ground_term

  pub grounding-keeps : (t : Term) (τ : Known) (i : ℕ) → knows τ i ≡ true → knows (ground_term t τ) i ≡ true
  grounding-keeps (variable j at) τ i e = set_keeps τ i j e
  grounding-keeps (compound at f ts) τ i e = all-grounding-keeps ts τ i e

  pub all-grounding-keeps : (ts : Terms) (τ : Known) (i : ℕ) → knows τ i ≡ true → knows (ground_terms ts τ) i ≡ true
  all-grounding-keeps nil τ i e = e
  all-grounding-keeps (cons t ts) τ i e = all-grounding-keeps ts (ground_term t τ) i (grounding-keeps t τ i e)

-- a term known ground stays so where what is known grows
mutual
  unfolding is_ground

  pub ground-grows : (t : Term) (τ σ : Known) → ((i : ℕ) → knows τ i ≡ true → knows σ i ≡ true) → is_ground τ t ≡ true → is_ground σ t ≡ true
  ground-grows (variable i at) τ σ h e = h i e
  ground-grows (compound at f ts) τ σ h e = all-ground-grows ts τ σ h e

  pub all-ground-grows : (ts : Terms) (τ σ : Known) → ((i : ℕ) → knows τ i ≡ true → knows σ i ≡ true) → are_ground τ ts ≡ true → are_ground σ ts ≡ true
  all-ground-grows nil τ σ h e = refl
  all-ground-grows (cons t ts) τ σ h e =
      both (ground-grows t τ σ h (and_left (is_ground τ t) (are_ground τ ts) e)) (all-ground-grows ts τ σ h (and_right (is_ground τ t) (are_ground τ ts) e))

-- a term known ground has nothing to give
mutual
  unfolding is_ground ground_term

  pub nothing-given : (t : Term) (τ : Known) → is_ground τ t ≡ true → ground_term t τ ≡ τ
  nothing-given (variable i at) τ e = set_known τ i e
  nothing-given (compound at f ts) τ e = nothing-all-given ts τ e

  pub nothing-all-given : (ts : Terms) (τ : Known) → are_ground τ ts ≡ true → ground_terms ts τ ≡ τ
  nothing-all-given nil τ e = refl
  nothing-all-given (cons t ts) τ e =
      ap (λ ρ. ground_terms ts ρ) (nothing-given t τ (and_left (is_ground τ t) (are_ground τ ts) e))
      ∙ nothing-all-given ts τ (and_right (is_ground τ t) (are_ground τ ts) e)
