-- A pass over an equation and a call's outputs only add to what is known ground.
use Prim.Native.Nat.{ℕ, zero, suc, ◌<◌}
use mathlib.Core.Path.{◌≡◌, refl, subst, ◌∙◌}
use mathlib.Core.Bool.{Bool, true, false, ◌||◌, false≢true}
use mathlib.Core.List.{List, [], ◌∷◌}
use native.Mathlib.Omega.{arith}
use lib.ListN.{length, length-set, length-replicate, get_or-replicate}
use Rattle.syntax.specs.Terms.{Term, Terms, variable, compound, nil, cons, arity, Mark, same_predicate}
use Rattle.syntax.specs.Limits.{variables}
use Rattle.mode_rules.specs.Modes.{Known, knows, everything, is_ground, ground_term, ground_terms, ground_both, equate_variable, equate_same, equate, equate_all, same_mark, ground_if, ground_marked}
use Rattle.mode_rules.proofs.Terms.{grounding-keeps}

-- A flag for each variable, and every variable known ground in τ is so in σ.
pub record Grown (τ σ : Known) : Type 0 where
  pub wide : length σ ≡ variables
  pub keeps : (i : ℕ) → knows τ i ≡ true → knows σ i ≡ true

known-below : (τ : Known) (i : ℕ) → knows τ i ≡ true → i < length τ
known-below [] i e = absurd (false≢true e)
known-below (b ∷ τ) zero e = omega arith
known-below (b ∷ τ) (suc i) e = let h : i < length τ = known-below τ i e in omega arith

pub stays : {τ : Known} → length τ ≡ variables → Grown τ τ
stays l = record { wide = l; keeps = λ i e. e }

pub grown-everything : {τ : Known} → length τ ≡ variables → Grown τ everything
unfolding everything
grown-everything {τ} l = record { wide = length-replicate variables true; keeps = λ i e. get_or-replicate variables i true false (subst (λ n. i < n) l (known-below τ i e)) }

pub grown-on : {τ σ ρ : Known} → Grown τ σ → Grown σ ρ → Grown τ ρ
grown-on p q = record { wide = q.wide; keeps = λ i e. q.keeps i (p.keeps i e) }

mutual
  unfolding ground_term

  term-width : (t : Term) (τ : Known) → length (ground_term t τ) ≡ length τ
  term-width (variable i at) τ = length-set τ i true
  term-width (compound at f ts) τ = terms-width ts τ

  terms-width : (ts : Terms) (τ : Known) → length (ground_terms ts τ) ≡ length τ
  terms-width nil τ = refl
  terms-width (cons t ts) τ = terms-width ts (ground_term t τ) ∙ term-width t τ

pub term-grown : (t : Term) (τ : Known) → length τ ≡ variables → Grown τ (ground_term t τ)
term-grown t τ l = record { wide = term-width t τ ∙ l; keeps = λ i e. grounding-keeps t τ i e }

pub both-grown : (b : Bool) (t u : Term) (τ : Known) → length τ ≡ variables → Grown τ (ground_both b t u τ)
unfolding ground_both
both-grown true t u τ l = grown-on (term-grown t τ l) (term-grown u (ground_term t τ) (term-grown t τ l).wide)
both-grown false t u τ l = stays l

same-grown : (b : Bool) (pairs : Known → Known) (τ : Known) → length τ ≡ variables → Grown τ (pairs τ) → Grown τ (equate_same b pairs τ)
unfolding equate_same
same-grown true pairs τ l g = g
same-grown false pairs τ l g = grown-everything l

mutual
  unfolding equate equate_variable

  pub equate-grown : (t u : Term) (τ : Known) → length τ ≡ variables → Grown τ (equate t u τ)
  equate-grown (variable x at) u τ l = both-grown (is_ground τ (variable x at) || is_ground τ u) (variable x at) u τ l
  equate-grown (compound at f ts) (variable y bt) τ l =
      both-grown (is_ground τ (compound at f ts) || is_ground τ (variable y bt)) (compound at f ts) (variable y bt) τ l
  equate-grown (compound at f ts) (compound bt g us) τ l =
      same-grown (same_predicate f (arity ts) g (arity us)) (λ ρ. equate_all ts us ρ) τ l (equate-all-grown ts us τ l)

  pub equate-all-grown : (ts us : Terms) (τ : Known) → length τ ≡ variables → Grown τ (equate_all ts us τ)
  equate-all-grown nil nil τ l = stays l
  equate-all-grown nil (cons u us) τ l = grown-everything l
  equate-all-grown (cons t ts) nil τ l = grown-everything l
  equate-all-grown (cons t ts) (cons u us) τ l = grown-on (equate-grown t u τ l) (equate-all-grown ts us (equate t u τ) (equate-grown t u τ l).wide)

if-grown : (b : Bool) (t : Term) (τ : Known) → length τ ≡ variables → Grown τ (ground_if b t τ)
unfolding ground_if
if-grown true t τ l = term-grown t τ l
if-grown false t τ l = stays l

pub marked-grown : (m : Mark) (ms : List Mark) (ts : List Term) (τ : Known) → length τ ≡ variables → Grown τ (ground_marked m ms ts τ)
unfolding ground_marked
marked-grown m [] ts τ l = stays l
marked-grown m (k ∷ ks) [] τ l = stays l
marked-grown m (k ∷ ks) (t ∷ ts) τ l =
    grown-on (if-grown (same_mark m k) t τ l) (marked-grown m ks ts (ground_if (same_mark m k) t τ) (if-grown (same_mark m k) t τ l).wide)
