-- Laws of the passes over an equation, one for each way out of the functions. Assumes nothing.
use Prim.Native.Nat.{ℕ, ◌≤◌, ◌<◌}
use native.Mathlib.Omega.{arith}
use mathlib.Core.Path.{◌≡◌, refl, sym, ap, ◌∙◌}
use mathlib.Core.Bool.{Bool, true, false, ◌||◌, true≢false}
use mathlib.Core.List.{List}
use lib.ListN.{length, get_or}
use lib.Seq.{get_or-set_same}
use Rattle.syntax.specs.Limits.{variables}
use Rattle.syntax.specs.Terms.{Term, Terms, variable, compound, nil, cons}
use Rattle.syntax.specs.Words.{first_name}
use Rattle.mode_rules.specs.Modes.{Known, is_ground, are_ground, ground_term, ground_terms, ground_both, equate_variable, equate, further, settle}
use Rattle.mode_rules.proofs.Terms.{both, grounding-keeps, all-grounding-keeps, ground-grows, nothing-given}
use Rattle.mode_rules.proofs.Equations.{left-ground}
use Rattle.mode_rules.proofs.Growth.{term-grown, equate-grown}
use Rattle.mode_rules.proofs.Passes.{count_known, count_most, Pass, adds, still, pass, settle-last, settle-on}
use Rattle.marks.specs.Spelt.{Numbered, AllNumbered, numbered_variable, numbered_compound, numbered_cons}
use Rattle.marks.specs.Tables.{TermAt, PairAt}
use Rattle.marks.proofs.Places.{numbered}
use Rattle.marks.proofs.Equating.{left_at, right-at, open-left, open-right}

-- ---- passes until one makes nothing further ground

-- after some passes over the equation of the terms at p and q, from what was known: the rest of them leaves the same
pub record Going (s table : List ℕ) (p q : ℕ) (start flags : Known) : Type 0 where
  pub wide : length flags ≡ variables
  pub same : (w : PairAt s table p q) → settle w.left w.right flags ≡ settle w.left w.right start

pub going-starts : {s table : List ℕ} {p q : ℕ} {τ : Known} → length τ ≡ variables → Going s table p q τ τ
going-starts l = record { wide = l; same = λ w. refl }

module _ {s table : List ℕ} {p q : ℕ} {start flags after : Known} {b : Bool}
    (g : Going s table p q start flags)
    (e : (w : PairAt s table p q) → after ≡ equate w.left w.right flags)
    (f : b ≡ further flags after) where
  pub going-ends : b ≡ false → (w : PairAt s table p q) → after ≡ settle w.left w.right start
  going-ends d w = by (pass w.left w.right flags g.wide)
    where
      by : Pass w.left w.right flags → after ≡ settle w.left w.right start
      by (still n h) = e w ∙ h ∙ sym (settle-last w.left w.right flags h) ∙ g.same w
      by (adds n a) = absurd (true≢false (sym n ∙ sym (ap (further flags) (e w)) ∙ sym f ∙ d))

  module _ (w : PairAt s table p q) where
    pub going_on : Going s table p q start after
    going_on = record {
      wide = ap length (e w) ∙ (equate-grown w.left w.right flags g.wide).wide;
      same = λ v. ap (settle v.left v.right) (e v) ∙ settle-on v.left v.right flags g.wide ∙ g.same v;
    }

    pub going-adds : b ≡ true → (count_known flags < count_known after) × (count_known after ≤ variables)
    going-adds d = (by (pass w.left w.right flags g.wide), omega (arith, count_most after, going_on.wide))
      where
        by : Pass w.left w.right flags → count_known flags < count_known after
        by (adds n a) = omega (arith, ap count_known (e w))
        by (still n h) = absurd (true≢false (sym d ∙ f ∙ ap (further flags) (e w) ∙ n))

-- ---- a variable on a side: one pass does

mutual
  unfolding is_ground ground_term

  -- a term whose variables were made ground is ground
  made-ground : (t : Term) (τ : Known) → Numbered t → length τ ≡ variables → is_ground (ground_term t τ) t ≡ true
  made-ground (variable i at) τ (numbered_variable k) l = get_or-set_same τ i true false (omega arith)
  made-ground (compound at f ts) τ (numbered_compound k) l = all-made-ground ts τ k l

  all-made-ground : (ts : Terms) (τ : Known) → AllNumbered ts → length τ ≡ variables → are_ground (ground_terms ts τ) ts ≡ true
  all-made-ground nil τ k l = refl
  all-made-ground (cons t ts) τ (numbered_cons k ks) l =
      let ρ : Known = ground_term t τ in
      both (ground-grows t ρ (ground_terms ts ρ) (λ i e. all-grounding-keeps ts ρ i e) (made-ground t τ k l)) (all-made-ground ts ρ ks (term-grown t τ l).wide)

at_once : (t u : Term) (τ : Known) → Numbered t → Numbered u → length τ ≡ variables → equate_variable t u (equate_variable t u τ) ≡ equate_variable t u τ
at_once t u τ k m l = by (is_ground τ t || is_ground τ u) refl
  where
    ρ : Known
    ρ = ground_term t τ

    wide : length ρ ≡ variables
    wide = (term-grown t τ l).wide

    left : is_ground (ground_term u ρ) t ≡ true
    left = ground-grows t ρ (ground_term u ρ) (λ i e. grounding-keeps u ρ i e) (made-ground t τ k l)

    by : (b : Bool) → (is_ground τ t || is_ground τ u) ≡ b → equate_variable t u (equate_variable t u τ) ≡ equate_variable t u τ
    by true e =
        let h : equate_variable t u τ ≡ ground_term u ρ = unfold equate_variable in unfold ground_both in (ap (λ (b : Bool). ground_both b t u τ) e) in
        ap (equate_variable t u) h ∙ left-ground t u (ground_term u ρ) left ∙ nothing-given u (ground_term u ρ) (made-ground u ρ m wide) ∙ sym h
    by false e =
        let h : equate_variable t u τ ≡ τ = unfold equate_variable in unfold ground_both in (ap (λ (b : Bool). ground_both b t u τ) e) in
        ap (equate_variable t u) h

-- where a pass over two terms is that of an equation with a variable on a side
settles-at-once : (t u : Term) (τ : Known) → Numbered t → Numbered u → length τ ≡ variables → ((σ : Known) → equate_variable t u σ ≡ equate t u σ)
    → equate_variable t u τ ≡ settle t u τ
settles-at-once t u τ k m l e =
    e τ
    ∙ sym (settle-last t u (equate t u τ) (ap (equate t u) (sym (e τ)) ∙ sym (e (equate_variable t u τ)) ∙ at_once t u τ k m l ∙ e τ))
    ∙ settle-on t u τ l

module _ {s table : List ℕ} {p q : ℕ} (τ : Known) {r : Known} (l : length τ ≡ variables) (v : ℕ) (h : (t : TermAt table p) (u : TermAt table q) → r ≡ equate_variable t.term u.term τ) where
  pub settled-left : v ≡ get_or table p 0 → v < first_name → (w : PairAt s table p q) → r ≡ settle w.left w.right τ
  settled-left e k w =
      h (left_at w) (right-at w)
      ∙ settles-at-once w.left w.right τ (numbered w.left_stands) (numbered w.right_stands) l
      (λ σ. open-left table p σ w.left w.right w.has_left (omega arith))

  pub settled-right : v ≡ get_or table q 0 → v < first_name → (w : PairAt s table p q) → r ≡ settle w.left w.right τ
  settled-right e k w =
      h (left_at w) (right-at w)
      ∙ settles-at-once w.left w.right τ (numbered w.left_stands) (numbered w.right_stands) l
      (λ σ. open-right table q σ w.left w.right w.has_right (omega arith))
