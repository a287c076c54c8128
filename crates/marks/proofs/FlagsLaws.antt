-- Laws of flags, one for each variable number, gone over from the left. Assumes nothing.
use Prim.Native.Nat.{ℕ, zero, suc, ◌+◌, ◌≤◌, ◌<◌}
use native.Mathlib.Omega.{arith}
use native.Mathlib.Numerals.{add-one}
use mathlib.Core.Path.{◌≡◌, refl, sym, ap, ap₂, ◌∙◌}
use mathlib.Core.Bool.{Bool, true, false, not, ◌&&◌, ◌||◌}
use mathlib.Core.List.{[], ◌∷◌, ◌++◌, append_assoc, append-nil}
use lib.ListN.{length, get_or, set, take, drop, drop_of_length-le, length-set}
use Rattle.std.specs.Bool.{MatchBool}
use Rattle.std.specs.List.{zip, AllWithin, HoldsAt}
use lib.Seq.{drop-cons, take_all, take-suc-set}
use Rattle.syntax.specs.Limits.{variables}
use Rattle.mode_rules.specs.Modes.{Known, further, in_both}

-- ---- whether some variable became ground

-- the second of a pair of flags is set, and the first is not
abbrev pub newly : Bool × Bool → Bool
newly x = not x.0 && x.1

or-true : (x : Bool) {y : Bool} → true ≡ y → true ≡ (x || y)
or-true true e = refl
or-true false e = e

-- where some pair says so there is one more, and where none does there is none
pub some-further : (τ σ : Known) (k : ℕ) → k < length (zip τ σ) → HoldsAt (λ x. newly x ≡ true) (zip τ σ) k → true ≡ further τ σ
unfolding further
some-further [] σ k l h = absurd (omega arith)
some-further (b ∷ τ) [] k l h = absurd (omega arith)
some-further (b ∷ τ) (c ∷ σ) zero l h = sym (ap (λ (x : Bool). x || further τ σ) (h (b, c)))
some-further (b ∷ τ) (c ∷ σ) (suc k) l h = or-true (not b && c) (some-further τ σ k (omega arith) h)

pub none-further : (τ σ : Known) → AllWithin (λ x. newly x ≡ false) (zip τ σ) 0 (length (zip τ σ)) → false ≡ further τ σ
unfolding further
none-further [] σ h = refl
none-further (b ∷ τ) [] h = refl
none-further (b ∷ τ) (c ∷ σ) h =
    none-further τ σ (λ k d z l. h (suc k) d (omega arith) (omega arith))
    ∙ sym (ap (λ (x : Bool). x || further τ σ) (h 0 (b, c) (omega arith) (omega arith)))

pub any-further : (τ σ : Known) (r : Bool)
    → MatchBool r ((k : ℕ) × (k < length (zip τ σ)) × HoldsAt (λ x. newly x ≡ true) (zip τ σ) k) (AllWithin (λ x. newly x ≡ false) (zip τ σ) 0 (length (zip τ σ)))
    → r ≡ further τ σ
any-further τ σ true h = some-further τ σ h.0 h.1 h.2
any-further τ σ false h = none-further τ σ h

-- ---- what both sides of a bracket leave ground, from the left

-- with so many flags stored
pub record Halfway (left right both : Known) (i : ℕ) : Type 0 where
  pub left_wide : length left ≡ variables
  pub right_wide : length right ≡ variables
  pub both_wide : length both ≡ variables
  pub low : i ≤ variables
  pub same : take i both ++ in_both (drop i left) (drop i right) ≡ in_both left right

pub halfway-starts : {left right : Known} → length left ≡ variables → length right ≡ variables → Halfway left right left 0
halfway-starts l r = record { left_wide = l; right_wide = r; both_wide = l; low = omega arith; same = refl }

pub halfway-on : {left right both : Known} {i : ℕ} {b : Bool} → i < variables → b ≡ (get_or left i false && get_or right i false)
    → Halfway left right both i → Halfway left right (set both i b) (i + 1)
unfolding in_both
halfway-on {left} {right} {both} {i} {b} l e h =
    let nl : i < length left = omega (arith, h.left_wide) in
    let nr : i < length right = omega (arith, h.right_wide) in
    let nb : i < length both = omega (arith, h.both_wide) in
    let step : in_both (drop i left) (drop i right) ≡ b ∷ in_both (drop (i + 1) left) (drop (i + 1) right) =
    ap₂ in_both (drop-cons left i false nl) (drop-cons right i false nr) ∙ rw (← e, add-one) in
    record {
      left_wide = h.left_wide;
      right_wide = h.right_wide;
      both_wide = length-set both i b ∙ h.both_wide;
      low = omega arith;
      same =
          ap (λ (x : Known). x ++ in_both (drop (i + 1) left) (drop (i + 1) right)) (ap (λ (k : ℕ). take k (set both i b)) (add-one i) ∙ take-suc-set both i b nb)
          ∙ append_assoc (take i both) (b ∷ []) (in_both (drop (i + 1) left) (drop (i + 1) right))
          ∙ ap (λ (x : Known). take i both ++ x) (sym step)
          ∙ h.same;
    }

pub halfway-ends : {left right both : Known} {i : ℕ} → variables ≤ i → Halfway left right both i → both ≡ in_both left right
unfolding in_both
halfway-ends {left} {right} {both} {i} l h =
    let e : drop i left ≡ [] = drop_of_length-le left {i = i} (omega (arith, h.left_wide)) in
    sym (append-nil both)
    ∙ ap₂ (λ (x y : Known). x ++ y) (sym (take_all i both (omega (arith, h.both_wide)))) (sym (ap (λ (x : Known). in_both x (drop i right)) e))
    ∙ h.same
