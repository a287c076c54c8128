-- Laws of numerals: dropping leading zeros. Assumes nothing.
use Prim.Native.Nat.{ℕ, zero, suc, ◌+◌, ◌-◌, ◌≤◌, ◌<◌}
use native.Mathlib.Omega.{arith}
use native.Mathlib.Nat.{zero-add, suc-add, sub-zero, zero-sub, suc-sub-suc}
use mathlib.Core.Path.{◌≡◌, refl, sym, ap, ap₂, ◌∙◌}
use mathlib.Core.Bool.{Bool, true, false}
use mathlib.Core.List.{List, [], ◌∷◌}
use lib.Dec.{eqb}
use lib.ListN.{length, get_or, take, drop, length-drop}
use lib.Seq.{length-take-le, drop-cons}
use borrow.Author.Tests.{eq-eqb, ne_eqb}
use Rattle.syntax.specs.Tokens.{spelling}
use Rattle.syntax.specs.Numerals.{zero_digit, trimmed, dropped}
use Rattle.syntax.specs.Reading.{Cursor, spelt, numeral_at}

-- digits that begin with d and e, by whether d is a zero
abbrev kept : ℕ → ℕ → List ℕ → Bool → List ℕ
kept d e ds b = elim b [ true ↦ trimmed (e ∷ ds) | false ↦ d ∷ e ∷ ds ]

-- Dropping twice is dropping once.
twice-by : (d e : ℕ) (ds : List ℕ) (b : Bool) → eqb d zero_digit ≡ b → trimmed (trimmed (e ∷ ds)) ≡ trimmed (e ∷ ds)
    → trimmed (kept d e ds b) ≡ kept d e ds b
unfolding trimmed
twice-by d e ds true q h = h
twice-by d e ds false q h = ap (kept d e ds) q

pub trimmed-twice : (ds : List ℕ) → trimmed (trimmed ds) ≡ trimmed ds
unfolding trimmed
trimmed-twice [] = refl
trimmed-twice (d ∷ []) = refl
trimmed-twice (d ∷ e ∷ ds) = twice-by d e ds (eqb d zero_digit) refl (trimmed-twice (e ∷ ds))

-- A zero leads what is left only where it stands alone.
leads-by : (d e : ℕ) (ds : List ℕ) (x : ℕ) (xs : List ℕ) (b : Bool) → eqb d zero_digit ≡ b → (trimmed (e ∷ ds) ≡ zero_digit ∷ x ∷ xs → ⊥)
    → kept d e ds b ≡ zero_digit ∷ x ∷ xs → ⊥
leads-by d e ds x xs true q h z = h z
leads-by d e ds x xs false q h z =
    let same : d ≡ zero_digit = cc in
    let clash : ◌≡◌ {A = Bool} true false = sym (eq-eqb d zero_digit same) ∙ q in
    let w : ◌≡◌ {A = ℕ} 0 1 = cc in
    omega arith

pub no-leading-zero : (ds : List ℕ) (x : ℕ) (xs : List ℕ) → trimmed ds ≡ zero_digit ∷ x ∷ xs → ⊥
unfolding trimmed
no-leading-zero [] x xs z = let w : ◌≡◌ {A = ℕ} 0 1 = cc in omega arith
no-leading-zero (d ∷ []) x xs z = let w : ◌≡◌ {A = ℕ} 0 1 = cc in omega arith
no-leading-zero (d ∷ e ∷ ds) x xs z = leads-by d e ds x xs (eqb d zero_digit) refl (no-leading-zero (e ∷ ds) x xs) z

-- A numeral's term has no leading zero but for `0` alone.
pub numeral-leads : (s : List ℕ) (st : Cursor) (x : ℕ) (xs : List ℕ) → (numeral_at s st).name ≡ zero_digit ∷ x ∷ xs → ⊥
numeral-leads s st x xs z = no-leading-zero (spelt s st) x xs z

-- What is left is the digits from the first one kept on.
short-by : (d e : ℕ) (ds : List ℕ) (b : Bool) → length (trimmed (e ∷ ds)) ≤ suc (length ds)
    → length (kept d e ds b) ≤ suc (suc (length ds))
short-by d e ds true h = omega (arith, h)
short-by d e ds false h = omega arith

pub trimmed-short : (ds : List ℕ) → length (trimmed ds) ≤ length ds
unfolding trimmed
trimmed-short [] = omega arith
trimmed-short (d ∷ []) = omega arith
trimmed-short (d ∷ e ∷ ds) = short-by d e ds (eqb d zero_digit) (trimmed-short (e ∷ ds))

rest-by : (d e : ℕ) (ds : List ℕ) (b : Bool) → length (trimmed (e ∷ ds)) ≤ suc (length ds) → trimmed (e ∷ ds) ≡ drop (suc (length ds) - length (trimmed (e ∷ ds))) (e ∷ ds)
    → kept d e ds b
    ≡ drop (suc (suc (length ds)) - length (kept d e ds b)) (d ∷ e ∷ ds)
rest-by d e ds true l h =
    let k : suc (suc (length ds) - length (trimmed (e ∷ ds))) ≡ suc (suc (length ds)) - length (trimmed (e ∷ ds)) = omega (arith, l) in
    h ∙ ap (λ (n : ℕ). drop n (d ∷ e ∷ ds)) k
rest-by d e ds false l h =
    let k : 0 ≡ suc (suc (length ds)) - suc (suc (length ds)) = omega arith in
    ap (λ (n : ℕ). drop n (d ∷ e ∷ ds)) k

pub trimmed-rest : (ds : List ℕ) → trimmed ds ≡ drop (dropped ds) ds
unfolding trimmed
trimmed-rest [] = refl
trimmed-rest (d ∷ []) = refl
trimmed-rest (d ∷ e ∷ ds) = rest-by d e ds (eqb d zero_digit) (trimmed-short (e ∷ ds)) (trimmed-rest (e ∷ ds))

-- ---- in a text

take_none : (n : ℕ) → ◌≡◌ {A = List ℕ} (take n []) []
take_none zero = refl
take_none (suc n) = refl

drop-take : (k n : ℕ) (l : List ℕ) → drop k (take n l) ≡ take (n - k) (drop k l)
drop-take zero n l = ap (λ (m : ℕ). take m l) (sym (sub-zero n))
drop-take (suc k) zero l = ap (λ (m : ℕ). take m (drop (suc k) l)) (sym (zero-sub (suc k)))
drop-take (suc k) (suc n) [] = sym (take_none (suc n - suc k))
drop-take (suc k) (suc n) (x ∷ xs) = drop-take k n xs ∙ ap (λ (m : ℕ). take m (drop k xs)) (sym (suc-sub-suc n k))

drop-none : (n : ℕ) → ◌≡◌ {A = List ℕ} (drop n []) []
drop-none zero = refl
drop-none (suc n) = refl

drop-drop : (a k : ℕ) (l : List ℕ) → drop k (drop a l) ≡ drop (a + k) l
drop-drop zero k l = ap (λ (m : ℕ). drop m l) (sym (zero-add k))
drop-drop (suc a) k [] = drop-none k ∙ sym (drop-none (suc a + k))
drop-drop (suc a) k (x ∷ xs) = drop-drop a k xs ∙ ap (λ (m : ℕ). drop m (x ∷ xs)) (sym (suc-add a k))

-- The digits left of a numeral of the text stand where the first one kept does.
pub trimmed-spelling : (s : List ℕ) (at len : ℕ) → trimmed (spelling s at len) ≡ spelling s (at + dropped (spelling s at len)) (len - dropped (spelling s at len))
trimmed-spelling s at len =
    trimmed-rest (spelling s at len)
    ∙ drop-take (dropped (spelling s at len)) len (drop at s)
    ∙ ap (take (len - dropped (spelling s at len))) (drop-drop at (dropped (spelling s at len)) s)

-- ---- one digit after another

pub trim-zero : (d : ℕ) (ds : List ℕ) → d ≡ zero_digit → 1 ≤ length ds → trimmed (d ∷ ds) ≡ trimmed ds
unfolding trimmed
trim-zero d [] z h = absurd (omega (arith, h))
trim-zero d (e ∷ ds) z h = ap (kept d e ds) (eq-eqb d zero_digit z)

pub trim-other : (d : ℕ) (ds : List ℕ) → (d ≡ zero_digit → ⊥) → trimmed (d ∷ ds) ≡ d ∷ ds
unfolding trimmed
trim-other d [] z = refl
trim-other d (e ∷ ds) z = ap (kept d e ds) (ne_eqb d zero_digit z)

pub trim-one : (ds : List ℕ) → length ds ≤ 1 → trimmed ds ≡ ds
unfolding trimmed
trim-one [] h = refl
trim-one (d ∷ []) h = refl
trim-one (d ∷ e ∷ ds) h = absurd (omega (arith, h))

spelt-length : (s : List ℕ) (p k : ℕ) → p + k ≤ length s → length (spelling s p k) ≡ k
spelt-length s p k h = length-take-le k (drop p s) (let l : length (drop p s) ≡ length s - p = length-drop p s in omega (arith, h, l))

spelt-cons : (s : List ℕ) (p k : ℕ) → 1 ≤ k → p + k ≤ length s → spelling s p k ≡ get_or s p 0 ∷ spelling s (p + 1) (k - 1)
spelt-cons s p k l h =
    let low : p < length s = omega (arith, l, h) in
    let some : k ≡ suc (k - 1) = omega (arith, l) in
    let past : suc p ≡ p + 1 = omega arith in
    ap₂ (λ (n : ℕ) (xs : List ℕ). take n xs) some (drop-cons s p 0 low) ∙ ap (λ (q : ℕ). get_or s p 0 ∷ take (k - 1) (drop q s)) past

-- Where a numeral stands that begins at a byte, once some zeros are dropped: the digits from p on, so many, are as good as all.
pub record Keeps (s : List ℕ) (at len p left : ℕ) : Type 0 where
  pub sum : p + left ≡ at + len
  pub from : at ≤ p
  pub same : trimmed (spelling s at len) ≡ trimmed (spelling s p left)

pub keeps-all : (s : List ℕ) (at len : ℕ) → Keeps s at len at len
keeps-all s at len = record { sum = refl; from = omega arith; same = refl }

module _ {s : List ℕ} {at len p left : ℕ} (inside : at + len ≤ length s) (k : Keeps s at len p left) where
  pub keeps_fewer : 1 < left → get_or s p 0 ≡ zero_digit → Keeps s at len (p + 1) (left - 1)
  keeps_fewer l z =
      let q : p + left ≡ at + len = k.sum in
      let m : length (spelling s (p + 1) (left - 1)) ≡ left - 1 = spelt-length s (p + 1) (left - 1) (omega (arith, l, q, inside)) in
      record {
        sum = omega (arith, l, q);
        from = omega (arith, k.from);
        same = k.same ∙ ap trimmed (spelt-cons s p left (omega (arith, l)) (omega (arith, q, inside))) ∙ trim-zero (get_or s p 0) (spelling s (p + 1) (left - 1)) z (omega (arith, l, m));
      }

  kept_at : trimmed (spelling s p left) ≡ spelling s p left → p ≡ at + dropped (spelling s at len)
  kept_at e =
      let q : p + left ≡ at + len = k.sum in
      let a : length (spelling s at len) ≡ len = spelt-length s at len inside in
      let b : length (spelling s p left) ≡ left = spelt-length s p left (omega (arith, q, inside)) in
      let c : length (trimmed (spelling s at len)) ≡ left = ap length (k.same ∙ e) ∙ b in
      omega (arith, q, a, c, k.from)

  pub keeps-other : 1 < left → (get_or s p 0 ≡ zero_digit → ⊥) → p ≡ at + dropped (spelling s at len)
  keeps-other l z =
      let q : p + left ≡ at + len = k.sum in
      let c : spelling s p left ≡ get_or s p 0 ∷ spelling s (p + 1) (left - 1) = spelt-cons s p left (omega (arith, l)) (omega (arith, q, inside)) in
      kept_at (ap trimmed c ∙ trim-other (get_or s p 0) (spelling s (p + 1) (left - 1)) z ∙ sym c)

  pub keeps-last : left ≤ 1 → p ≡ at + dropped (spelling s at len)
  keeps-last l =
      let q : p + left ≡ at + len = k.sum in
      let b : length (spelling s p left) ≡ left = spelt-length s p left (omega (arith, q, inside)) in
      kept_at (trim-one (spelling s p left) (omega (arith, l, b)))
