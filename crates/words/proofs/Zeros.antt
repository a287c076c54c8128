-- How many zeros lead a numeral, its last digit apart. Assumes nothing.
use Rattle.std.proofs.Common.{ℕ, zero, suc, ◌≡◌, ◌+◌, ◌-◌, ◌≤◌, refl, sym, ap, ◌∙◌, Bool, true, false, List, [], ◌∷◌, length, take, drop, eqb, nat_lt, not, cond, Some, None, arith}
use Rattle.std.specs.List.{position, position_or_len, slice_range}
use Rattle.std.specs.Option.{unwrap_or}
use Rattle.std.proofs.lemmas.Bool.{ltb-false}
use Rattle.std.proofs.lemmas.List.Sums.{prefix_len-le-length}
use Rattle.syntax.specs.Tokens.{spelling}
use Rattle.syntax.specs.Numerals.{zero_digit, trimmed, dropped}
use Rattle.syntax.proofs.Numerals.{trimmed-short}
use Rattle.words.proofs.TextsLaws.{length-spelling}

-- how many zeros lead some digits
abbrev pub zeros : List ℕ → ℕ
zeros ds = position_or_len (λ (d : ℕ). not (eqb d zero_digit)) ds

by : (d e : ℕ) (ds : List ℕ) (b : Bool) → length (trimmed (e ∷ ds)) ≤ suc (length ds) → dropped (e ∷ ds) ≡ zeros (take (length ds) (e ∷ ds))
    → suc (suc (length ds)) - length {A = ℕ} (elim b [ true ↦ trimmed (e ∷ ds) | false ↦ d ∷ e ∷ ds ]) ≡ cond (not (not b)) (1 + zeros (take (length ds) (e ∷ ds))) 0
by d e ds true l h = omega (arith, l, h)
by d e ds false l h = omega arith

-- of one digit and others, the last digit apart
pub zeros_of : (d : ℕ) (ds : List ℕ) → dropped (d ∷ ds) ≡ zeros (take (length ds) (d ∷ ds))
unfolding trimmed
zeros_of d [] = refl
zeros_of d (e ∷ ds) = by d e ds (eqb d zero_digit) (trimmed-short (e ∷ ds)) (zeros_of e ds)

zeros-dropped : (ds : List ℕ) (n : ℕ) → length ds ≡ suc n → dropped ds ≡ zeros (take n ds)
zeros-dropped [] n e = absurd (omega (arith, e))
zeros-dropped (d ∷ ds) n e = let m : length ds ≡ n = omega (arith, e) in zeros_of d ds ∙ ap (λ (k : ℕ). zeros (take k (d ∷ ds))) m

take-less : (n k : ℕ) (xs : List ℕ) → n ≤ k → take n (take k xs) ≡ take n xs
take-less zero k xs h = refl
take-less (suc n) zero xs h = absurd (omega (arith, h))
take-less (suc n) (suc k) [] h = refl
take-less (suc n) (suc k) (x ∷ xs) h = ap (λ (ys : List ℕ). x ∷ ys) (take-less n k xs (omega (arith, h)))

zeros_lead : (s : List ℕ) (at len : ℕ) → at + len ≤ length s → (len ≡ 0 → ⊥) → zeros (slice_range s at (at + len - 1)) ≡ dropped (spelling s at len)
zeros_lead s at len h z =
    let m : at + len - 1 - at ≡ len - 1 = omega (arith, z) in
    let n : length (spelling s at len) ≡ suc (len - 1) = length-spelling s at len h ∙ omega (arith, z) in
    ap (λ (k : ℕ). zeros (take k (drop at s))) m
    ∙ ap zeros (sym (take-less (len - 1) len (drop at s) (omega arith)))
    ∙ sym (zeros-dropped (spelling s at len) (len - 1) n)

-- ---- where a test passes first, or past all

or-by : (k l : ℕ) (b : Bool) → nat_lt k l ≡ b → k ≤ l → unwrap_or (cond b (Some k) None) l ≡ k
or-by k l true e h = refl
or-by k l false e h = let n : l ≤ k = ltb-false k l e in omega (arith, h, n)

pub or-all : (p : ℕ → Bool) (xs : List ℕ) → unwrap_or (position p xs) (length xs) ≡ position_or_len p xs
or-all p xs = or-by (position_or_len p xs) (length xs) (nat_lt (position_or_len p xs) (length xs)) refl (prefix_len-le-length (λ (x : ℕ). not (p x)) xs)

-- the digits of a numeral before its last one
pub kept_at : (s : List ℕ) (at len : ℕ) → at + len ≤ length s → (len ≡ 0 → ⊥)
    → unwrap_or (position (λ (b : ℕ). not (eqb b zero_digit)) (slice_range s at (at + len - 1))) (length (slice_range s at (at + len - 1))) ≡ dropped (spelling s at len)
kept_at s at len h z = or-all (λ (b : ℕ). not (eqb b zero_digit)) (slice_range s at (at + len - 1)) ∙ zeros_lead s at len h z

-- no more than there are digits
pub kept-within : (s : List ℕ) (at len : ℕ) → at + len ≤ length s → dropped (spelling s at len) ≤ len
kept-within s at len h = let n : length (spelling s at len) ≡ len = length-spelling s at len h in omega arith
