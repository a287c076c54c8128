-- Laws of the two halves of a word: what was put into one comes out of it, and the other stays. Assumes nothing.
use Prim.Native.Nat.{ℕ, zero, suc, ◌+◌, ◌*◌, ◌/◌, ◌%◌, ◌<◌}
use native.Mathlib.Omega.{arith}
use mathlib.Core.Path.{◌≡◌, refl}
use Rattle.run_layout.specs.Regions.{half_word}
use Rattle.run_layout.specs.Halves.{half, stored}

pub half-stored : (h w i : ℕ) → i < half_word → half h (stored h w i) ≡ i
unfolding half stored
half-stored zero w i l = omega arith
half-stored (suc h) w i l = omega arith

pub half-apart : (h g w i : ℕ) → h < 2 → g < 2 → (g ≡ h → ⊥) → i < half_word → half g (stored h w i) ≡ half g w
unfolding half stored
half-apart zero zero w i a b n l = absurd (n refl)
half-apart zero (suc g) w i a b n l = omega arith
half-apart (suc h) zero w i a b n l = omega arith
half-apart (suc h) (suc g) w i a b n l = absurd (n (let z : suc g ≡ suc h = omega arith in z))

-- ---- one law for each way out of `half_of` and `with_half`

pub stored_low : (h w i : ℕ) → h ≡ 0 → w / half_word % half_word * half_word + i ≡ stored h w i
unfolding stored
stored_low zero w i e = refl
stored_low (suc h) w i e = absurd (omega arith)

pub stored-high : (h w i : ℕ) → (h ≡ 0 → ⊥) → i * half_word + w % half_word ≡ stored h w i
unfolding stored
stored-high zero w i n = absurd (n refl)
stored-high (suc h) w i n = refl

pub half-low : (h w : ℕ) → h ≡ 0 → w % half_word ≡ half h w
unfolding half
half-low zero w e = refl
half-low (suc h) w e = absurd (omega arith)

pub half_high : (h w : ℕ) → (h ≡ 0 → ⊥) → w / half_word % half_word ≡ half h w
unfolding half
half_high zero w n = absurd (n refl)
half_high (suc h) w n = refl
