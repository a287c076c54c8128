-- Three words as read are two words loaded. Assumes nothing.
use Prim.Native.Nat.{ℕ, zero, suc, ◌+◌, ◌-◌, ◌*◌, ◌/◌}
use native.Mathlib.Omega.{arith}
use mathlib.Core.Path.{◌≡◌, sym, ap, ◌∙◌}
use lib.Arith.{digits_div}

-- ---- three words for two

halves : (n d : ℕ) → n * 3 ≡ d * 2 → (k : ℕ) × ((d ≡ k * 3 + 0) × (n ≡ k * 2))
halves zero d e = (0, (omega arith, omega arith))
halves (suc zero) zero e = absurd (omega arith)
halves (suc zero) (suc zero) e = absurd (omega arith)
halves (suc zero) (suc (suc d)) e = absurd (omega arith)
halves (suc (suc n)) d e =
    let o : (k : ℕ) × ((d - 3 ≡ k * 3 + 0) × (n ≡ k * 2)) = halves n (d - 3) (omega arith) in
    let a : d - 3 ≡ o.0 * 3 + 0 = o.1.0 in
    let b : n ≡ o.0 * 2 = o.1.1 in
    (suc o.0, (omega arith, omega arith))

pub nodes-of-is : (words marks n : ℕ) → n * 3 + marks * 2 ≡ words * 2 → (words - marks) / 3 * 2 ≡ n
nodes-of-is words marks n e =
    let o : (k : ℕ) × ((words - marks ≡ k * 3 + 0) × (n ≡ k * 2)) = halves n (words - marks) (omega arith) in
    ap (λ (d : ℕ). d / 3 * 2) o.1.0 ∙ (ap (λ (d : ℕ). d * 2) (digits_div o.0 (omega arith)) ∙ sym o.1.1)
