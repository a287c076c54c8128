-- Distinct numbers below a bound are no more than the bound. Assumes nothing.
use Prim.Native.Nat.{ℕ, zero, suc, ◌≤◌, ◌<◌}
use native.Mathlib.Omega.{arith}
use mathlib.Core.Path.{◌≡◌, refl, sym, ap, ◌∙◌}
use mathlib.Core.Bool.{Bool, true, false}
use mathlib.Core.Logic.{◌⊎◌, inl, inr}
use lib.Dec.{eqb}
use borrow.Author.Tests.{eqb-true, eqb-false}

-- one of the first n is m, or none is
pub find : (f : ℕ → ℕ) (m n : ℕ) → ((i : ℕ) × (i < n) × (f i ≡ m)) ⊎ ((i : ℕ) → i < n → f i ≡ m → ⊥)
find f m zero = inr (λ i l e. omega arith)
find f m (suc n) = go (eqb (f n) m) refl (find f m n)
  where
    go : (b : Bool) → eqb (f n) m ≡ b → ((i : ℕ) × (i < n) × (f i ≡ m)) ⊎ ((i : ℕ) → i < n → f i ≡ m → ⊥) → ((i : ℕ) × (i < suc n) × (f i ≡ m)) ⊎ ((i : ℕ) → i < suc n → f i ≡ m → ⊥)
    go true e r = inl (n, omega arith, eqb-true (f n) m e)
    go false e (inl x) = inl (x.0, (let l : x.0 < n = x.1 in omega arith), x.2)
    go false e (inr k) = inr (λ i l q. last i l q (eqb i n) refl)
      where
        last : (i : ℕ) → i < suc n → f i ≡ m → (b : Bool) → eqb i n ≡ b → ⊥
        last i l q true w = eqb-false (f n) m e (ap f (sym (eqb-true i n w)) ∙ q)
        last i l q false w = k i (let z : i ≡ n → ⊥ = eqb-false i n w in omega (arith, z)) q

-- f with the value m, at i, moved to the end
skip : (ℕ → ℕ) → ℕ → ℕ → Bool → ℕ
skip f n j true = f n
skip f n j false = f j

module _ (f : ℕ → ℕ) (m n i : ℕ) (at : f i ≡ m) (below : i < suc n) (small : (j : ℕ) → j < suc n → f j < suc m) (apart : (j k : ℕ) → j < suc n → k < suc n → f j ≡ f k → j ≡ k) where
  moved : ℕ → ℕ
  moved j = skip f n j (eqb j i)

  moved-small : (j : ℕ) → j < n → moved j < m
  unfolding moved skip
  moved-small j l = go (eqb j i) refl
    where
      go : (b : Bool) → eqb j i ≡ b → skip f n j b < m
      go true e = let a : j ≡ i = eqb-true j i e in let s : f n < suc m = small n (omega arith) in let d : f n ≡ m → ⊥ = (λ q. let z : n ≡ i = apart n i (omega arith) below (q ∙ sym at) in omega arith) in omega (arith, d)
      go false e = let a : j ≡ i → ⊥ = eqb-false j i e in let s : f j < suc m = small j (omega arith) in let d : f j ≡ m → ⊥ = (λ q. a (apart j i (omega arith) below (q ∙ sym at))) in omega (arith, d)

  moved_apart : (j k : ℕ) → j < n → k < n → moved j ≡ moved k → j ≡ k
  unfolding moved skip
  moved_apart j k l h e = go (eqb j i) refl (eqb k i) refl e
    where
      go : (a : Bool) → eqb j i ≡ a → (b : Bool) → eqb k i ≡ b → skip f n j a ≡ skip f n k b → j ≡ k
      go true x true y q = eqb-true j i x ∙ sym (eqb-true k i y)
      go true x false y q = absurd (let z : n ≡ k = apart n k (omega arith) (omega arith) q in omega arith)
      go false x true y q = absurd (let z : j ≡ n = apart j n (omega arith) (omega arith) q in omega arith)
      go false x false y q = apart j k (omega arith) (omega arith) q

abbrev pub Bounded : ℕ → Type 0
Bounded m = (n : ℕ) (f : ℕ → ℕ) → ((j : ℕ) → j < n → f j < m) → ((j k : ℕ) → j < n → k < n → f j ≡ f k → j ≡ k) → n ≤ m

none_below : Bounded 0
none_below zero f small apart = omega arith
none_below (suc n) f small apart = absurd (let z : f 0 < 0 = small 0 (omega arith) in omega arith)

one-more : (m : ℕ) → Bounded m → Bounded (suc m)
one-more m ih zero f small apart = omega arith
one-more m ih (suc n) f small apart = go (find f m (suc n))
  where
    go : ((i : ℕ) × (i < suc n) × (f i ≡ m)) ⊎ ((i : ℕ) → i < suc n → f i ≡ m → ⊥) → suc n ≤ suc m
    go (inl x) =
        let k : n ≤ m = ih n (moved f m n x.0 x.2 x.1 small apart) (moved-small f m n x.0 x.2 x.1 small apart) (moved_apart f m n x.0 x.2 x.1 small apart) in
        omega arith
    go (inr k) =
        let l : suc n ≤ m = ih (suc n) f (λ j h. let s : f j < suc m = small j h in let d : f j ≡ m → ⊥ = k j h in omega (arith, d)) apart in
        omega arith

-- n distinct numbers below m: n is at most m
pub pigeonhole : (m : ℕ) → Bounded m
pigeonhole zero = none_below
pigeonhole (suc m) = one-more m (pigeonhole m)
