-- Laws of parts of a text: comparing them, also from the last byte on. Assumes nothing.
use Prim.Native.Nat.{ℕ, zero, suc, ◌+◌, ◌-◌, ◌≤◌, ◌<◌}
use native.Mathlib.Nat.{le_of_suc-le-suc, not-suc-le-zero}
use native.Mathlib.Omega.{arith}
use mathlib.Core.Path.{◌≡◌, refl, sym, ap, ◌∙◌}
use mathlib.Core.Bool.{Bool, true, false, ◌&&◌, and-true, and_assoc}
use mathlib.Core.List.{List, [], ◌∷◌}
use lib.ListN.{length, get_or, take, drop, length-take, length-drop}
use lib.Seq.{get_or-drop}
use lib.Dec.{eqb}
use borrow.Author.Tests.{eq-eqb, ne_eqb}
use Rattle.std.proofs.Common.{nat_eq, slice_range}
use Rattle.std.specs.Cmp.Lexicographic.{pointwise}
use Rattle.syntax.specs.Terms.{same_bytes}
use Rattle.syntax.specs.Tokens.{spelling}

-- ---- the same bytes

false-and : (t u : Bool) → u ≡ false → (t && u) ≡ false
false-and true u e = e
false-and false u e = refl

pub same_length : (a b : List ℕ) → (length a ≡ length b → ⊥) → same_bytes a b ≡ false
unfolding same_bytes
same_length [] [] h = absurd (h refl)
same_length [] (b ∷ r) h = refl
same_length (a ∷ q) [] h = refl
same_length (a ∷ q) (b ∷ r) h = false-and (eqb a b) (same_bytes q r) (same_length q r (λ e. h (ap suc e)))

pub length-spelling : (s : List ℕ) (at len : ℕ) → at + len ≤ length s → length (spelling s at len) ≡ len
length-spelling s at len h = simp (length-take, length-drop) (omega arith)

-- ---- comparisons, from the last byte on: the bytes of names that begin alike are soon told apart

and-off : (x : Bool) → (x && false) ≡ false
and-off true = refl
and-off false = refl

-- one byte more
same-snoc : (x y : List ℕ) (k : ℕ) → k < length x → k < length y
    → same_bytes (take (suc k) x) (take (suc k) y) ≡ (same_bytes (take k x) (take k y) && eqb (get_or x k 0) (get_or y k 0))
unfolding same_bytes
same-snoc [] y k p q = absurd (not-suc-le-zero p)
same-snoc (c ∷ r) [] k p q = absurd (not-suc-le-zero q)
same-snoc (c ∷ r) (d ∷ u) zero p q = and-true (eqb c d)
same-snoc (c ∷ r) (d ∷ u) (suc k) p q =
    ap (λ (v : Bool). eqb c d && v) (same-snoc r u k (le_of_suc-le-suc p) (le_of_suc-le-suc q))
    ∙ sym (and_assoc (eqb c d) (same_bytes (take k r) (take k u)) (eqb (get_or r k 0) (get_or u k 0)))

abbrev pub same_up_to : List ℕ → ℕ → List ℕ → ℕ → ℕ → Bool
same_up_to s a t b i = same_bytes (take i (drop a s)) (take i (drop b t))

-- the parts are the same where their first i bytes are
abbrev pub Alike : List ℕ → ℕ → List ℕ → ℕ → ℕ → ℕ → Type 0
Alike s a t b n i = same_bytes (take n (drop a s)) (take n (drop b t)) ≡ same_up_to s a t b i

same_step : (s : List ℕ) (a : ℕ) (t : List ℕ) (b i : ℕ) → 0 < i → a + i ≤ length s → b + i ≤ length t
    → same_up_to s a t b i ≡ (same_up_to s a t b (i - 1) && eqb (get_or s (a + (i - 1)) 0) (get_or t (b + (i - 1)) 0))
same_step s a t b i h p q =
    let m : i ≡ suc (i - 1) = omega arith in
    let x : i - 1 < length (drop a s) = omega (arith, length-drop a s) in
    let y : i - 1 < length (drop b t) = omega (arith, length-drop b t) in
    ap (same_up_to s a t b) m
    ∙ same-snoc (drop a s) (drop b t) (i - 1) x y
    ∙ ap (λ (v : ℕ). same_up_to s a t b (i - 1) && eqb v (get_or (drop b t) (i - 1) 0)) (get_or-drop a s (i - 1) 0)
    ∙ ap (λ (v : ℕ). same_up_to s a t b (i - 1) && eqb (get_or s (a + (i - 1)) 0) v) (get_or-drop b t (i - 1) 0)

pub alike-on : (s : List ℕ) (a : ℕ) (t : List ℕ) (b n i : ℕ) → 0 < i → i ≤ n → (a + n ≤ length s) × (b + n ≤ length t)
    → get_or s (a + (i - 1)) 0 ≡ get_or t (b + (i - 1)) 0 → Alike s a t b n i → Alike s a t b n (i - 1)
alike-on s a t b n i h l p e w =
    w
    ∙ same_step s a t b i h (omega (arith, p.0)) (omega (arith, p.1))
    ∙ ap (λ (v : Bool). same_up_to s a t b (i - 1) && v) (eq-eqb _ _ e)
    ∙ and-true (same_up_to s a t b (i - 1))

pub alike-differ : (s : List ℕ) (a : ℕ) (t : List ℕ) (b n i : ℕ) → 0 < i → i ≤ n → (a + n ≤ length s) × (b + n ≤ length t)
    → (get_or s (a + (i - 1)) 0 ≡ get_or t (b + (i - 1)) 0 → ⊥) → Alike s a t b n i → false ≡ same_bytes (take n (drop a s)) (take n (drop b t))
alike-differ s a t b n i h l p e w =
    sym
    (w
    ∙ same_step s a t b i h (omega (arith, p.0)) (omega (arith, p.1))
    ∙ ap (λ (v : Bool). same_up_to s a t b (i - 1) && v) (ne_eqb _ _ e)
    ∙ and-off (same_up_to s a t b (i - 1)))

pub alike_end : (s : List ℕ) (a : ℕ) (t : List ℕ) (b n i : ℕ) → i ≤ 0 → Alike s a t b n i
    → true ≡ same_bytes (take n (drop a s)) (take n (drop b t))
unfolding same_bytes
alike_end s a t b n i h w = let z : i ≡ 0 = omega arith in sym (w ∙ simp z)

-- ---- slices that are compared as a whole

pub same_pointwise : (a b : List ℕ) → pointwise nat_eq a b ≡ same_bytes a b
unfolding same_bytes
same_pointwise [] [] = refl
same_pointwise [] (y ∷ b) = refl
same_pointwise (x ∷ a) [] = refl
same_pointwise (x ∷ a) (y ∷ b) = ap (λ (v : Bool). eqb x y && v) (same_pointwise a b)

-- a slice by its two ends
pub part_is : (s : List ℕ) (a n : ℕ) → slice_range s a (a + n) ≡ take n (drop a s)
part_is s a n = let e : (a + n) - a ≡ n = omega arith in ap (λ (m : ℕ). take m (drop a s)) e

pub same_as : (s : List ℕ) (at len : ℕ) (name : List ℕ) → pointwise nat_eq (slice_range s at (at + len)) name ≡ same_bytes (spelling s at len) name
same_as s at len name = simp (part_is s at len, same_pointwise)
