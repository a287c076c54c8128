-- Laws of appending and of decimal digits.
use Prim.Native.Nat.{ℕ, zero, suc, ◌+◌, ◌/◌, ◌%◌, ◌^◌, ◌≤◌, ◌<◌, zero-le}
use native.Mathlib.Nat.{div-lt_iff_lt-mul, pow-suc, add-zero, add-suc, suc-add}
use native.Mathlib.Omega.{arith}
use mathlib.Core.Path.{◌≡◌, refl, sym, ap, subst, ◌∙◌}
use mathlib.Core.Bool.{Bool, true, false}
use mathlib.Core.List.{List, [], ◌∷◌, ◌++◌}
use lib.Dec.{leb, ltb, lit<}
use lib.ListN.{length, take, drop, set, get_or, length-append}
use lib.Seq.{sets, set_out, take_all}
use Rattle.std.proofs.lemmas.List.{take_more}
use borrow.Author.Tests.{ltb-true, ltb-false, lt-ltb, le-ltb, le-leb, lt-leb}
use Rattle.words.specs.Buffers.{Appended, digits, decimal, fitted_length, fitted}

-- ---- appending

pub sets-append : {A : Type 0} (l : List A) (i : ℕ) (xs ys : List A) → sets l i (xs ++ ys) ≡ sets (sets l i xs) (i + length xs) ys
sets-append l i [] ys = ap (λ (k : ℕ). sets l k ys) (sym (add-zero i))
sets-append l i (x ∷ xs) ys =
    sets-append (set l i x) (suc i) xs ys
    ∙ ap (λ (k : ℕ). sets (sets (set l i x) (suc i) xs) k ys) (suc-add i (length xs) ∙ sym (add-suc i (length xs)))

pub nothing : {A : Type 0} (l : List A) (i : ℕ) → Appended l i [] l i
nothing l i = record { text = refl; past = sym (add-zero i) }

-- one append after another
pub then : {A : Type 0} {l l' l'' : List A} {i j k : ℕ} {xs ys : List A} → Appended l i xs l' j → Appended l' j ys l'' k → Appended l i (xs ++ ys) l'' k
then {A} {l} {l'} {l''} {i} {j} {k} {xs} {ys} p q =
    record {
      text = q.text ∙ ap (λ (n : ℕ). sets l' n ys) p.past ∙ ap (λ (m : List A). sets m (i + length xs) ys) p.text ∙ sym (sets-append l i xs ys);
      past = let e : length (xs ++ ys) ≡ length xs + length ys = length-append xs ys in let f : j ≡ i + length xs = p.past in let g : k ≡ j + length ys = q.past in omega arith;
    }

-- the same words, written otherwise
pub spelt : {l l' : List ℕ} {i j : ℕ} {ws vs : List ℕ} → ws ≡ vs → Appended l i vs l' j → Appended l i ws l' j
spelt e p = rw e p

-- past the end there is nothing to store
pub out_of_range : {A : Type 0} (l : List A) (i : ℕ) (b : A) → length l ≤ i → Appended l i (b ∷ []) l (i + 1)
out_of_range l i b h = record { text = sym (set_out l i b h); past = refl }

-- one item of a list more
pub one_more : {A : Type 0} (xs : List A) (i : ℕ) (x : A) {l m n : List A} {at j k : ℕ} → i < length xs → x ≡ get_or xs i x → Appended l at (take i xs) m j
    → Appended m j (x ∷ []) n k → Appended l at (take (i + 1) xs) n k
one_more xs i x {l} {m} {n} {at} {j} {k} h e p q =
    subst (λ ys. Appended l at ys n k) (sym (take_more xs i x h)) (then p (subst (λ y. Appended m j (y ∷ []) n k) e q))

-- all of a text is such a part
pub whole_part : (l : List ℕ) (at : ℕ) (ws m : List ℕ) (past : ℕ) → Appended l at (take (length ws) (drop 0 ws)) m past → Appended l at ws m past
whole_part l at ws m past p = rw (take_all (length ws) ws (omega arith)) at p

-- ---- decimal digits

one-digit : (k n : ℕ) → n < 10 → digits (suc k) n ≡ (48 + n) ∷ []
unfolding digits
one-digit k n h = rw (lt-ltb n 10 h, digits)

more-digits : (k n : ℕ) → 10 ≤ n → digits (suc k) n ≡ digits k (n / 10) ++ ((48 + n % 10) ∷ [])
unfolding digits
more-digits k n h = rw (le-ltb n 10 h, digits)

-- fuel above the number is enough
enough : (k j n : ℕ) → n < k → n < j → digits k n ≡ digits j n
enough zero j n h g = absurd (omega arith)
enough (suc k) zero n h g = absurd (omega arith)
enough (suc k) (suc j) n h g = by (ltb n 10) refl (λ w. enough k j (n / 10) (omega arith) (omega arith))
  where
    by : (b : Bool) → ltb n 10 ≡ b → (10 ≤ n → digits k (n / 10) ≡ digits j (n / 10)) → digits (suc k) n ≡ digits (suc j) n
    by true e same = one-digit k n (ltb-true n 10 e) ∙ sym (one-digit j n (ltb-true n 10 e))
    by false e same =
        let w : 10 ≤ n = ltb-false n 10 e in
        more-digits k n w ∙ ap (λ (l : List ℕ). l ++ ((48 + n % 10) ∷ [])) (same w) ∙ sym (more-digits j n w)

pub decimal-one : (n : ℕ) → n < 10 → decimal n ≡ (48 + n) ∷ []
unfolding decimal
decimal-one n h = one-digit n n h

pub decimal-more : (n : ℕ) → 10 ≤ n → decimal n ≡ decimal (n / 10) ++ ((48 + n % 10) ∷ [])
unfolding decimal
decimal-more n h =
    more-digits n n h ∙ ap (λ (l : List ℕ). l ++ ((48 + n % 10) ∷ [])) (enough n (suc (n / 10)) (n / 10) (omega arith) (omega arith))

-- a number below 10 ^ m has at most m digits
few : (k m n : ℕ) → n < 10 ^ suc m → length (digits k n) ≤ suc m
unfolding digits
few zero m n h = zero-le
few (suc k) zero n h = rw (one-digit k n h) (omega arith)
few (suc k) (suc m) n h = by (ltb n 10) refl (few k m (n / 10) ((div-lt_iff_lt-mul {k = 10} {x = n} {y = 10 ^ suc m} (lit< tt)).1 (rw (pow-suc 10 (suc m)) at h)))
  where
    by : (b : Bool) → ltb n 10 ≡ b → length (digits k (n / 10)) ≤ suc m → length (digits (suc k) n) ≤ suc (suc m)
    by true e less = rw (one-digit k n (ltb-true n 10 e)) (omega arith)
    by false e less =
        rw (more-digits k n (ltb-false n 10 e)) (omega (arith, length-append (digits k (n / 10)) ((48 + n % 10) ∷ [])))

-- a number of 64 bits has at most 20
pub decimal-few : (n : ℕ) → n < 2 ^ 64 → length (decimal n) ≤ 20
unfolding decimal
decimal-few n h = few (suc n) 19 n (omega arith)

pub first-digit : {l l' : List ℕ} {i j n : ℕ} → n < 10 → Appended l i ((48 + n) ∷ []) l' j → Appended l i (decimal n) l' j
first-digit {n = n} h p = rw (decimal-one n h) p

pub next-digit : {l l' l'' : List ℕ} {i j k n : ℕ} → 10 ≤ n → Appended l i (decimal (n / 10)) l' j → Appended l' j ((48 + n % 10) ∷ []) l'' k → Appended l i (decimal n) l'' k
next-digit {n = n} h p q = rw (decimal-more n h) (then p q)

-- ---- a line that is measured first

pub measured : {line b b' out out' : List ℕ} {m n : ℕ} → Appended b 0 line b' m → m ≤ length out → Appended out 0 line out' n
    → (n ≡ fitted_length line out) × (out' ≡ fitted line out)
measured {line} {out = out} p h q =
    let fits : leb (length line) (length out) ≡ true = le-leb (length line) (length out) (omega (arith, p.past)) in
    (rw fits (omega (arith, q.past)), rw fits q.text)

pub too_long : {line b b' out : List ℕ} {m : ℕ} → Appended b 0 line b' m → length out < m → (◌≡◌ {A = ℕ} 0 (fitted_length line out)) × (out ≡ fitted line out)
too_long {line} {out = out} p h =
    let over : leb (length line) (length out) ≡ false = lt-leb (length line) (length out) (omega (arith, p.past)) in
    (rw over, rw over)
