-- Laws of line feeds and of where lines end. Assumes nothing.
use Prim.Native.Nat.{ℕ, zero, suc, ◌+◌, ◌-◌, ◌/◌, ◌%◌, ◌≤◌, ◌<◌}
use native.Mathlib.Nat.{suc-add}
use native.Mathlib.Numerals.{add-one}
use native.Mathlib.Omega.{arith}
use mathlib.Core.Path.{◌≡◌, refl, sym, ap, ◌∙◌, subst}
use mathlib.Core.Bool.{Bool, true, false}
use mathlib.Core.List.{List, [], ◌∷◌, ◌++◌}
use lib.Dec.{eqb, ltb}
use lib.ListN.{length, drop, get_or}
use lib.Seq.{drop-cons}
use borrow.Author.Tests.{eqb-true, eqb-false, eq-eqb, ne_eqb}
use Rattle.words.specs.Buffers.{digits, decimal}
use Rattle.words.specs.Feeds.{feeds, past_lines, InLines}

-- ---- a byte

feeds-feed : (b : ℕ) (bs : List ℕ) → b ≡ 10 → feeds (b ∷ bs) ≡ suc (feeds bs)
unfolding feeds
feeds-feed b bs e = rw (feeds, eq-eqb b 10 e)

pub feeds-other : (b : ℕ) (bs : List ℕ) → (b ≡ 10 → ⊥) → feeds (b ∷ bs) ≡ feeds bs
unfolding feeds
feeds-other b bs h = rw (feeds, ne_eqb b 10 h)

past-feed : (n b : ℕ) (bs : List ℕ) → b ≡ 10 → past_lines (suc n) (b ∷ bs) ≡ suc (past_lines n bs)
unfolding past_lines
past-feed n b bs e = rw (past_lines, eq-eqb b 10 e)

past-other : (n b : ℕ) (bs : List ℕ) → (b ≡ 10 → ⊥) → past_lines (suc n) (b ∷ bs) ≡ suc (past_lines (suc n) bs)
unfolding past_lines
past-other n b bs h = rw (past_lines, ne_eqb b 10 h)

past-none : (bs : List ℕ) → past_lines 0 bs ≡ 0
unfolding past_lines
past-none [] = refl
past-none (b ∷ bs) = refl

pub past-within : (n : ℕ) (bs : List ℕ) → past_lines n bs ≤ length bs
unfolding past_lines
past-within n [] = omega arith
past-within zero (b ∷ bs) = omega arith
past-within (suc n) (b ∷ bs) = by (eqb b 10) refl (past-within n bs) (past-within (suc n) bs)
  where
    by : (t : Bool) → eqb b 10 ≡ t → past_lines n bs ≤ length bs → past_lines (suc n) bs ≤ length bs → past_lines (suc n) (b ∷ bs) ≤ suc (length bs)
    by true e h k = omega (arith, past-feed n b bs (eqb-true b 10 e))
    by false e h k = omega (arith, past-other n b bs (eqb-false b 10 e))

-- ---- the walk over a text, from a position on, with so many lines left

drop_past : (s : List ℕ) (i : ℕ) → length s ≤ i → drop i s ≡ []
drop_past [] zero h = refl
drop_past [] (suc i) h = refl
drop_past (b ∷ s) zero h = absurd (omega arith)
drop_past (b ∷ s) (suc i) h = drop_past s i (omega arith)

-- no line is left
pub walk_none : (s : List ℕ) (i n : ℕ) → n ≡ 0 → i + past_lines n (drop i s) ≡ i
walk_none s i n e = rw e (omega (arith, past-none (drop i s)))

-- the text is at its end
pub walk_end : (s : List ℕ) (i n : ℕ) → length s ≤ i → i + past_lines n (drop i s) ≡ i
unfolding past_lines
walk_end s i n h = rw (drop_past s i h) (omega arith)

-- one byte further: a line feed, and another byte
pub walk-feed : (s : List ℕ) (i n : ℕ) → i < length s → (n ≡ 0 → ⊥) → get_or s i 0 ≡ 10
    → i + past_lines n (drop i s) ≡ i + 1 + past_lines (n - 1) (drop (i + 1) s)
walk-feed s i zero h k e = absurd (k refl)
walk-feed s i (suc n) h k e =
    let less : suc n - 1 ≡ n = omega arith in
    rw (add-one, drop-cons s i 0 h, less) (omega (arith, past-feed n (get_or s i 0) (drop (suc i) s) e))

pub walk-other : (s : List ℕ) (i n : ℕ) → i < length s → (n ≡ 0 → ⊥) → (get_or s i 0 ≡ 10 → ⊥)
    → i + past_lines n (drop i s) ≡ i + 1 + past_lines n (drop (i + 1) s)
walk-other s i zero h k e = absurd (k refl)
walk-other s i (suc n) h k e = rw (add-one, drop-cons s i 0 h) (omega (arith, past-other n (get_or s i 0) (drop (suc i) s) e))

-- ---- texts of whole lines

pub no_lines : InLines 0 []
unfolding feeds past_lines
no_lines = record { feeds_are = refl; ends = refl }

-- an empty line, before others
pub feed-line : {n : ℕ} {bs : List ℕ} → InLines n bs → InLines (suc n) (10 ∷ bs)
feed-line {n} {bs} h =
    record { feeds_are = feeds-feed 10 bs refl ∙ ap suc h.feeds_are; ends = past-feed n 10 bs refl ∙ ap suc h.ends }

-- a byte more of the first line
pub byte-line : {n b : ℕ} {bs : List ℕ} → (b ≡ 10 → ⊥) → InLines (suc n) bs → InLines (suc n) (b ∷ bs)
byte-line {n} {b} {bs} k h =
    record { feeds_are = feeds-other b bs k ∙ h.feeds_are; ends = past-other n b bs k ∙ ap suc h.ends }

-- the two ways in which such a text begins
some-line : {n b : ℕ} {bs : List ℕ} → InLines n (b ∷ bs) → n ≡ 0 → ⊥
some-line {n} {b} {bs} h e =
    let none-past : past_lines n (b ∷ bs) ≡ 0 = ap (λ (k : ℕ). past_lines k (b ∷ bs)) e ∙ past-none (b ∷ bs) in
    omega (arith, h.ends)

after-feed : {n b : ℕ} {bs : List ℕ} → b ≡ 10 → InLines (suc n) (b ∷ bs) → InLines n bs
after-feed {n} {b} {bs} e h =
    record { feeds_are = omega (arith, h.feeds_are, feeds-feed b bs e); ends = omega (arith, h.ends, past-feed n b bs e) }

after-byte : {n b : ℕ} {bs : List ℕ} → (b ≡ 10 → ⊥) → InLines (suc n) (b ∷ bs) → InLines (suc n) bs
after-byte {n} {b} {bs} k h =
    record { feeds_are = omega (arith, h.feeds_are, feeds-other b bs k); ends = omega (arith, h.ends, past-other n b bs k) }

no_bytes : {n : ℕ} → InLines n [] → n ≡ 0
unfolding feeds
no_bytes h = sym h.feeds_are

-- lines before others
pub lines-append : (xs ys : List ℕ) (m n : ℕ) → InLines m xs → InLines n ys → InLines (m + n) (xs ++ ys)
lines-append [] ys m n h k = subst (λ (z : ℕ). InLines z ys) (let e : n ≡ m + n = omega (arith, no_bytes h) in e) k
lines-append (b ∷ xs) ys zero n h k = absurd (some-line h refl)
lines-append (b ∷ xs) ys (suc m) n h k =
    by (eqb b 10) refl (λ h1. lines-append xs ys m n h1 k) (λ h1. lines-append xs ys (suc m) n h1 k)
  where
    by : (t : Bool) → eqb b 10 ≡ t → (InLines m xs → InLines (m + n) (xs ++ ys)) → (InLines (suc m) xs → InLines (suc m + n) (xs ++ ys))
        → InLines (suc m + n) (b ∷ (xs ++ ys))
    by true e f g =
        let one : b ≡ 10 = eqb-true b 10 e in
        rw (one, suc-add) (feed-line (f (after-feed one h)))
    by false e f g =
        let other : b ≡ 10 → ⊥ = eqb-false b 10 e in
        rw suc-add (byte-line other (rw suc-add at (g (after-byte other h))))

-- where they end, whatever is behind them
pub lines_end : (xs rest : List ℕ) (n : ℕ) → InLines n xs → past_lines n (xs ++ rest) ≡ length xs
lines_end [] rest n h = ap (λ (k : ℕ). past_lines k rest) (no_bytes h) ∙ past-none rest
lines_end (b ∷ xs) rest zero h = absurd (some-line h refl)
lines_end (b ∷ xs) rest (suc n) h = by (eqb b 10) refl (λ h1. lines_end xs rest n h1) (λ h1. lines_end xs rest (suc n) h1)
  where
    by : (t : Bool) → eqb b 10 ≡ t → (InLines n xs → past_lines n (xs ++ rest) ≡ length xs)
        → (InLines (suc n) xs → past_lines (suc n) (xs ++ rest) ≡ length xs) → past_lines (suc n) (b ∷ (xs ++ rest)) ≡ suc (length xs)
    by true e f g = let one : b ≡ 10 = eqb-true b 10 e in past-feed n b (xs ++ rest) one ∙ ap suc (f (after-feed one h))
    by false e f g =
        let other : b ≡ 10 → ⊥ = eqb-false b 10 e in
        past-other n b (xs ++ rest) other ∙ ap suc (g (after-byte other h))

-- ---- bytes without a line feed

-- of a list and of its parts
pub feedless-first : (b : ℕ) (bs : List ℕ) → feeds (b ∷ bs) ≡ 0 → b ≡ 10 → ⊥
feedless-first b bs h e = omega (arith, h, feeds-feed b bs e)

pub feedless-rest : (b : ℕ) (bs : List ℕ) → feeds (b ∷ bs) ≡ 0 → feeds bs ≡ 0
feedless-rest b bs h = sym (feeds-other b bs (feedless-first b bs h)) ∙ h

pub feedless-cons : (b : ℕ) (bs : List ℕ) → (b ≡ 10 → ⊥) → feeds bs ≡ 0 → feeds (b ∷ bs) ≡ 0
feedless-cons b bs k h = feeds-other b bs k ∙ h

feedless-append : (xs ys : List ℕ) → feeds xs ≡ 0 → feeds ys ≡ 0 → feeds (xs ++ ys) ≡ 0
feedless-append [] ys h k = k
feedless-append (b ∷ xs) ys h k = feedless-cons b (xs ++ ys) (feedless-first b xs h) (feedless-append xs ys (feedless-rest b xs h) k)

-- before a line they are of that line
pub feedless-line : (xs ys : List ℕ) (n : ℕ) → feeds xs ≡ 0 → InLines (suc n) ys → InLines (suc n) (xs ++ ys)
feedless-line [] ys n h k = k
feedless-line (b ∷ xs) ys n h k = byte-line (feedless-first b xs h) (feedless-line xs ys n (feedless-rest b xs h) k)

-- decimal digits
feedless-digits : (k n : ℕ) → feeds (digits k n) ≡ 0
unfolding digits feeds
feedless-digits zero n = refl
feedless-digits (suc k) n = by (ltb n 10) (feedless-digits k (n / 10))
  where
    by : (t : Bool) → feeds (digits k (n / 10)) ≡ 0
        → feeds (elim t as (λ _. List ℕ) [ true ↦ (48 + n) ∷ [] | false ↦ digits k (n / 10) ++ ((48 + n % 10) ∷ []) ]) ≡ 0
    by true h = feedless-cons (48 + n) [] (λ e. omega arith) refl
    by false h = feedless-append (digits k (n / 10)) ((48 + n % 10) ∷ []) h (feedless-cons (48 + n % 10) [] (λ e. omega arith) refl)

pub feedless-decimal : (n : ℕ) → feeds (decimal n) ≡ 0
unfolding decimal
feedless-decimal n = feedless-digits (suc n) n
