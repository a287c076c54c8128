-- Laws of words written one behind the other. Assumes nothing.
use Prim.Native.Nat.{ℕ, suc, ◌+◌, ◌≤◌, ◌<◌}
use native.Mathlib.Omega.{arith}
use mathlib.Core.Path.{◌≡◌, refl, ap, ◌∙◌}
use mathlib.Core.List.{List, [], ◌∷◌, ◌++◌}
use lib.ListN.{length, get_or, set, length-set}
use lib.Seq.{get_or-set_same, get_or-set_other}
use Rattle.words.specs.Tables.{WordsAt}
use Rattle.load.specs.Flat.{put_all}

pub length-written : (l : List ℕ) (q : ℕ) (ws : List ℕ) → length (put_all l q ws) ≡ length l
unfolding put_all
length-written l q [] = refl
length-written l q (w ∷ ws) = length-written (set l q w) (q + 1) ws ∙ length-set l q w

pub written-nil : (l : List ℕ) (q : ℕ) → put_all l q [] ≡ l
unfolding put_all
written-nil l q = refl

-- two words and then others
pub written-two : (l : List ℕ) (q a b : ℕ) (ws : List ℕ) → put_all (set (set l q a) (q + 1) b) (q + 2) ws ≡ put_all l q (a ∷ b ∷ ws)
unfolding put_all
written-two l q a b ws = ap (λ (k : ℕ). put_all (set (set l q a) (q + 1) b) k ws) (let e : q + 2 ≡ (q + 1) + 1 = omega arith in e)

pub written-append : (l : List ℕ) (q : ℕ) (xs ys : List ℕ) → put_all l q (xs ++ ys) ≡ put_all (put_all l q xs) (q + length xs) ys
unfolding put_all
written-append l q [] ys = ap (λ (k : ℕ). put_all l k ys) (let e : q ≡ q + 0 = omega arith in e)
written-append l q (x ∷ xs) ys =
    written-append (set l q x) (q + 1) xs ys
    ∙ ap (λ (k : ℕ). put_all (put_all (set l q x) (q + 1) xs) k ys) (let e : (q + 1) + length xs ≡ q + length (x ∷ xs) = omega arith in e)

-- words before them stay
pub written-before : (l : List ℕ) (q : ℕ) (ws : List ℕ) (p : ℕ) → p < q → get_or (put_all l q ws) p 0 ≡ get_or l p 0
unfolding put_all
written-before l q [] p h = refl
written-before l q (w ∷ ws) p h = written-before (set l q w) (q + 1) ws p (omega arith) ∙ get_or-set_other l q p w 0 (λ e. let k : p ≡ q = e in omega arith)

-- they stand where they were written
pub has-written : (l : List ℕ) (q : ℕ) (ws : List ℕ) → q + length ws ≤ length l → WordsAt (put_all l q ws) q ws
unfolding put_all
has-written l q [] h = tt
has-written l q (w ∷ ws) h =
    let n : length (put_all (set l q w) (q + 1) ws) ≡ length l = length-written (set l q w) (q + 1) ws ∙ length-set l q w in
    let m : length (set l q w) ≡ length l = length-set l q w in
    let k : q + suc (length ws) ≤ length l = h in (
      omega arith,
      written-before (set l q w) (q + 1) ws q (omega arith) ∙ get_or-set_same l q w 0 (omega arith),
      has-written (set l q w) (q + 1) ws (omega arith),
    )

-- two stores keep the length
pub length_two : (l before : List ℕ) (q v d u : ℕ) → length l ≡ length before → length (set (set l q v) d u) ≡ length before
length_two l before q v d u e = length-set (set l q v) d u ∙ (length-set l q v ∙ e)
