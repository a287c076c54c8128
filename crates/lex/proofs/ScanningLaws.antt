-- Laws of the definitions of blanks, comments, words and the neck, over plain variables: a step of the scanner by the byte at a place, a step of
-- a run and of a comparison. Assumes nothing.
use Prim.Native.Nat.{ℕ, zero, suc, ◌+◌, ◌-◌, ◌≤◌, ◌<◌}
use native.Mathlib.Numerals.{add-one}
use native.Mathlib.Omega.{arith}
use mathlib.Core.Path.{◌≡◌, refl, sym, ap, ◌∙◌}
use mathlib.Core.Bool.{Bool, true, false, cond}
use mathlib.Core.List.{List, [], ◌∷◌}
use lib.Dec.{leb, eqb}
use lib.ListN.{length, get_or, drop, length-drop, drop_of_length-le}
use lib.Seq.{drop-cons}
use borrow.Author.Tests.{le-leb, lt-leb, ne_eqb}
use Rattle.syntax.specs.Limits.{word_bytes}
use Rattle.syntax.specs.Bytes.{is_blank, is_lower, is_upper, is_digit, class_of}
use Rattle.syntax.specs.declared.Class.{Class}
use Rattle.syntax.specs.declared.Class.TheVariants.{Nothing, Blank, Percent, Lower, Upper, Digit, Colon, Single}
use Rattle.syntax.specs.declared.TokenKind.{TokenKind}
use Rattle.syntax.specs.Tokens.{Gap, outside, in_comment, Move, on, at_token, move_of, skipped, run_length, word, dash_first, no_token, neck_kind, overlong_kind, token_of_class, token_place}

-- what stands from a place on: the byte there and the rest
pub drop-next : (s : List ℕ) (i : ℕ) → i < length s → drop i s ≡ get_or s i 0 ∷ drop (i + 1) s
drop-next s i h = rw add-one (drop-cons s i 0 h)

-- Blanks and comments.
skipped-by : (g : Gap) (m : Move) (b : ℕ) (r : List ℕ) → move_of g b ≡ m
    → skipped g (b ∷ r) ≡ elim m [ on k ↦ suc (skipped k r) | at_token ↦ 0 ]
unfolding skipped
skipped-by g m b r e = ap (λ (m : Move). elim m [ on k ↦ suc (skipped k r) | at_token ↦ 0 ]) e

skipped-none : (g : Gap) → skipped g [] ≡ 0
unfolding skipped
skipped-none g = refl

by_move : (m : Move) (r : List ℕ) → ((k : Gap) → skipped k r ≤ length r)
    → elim m [ on k ↦ suc (skipped k r) | at_token ↦ 0 ] ≤ suc (length r)
by_move (on k) r h = omega (arith, h k)
by_move at_token r h = omega arith

skipped-inside : (g : Gap) (s : List ℕ) → skipped g s ≤ length s
unfolding skipped
skipped-inside g [] = omega arith
skipped-inside g (b ∷ r) = by_move (move_of g b) r (λ k. skipped-inside k r)

-- the first token from `from` on is still before a scanner that stands at a place, outside or in a comment
abbrev pub Ahead : Gap → List ℕ → ℕ → ℕ → Type 0
Ahead g s from i = token_place s from ≡ i + skipped g (drop i s)

pub ahead-first : (s : List ℕ) (from : ℕ) → Ahead outside s from from
unfolding token_place
ahead-first s from = refl

ahead-on : (g h : Gap) (s : List ℕ) (from i : ℕ) → i < length s → move_of g (get_or s i 0) ≡ on h → Ahead g s from i → Ahead h s from (i + 1)
ahead-on g h s from i lt e a =
    let q : skipped g (drop i s) ≡ suc (skipped h (drop (i + 1) s)) =
    ap (skipped g) (drop-next s i lt) ∙ skipped-by g (on h) (get_or s i 0) (drop (i + 1) s) e in
    omega arith

-- where a byte of a class takes a scanner that is outside
move_by : Class → Move
move_by Blank = on outside
move_by Percent = on in_comment
move_by Nothing = at_token
move_by Lower = at_token
move_by Upper = at_token
move_by Digit = at_token
move_by Colon = at_token
move_by (Single kind) = at_token

either_way : (t : Bool) (a b : Class) (m : Move) → move_by a ≡ m → move_by b ≡ m → move_by (cond t a b) ≡ m
either_way true a b m e f = e
either_way false a b m e f = f

gap_or_token : (t u : Bool) (c : Class) → move_by c ≡ at_token
    → cond t (on outside) (cond u (on in_comment) at_token) ≡ move_by (cond t Blank (cond u Percent c))
unfolding move_by
gap_or_token true u c e = refl
gap_or_token false true c e = refl
gap_or_token false false c e = sym e

move-by_class : (b : ℕ) → move_of outside b ≡ move_by (class_of b)
unfolding class_of move_by
move-by_class b =
    gap_or_token (is_blank b) (eqb b 37) _ (either_way (is_lower b) _ _ _ refl (either_way (is_upper b) _ _ _ refl
    (either_way (is_digit b) _ _ _ refl (either_way (eqb b 58) _ _ _ refl (either_way (eqb b 40) _ _ _ refl
    (either_way (eqb b 41) _ _ _ refl (either_way (eqb b 44) _ _ _ refl (either_way (eqb b 46) _ _ _ refl
    (either_way (eqb b 61) _ _ _ refl (either_way (eqb b 43) _ _ _ refl (either_way (eqb b 45) _ _ _ refl
    (either_way (eqb b 42) _ _ _ refl (either_way (eqb b 59) _ _ _ refl refl)))))))))))))

token_by : (c : Class) → (c ≡ Blank → ⊥) → (c ≡ Percent → ⊥) → move_by c ≡ at_token
unfolding move_by
token_by Blank n m = absurd (n refl)
token_by Percent n m = absurd (m refl)
token_by Nothing n m = refl
token_by Lower n m = refl
token_by Upper n m = refl
token_by Digit n m = refl
token_by Colon n m = refl
token_by (Single kind) n m = refl

-- a byte outside comments: a blank and the percent sign
pub ahead-blank : (s : List ℕ) (from i : ℕ) (c : Class) → i < length s → c ≡ class_of (get_or s i 0) → c ≡ Blank → Ahead outside s from i
    → Ahead outside s from (i + 1)
unfolding move_by
ahead-blank s from i c lt e f a = ahead-on outside outside s from i lt (move-by_class (get_or s i 0) ∙ ap move_by (sym e ∙ f)) a

pub ahead-percent : (s : List ℕ) (from i : ℕ) (c : Class) → i < length s → c ≡ class_of (get_or s i 0) → c ≡ Percent → Ahead outside s from i
    → Ahead in_comment s from (i + 1)
unfolding move_by
ahead-percent s from i c lt e f a = ahead-on outside in_comment s from i lt (move-by_class (get_or s i 0) ∙ ap move_by (sym e ∙ f)) a

pub ahead-feed : (s : List ℕ) (from i : ℕ) → i < length s → get_or s i 0 ≡ 10 → Ahead in_comment s from i → Ahead outside s from (i + 1)
ahead-feed s from i lt e a = ahead-on in_comment outside s from i lt (simp e) a

pub ahead-comment : (s : List ℕ) (from i : ℕ) → i < length s → (get_or s i 0 ≡ 10 → ⊥) → Ahead in_comment s from i
    → Ahead in_comment s from (i + 1)
ahead-comment s from i lt e a = ahead-on in_comment in_comment s from i lt (simp (ne_eqb _ _ e)) a

pub ahead-end : (g : Gap) (s : List ℕ) (from i : ℕ) → length s ≤ i → Ahead g s from i → i ≡ token_place s from
ahead-end g s from i le a =
    let q : skipped g (drop i s) ≡ 0 = ap (skipped g) (drop_of_length-le s le) ∙ skipped-none g in
    omega arith

pub ahead-token : (s : List ℕ) (from i : ℕ) (c : Class) → i < length s → c ≡ class_of (get_or s i 0) → (c ≡ Blank → ⊥) → (c ≡ Percent → ⊥)
    → Ahead outside s from i → i ≡ token_place s from
ahead-token s from i c lt e n1 n2 a =
    let m : move_of outside (get_or s i 0) ≡ at_token = move-by_class (get_or s i 0) ∙ (ap move_by (sym e) ∙ token_by c n1 n2) in
    let q : skipped outside (drop i s) ≡ 0 = ap (skipped outside) (drop-next s i lt) ∙ skipped-by outside at_token (get_or s i 0) (drop (i + 1) s) m in
    omega arith

pub place-from : (s : List ℕ) (p : ℕ) → p ≤ token_place s p
unfolding token_place
place-from s p = omega arith

pub place_inside : (s : List ℕ) (p : ℕ) → p ≤ length s → token_place s p ≤ length s
unfolding token_place
place_inside s p h = omega (arith, skipped-inside outside (drop p s), length-drop p s)

-- Runs.
run_by : (f : ℕ → Bool) (t : Bool) (b : ℕ) (r : List ℕ) → f b ≡ t → run_length f (b ∷ r) ≡ elim t [ true ↦ suc (run_length f r) | false ↦ 0 ]
unfolding run_length
run_by f t b r e = ap (λ (t : Bool). elim t [ true ↦ suc (run_length f r) | false ↦ 0 ]) e

run_none : (f : ℕ → Bool) → run_length f [] ≡ 0
unfolding run_length
run_none f = refl

by-test : (t : Bool) (m n : ℕ) → m ≤ n → elim t [ true ↦ suc m | false ↦ 0 ] ≤ suc n
by-test true m n h = omega arith
by-test false m n h = omega arith

pub run_inside : (f : ℕ → Bool) (s : List ℕ) → run_length f s ≤ length s
unfolding run_length
run_inside f [] = omega arith
run_inside f (b ∷ r) = by-test (f b) (run_length f r) (length r) (run_inside f r)

-- the run from `from` on goes at least to a place
abbrev pub Runs : (ℕ → Bool) → List ℕ → ℕ → ℕ → Type 0
Runs f s from i = from + run_length f (drop from s) ≡ i + run_length f (drop i s)

pub runs-stop : (f : ℕ → Bool) (s : List ℕ) (from i : ℕ) → i < length s → f (get_or s i 0) ≡ false → Runs f s from i
    → i ≡ from + run_length f (drop from s)
runs-stop f s from i lt e a =
    let q : run_length f (drop i s) ≡ 0 = ap (run_length f) (drop-next s i lt) ∙ run_by f false (get_or s i 0) (drop (i + 1) s) e in
    omega arith

pub runs_on : (f : ℕ → Bool) (s : List ℕ) (from i : ℕ) → i < length s → f (get_or s i 0) ≡ true → Runs f s from i → Runs f s from (i + 1)
runs_on f s from i lt e a =
    let q : run_length f (drop i s) ≡ suc (run_length f (drop (i + 1) s)) =
    ap (run_length f) (drop-next s i lt) ∙ run_by f true (get_or s i 0) (drop (i + 1) s) e in
    omega arith

pub runs-end : (f : ℕ → Bool) (s : List ℕ) (from i : ℕ) → length s ≤ i → i ≤ length s → Runs f s from i
    → length s ≡ from + run_length f (drop from s)
runs-end f s from i le ge a =
    let q : run_length f (drop i s) ≡ 0 = ap (run_length f) (drop_of_length-le s le) ∙ run_none f in
    omega arith

-- Tokens.
pub word_in : (kind : TokenKind) (i n e : ℕ) → e ≡ i + 1 + n → e - i ≤ word_bytes → record { kind = kind; at = i; len = e - i } ≡ word kind i (suc n)
unfolding word
word_in kind i n e p h =
    let q : e - i ≡ suc n = omega arith in
    let l : leb (suc n) word_bytes ≡ true = le-leb (suc n) word_bytes (omega arith) in
    simp (q, l)

pub word_over : (kind : TokenKind) (i n e : ℕ) → e ≡ i + 1 + n → word_bytes < e - i
    → record { kind = overlong_kind; at = i; len = e - i } ≡ word kind i (suc n)
unfolding word
word_over kind i n e p h =
    let q : e - i ≡ suc n = omega arith in
    let l : leb (suc n) word_bytes ≡ false = lt-leb (suc n) word_bytes (omega arith) in
    simp (q, l)

dash-first : (s : List ℕ) (i : ℕ) → dash_first (drop i s) ≡ eqb (get_or s i 0) 45
unfolding dash_first
dash-first [] zero = refl
dash-first [] (suc i) = refl
dash-first (b ∷ s) zero = refl
dash-first (b ∷ s) (suc i) = dash-first s i

pub dash-inside : (r : List ℕ) → dash_first r ≡ true → 1 ≤ length r
unfolding dash_first
dash-inside [] e = let z : ◌≡◌ {A = Bool} false true = e in let w : ◌≡◌ {A = ℕ} 0 1 = cc in absurd (omega arith)
dash-inside (b ∷ r) e = omega arith

pub colon-neck : (s : List ℕ) (i : ℕ) → get_or s (i + 1) 0 ≡ 45
    → record { kind = neck_kind; at = i; len = 2 } ≡ token_of_class Colon i (drop (i + 1) s)
unfolding token_of_class
colon-neck s i e = simp (dash-first, e)

pub colon-alone : (s : List ℕ) (i : ℕ) → (get_or s (i + 1) 0 ≡ 45 → ⊥)
    → record { kind = no_token; at = i; len = 1 } ≡ token_of_class Colon i (drop (i + 1) s)
unfolding token_of_class
colon-alone s i e = simp (dash-first, ne_eqb _ _ e)

pub colon-end : (s : List ℕ) (i : ℕ) → length s ≤ i + 1 → record { kind = no_token; at = i; len = 1 } ≡ token_of_class Colon i (drop (i + 1) s)
unfolding token_of_class dash_first
colon-end s i le = rw (drop_of_length-le s {i = i + 1} le) refl
