-- Laws of the words that keep the spellings of variables. Assumes nothing.
use Prim.Native.Nat.{ℕ, zero, suc, ◌+◌, ◌-◌, ◌≤◌, ◌<◌}
use native.Mathlib.Omega.{arith}
use native.Mathlib.Nat.{add-zero}
use mathlib.Core.Path.{◌≡◌, refl, sym, ap, ap₂, ◌∙◌, subst⁻¹}
use mathlib.Core.Bool.{Bool, true, false}
use mathlib.Core.List.{List, [], ◌∷◌, ◌++◌}
use lib.ListN.{length, get_or, set, drop, length-set, length-drop}
use lib.Seq.{get_or-set_same, get_or-set_other}
use lib.Dec.{eqb}
use borrow.Author.Tests.{eqb-true, eqb-false}
use Rattle.syntax.specs.Limits.{lengths, variables}
use Rattle.syntax.specs.Tokens.{spelling}
use Rattle.syntax.specs.Spans.{packed, span_at, span_length, spanned, SpanInside, names_from, met, SpansInside}

-- ---- packing

pub packed-at : (at len : ℕ) → len < lengths → span_at (packed at len) ≡ at
packed-at at len h = omega arith

pub packed-length : (at len : ℕ) → len < lengths → span_length (packed at len) ≡ len
packed-length at len h = omega arith

pub packed-inside : (s : List ℕ) (at len : ℕ) → at + len ≤ length s → SpanInside s (packed at len)
packed-inside s at len h = omega arith

pub packed-spelt : (s : List ℕ) (at len : ℕ) → len < lengths → spanned s (packed at len) ≡ spelling s at len
packed-spelt s at len h = ap₂ (spelling s) (packed-at at len h) (packed-length at len h)

-- ---- the words of the variables met

-- so many spellings
pub names-length : (s words : List ℕ) (i k : ℕ) → length (names_from s words i k) ≡ k
unfolding names_from
names-length s words i zero = refl
names-length s words i (suc k) = ap suc (names-length s words (suc i) k)

-- one more at the end
names_more : (s words : List ℕ) (i k : ℕ) → names_from s words i (suc k) ≡ names_from s words i k ++ (spanned s (get_or words (i + k) 0) ∷ [])
unfolding names_from
names_more s words i zero = ap (λ (j : ℕ). spanned s (get_or words j 0) ∷ []) (sym (add-zero i))
names_more s words i (suc k) =
    let e : suc i + k ≡ i + suc k = omega arith in
    ap (λ (l : List (List ℕ)). spanned s (get_or words i 0) ∷ l) (names_more s words (suc i) k ∙ ap (λ (j : ℕ). names_from s words (suc i) k ++ (spanned s (get_or words j 0) ∷ [])) e)

-- a word behind them changes none
names-set : (s words : List ℕ) (i k n w : ℕ) → i + k ≤ n → names_from s (set words n w) i k ≡ names_from s words i k
unfolding names_from
names-set s words i zero n w h = refl
names-set s words i (suc k) n w h = ap₂ (λ (x : ℕ) (l : List (List ℕ)). spanned s x ∷ l) (get_or-set_other words n i w 0 (λ e. omega arith)) (names-set s words (suc i) k n w (omega arith))

-- the word of a new variable
pub names-new : (s words : List ℕ) (k w : ℕ) → k < length words → names_from s (set words k w) 0 (k + 1) ≡ names_from s words 0 k ++ (spanned s w ∷ [])
names-new s words k w h =
    let one : k + 1 ≡ suc k = omega arith in
    let none : 0 + k ≡ k = omega arith in
    ap (names_from s (set words k w) 0) one
    ∙ names_more s (set words k w) 0 k
    ∙ ap₂ (λ (l : List (List ℕ)) (x : ℕ). l ++ (spanned s x ∷ [])) (names-set s words 0 k k w (omega arith)) (ap (λ (j : ℕ). get_or (set words k w) j 0) none ∙ get_or-set_same words k w 0 h)

new-inside : (s words : List ℕ) (k w : ℕ) → k < length words → SpanInside s w → SpansInside s words k → (i : ℕ) → i < k + 1 → (b : Bool) → eqb i k ≡ b → SpanInside s (get_or (set words k w) i 0)
new-inside s words k w low h f i less true e = subst⁻¹ (λ (j : ℕ). SpanInside s (get_or (set words k w) j 0)) (eqb-true i k e) (subst⁻¹ (SpanInside s) (get_or-set_same words k w 0 low) h)
new-inside s words k w low h f i less false e =
    let ne : i ≡ k → ⊥ = eqb-false i k e in
    subst⁻¹ (SpanInside s) (get_or-set_other words k i w 0 ne) (f.inside i (omega arith))

pub held_new : (s words : List ℕ) (k w : ℕ) → k < length words → SpanInside s w → SpansInside s words k → SpansInside s (set words k w) (k + 1)
held_new s words k w low h f = record { inside = λ i less. new-inside s words k w low h f i less (eqb i k) refl }

pub held_none : (s words : List ℕ) → SpansInside s words 0
held_none s words = record { inside = λ i h. absurd (omega arith) }

-- ---- the last words of a table

drop-set-before : (k n w : ℕ) (l : List ℕ) → n < k → drop k (set l n w) ≡ drop k l
drop-set-before zero n w l h = absurd (omega arith)
drop-set-before (suc k) n w [] h = refl
drop-set-before (suc k) zero w (x ∷ l) h = refl
drop-set-before (suc k) (suc n) w (x ∷ l) h = drop-set-before k n w l (omega arith)

drop-set-behind : (k i w : ℕ) (l : List ℕ) → drop k (set l (k + i) w) ≡ set (drop k l) i w
drop-set-behind zero i w l = let e : 0 + i ≡ i = omega arith in ap (λ (j : ℕ). set l j w) e
drop-set-behind (suc k) i w [] = refl
drop-set-behind (suc k) i w (x ∷ l) = let e : suc k + i ≡ suc (k + i) = omega arith in ap (λ (j : ℕ). drop (suc k) (set (x ∷ l) j w)) e ∙ drop-set-behind k i w l

-- a word before them changes none
pub met-kept : (table : List ℕ) (n w : ℕ) → n + variables < length table → met (set table n w) ≡ met table
met-kept table n w h = ap (λ (k : ℕ). drop (k - variables) (set table n w)) (length-set table n w) ∙ drop-set-before (length table - variables) n w table (omega arith)

pub met-three : (table : List ℕ) (n a b c : ℕ) → n + 3 + variables ≤ length table → met (set (set (set table n a) (n + 1) b) (n + 2) c) ≡ met table
met-three table n a b c h =
    met-kept (set (set table n a) (n + 1) b) (n + 2) c (simp length-set (omega arith))
    ∙ met-kept (set table n a) (n + 1) b (simp length-set (omega arith))
    ∙ met-kept table n a (omega arith)

-- one of them is stored
pub met-new : (table : List ℕ) (i w : ℕ) → met (set table (length table - variables + i) w) ≡ set (met table) i w
met-new table i w =
    ap (λ (k : ℕ). drop (k - variables) (set table (length table - variables + i) w)) (length-set table (length table - variables + i) w)
    ∙ drop-set-behind (length table - variables) i w table

pub met-length : (table : List ℕ) → variables ≤ length table → length (met table) ≡ variables
met-length table h = length-drop (length table - variables) table ∙ omega arith
