-- Laws of the definitions of tokens, over plain variables: by cases of a token's first byte where the token lies, how long it is and when it is
-- the end. Assumes nothing.
use Prim.Native.Nat.{ℕ, suc, ◌+◌, ◌≤◌, ◌<◌}
use native.Mathlib.Omega.{arith}
use mathlib.Core.Path.{◌≡◌, refl, sym, ap, ◌∙◌}
use mathlib.Core.Bool.{Bool, true, false, cond}
use mathlib.Core.Logic.{◌⊎◌, inl, inr}
use mathlib.Core.List.{List, [], ◌∷◌}
use lib.Dec.{T, leb, leb→le}
use lib.ListN.{length, get_or, drop, length-drop, drop_of_length-le}
use borrow.Author.Tests.{leb-true}
use Rattle.syntax.specs.Limits.{word_bytes}
use Rattle.syntax.specs.Bytes.{class_of, in_word, in_numeral}
use Rattle.syntax.specs.Tokens.{run_length, word, dash_first, no_token, name_kind, variable_kind, numeral_kind, neck_kind, overlong_kind, end_kind, kind_place, token_of_class, token_from, token_place, token_at}
use Rattle.syntax.specs.declared.Class.{Class}
use Rattle.syntax.specs.declared.Class.TheVariants.{Nothing, Blank, Percent, Lower, Upper, Digit, Colon, Single}
use Rattle.syntax.specs.declared.Token.{Token}
use Rattle.syntax.specs.declared.TokenKind.{TokenKind}
use Rattle.lex.proofs.ScanningLaws.{drop-next, run_inside, dash-inside, place-from, place_inside}

-- the token at a place, by the class of the byte there
pub token-none : (s : List ℕ) (from i : ℕ) → i ≡ token_place s from → length s ≤ i → record { kind = end_kind; at = i; len = 0 } ≡ token_at s from
unfolding token_at token_from
token-none s from i p le = simp (← p, drop_of_length-le s le)

pub token-by : (s : List ℕ) (from i b : ℕ) (k c : Class) (t : Token) → i ≡ token_place s from → i < length s → b ≡ get_or s i 0 → k ≡ class_of b
    → k ≡ c → t ≡ token_of_class c i (drop (i + 1) s) → t ≡ token_at s from
unfolding token_at token_from
token-by s from i b k c t p lt g e f q =
    let there : token_at s from ≡ token_of_class (class_of (get_or s i 0)) i (drop (i + 1) s) =
    ap (λ (j : ℕ). token_from j (drop j s)) (sym p) ∙ ap (token_from i) (drop-next s i lt) in
    q ∙ (ap (λ (d : Class). token_of_class d i (drop (i + 1) s)) (sym f ∙ (e ∙ ap class_of g)) ∙ sym there)

-- the tokens by the class of the first byte
pub of-name : (i : ℕ) (r : List ℕ) → word name_kind i (suc (run_length in_word r)) ≡ token_of_class Lower i r
unfolding token_of_class
of-name i r = refl

pub of-variable : (i : ℕ) (r : List ℕ) → word variable_kind i (suc (run_length in_word r)) ≡ token_of_class Upper i r
unfolding token_of_class
of-variable i r = refl

pub of-numeral : (i : ℕ) (r : List ℕ) → word numeral_kind i (suc (run_length in_numeral r)) ≡ token_of_class Digit i r
unfolding token_of_class
of-numeral i r = refl

pub of-single : (kind : TokenKind) (i : ℕ) (r : List ℕ) → record { kind = kind; at = i; len = 1 } ≡ token_of_class (Single kind) i r
unfolding token_of_class
of-single kind i r = refl

pub of-none : (c : Class) (i : ℕ) (r : List ℕ) → (c ≡ Nothing) ⊎ ((c ≡ Blank) ⊎ (c ≡ Percent)) → record { kind = no_token; at = i; len = 1 } ≡ token_of_class c i r
unfolding token_of_class
of-none Nothing i r h = refl
of-none Blank i r h = refl
of-none Percent i r h = refl
of-none Lower i r (inl e) = absurd cc
of-none Lower i r (inr (inl e)) = absurd cc
of-none Lower i r (inr (inr e)) = absurd cc
of-none Upper i r (inl e) = absurd cc
of-none Upper i r (inr (inl e)) = absurd cc
of-none Upper i r (inr (inr e)) = absurd cc
of-none Digit i r (inl e) = absurd cc
of-none Digit i r (inr (inl e)) = absurd cc
of-none Digit i r (inr (inr e)) = absurd cc
of-none Colon i r (inl e) = absurd cc
of-none Colon i r (inr (inl e)) = absurd cc
of-none Colon i r (inr (inr e)) = absurd cc
of-none (Single kind) i r (inl e) = absurd cc
of-none (Single kind) i r (inr (inl e)) = absurd cc
of-none (Single kind) i r (inr (inr e)) = absurd cc

-- What holds of a token by cases of its first byte's class.
of-cases : (P : Token → Type 0) (c : Class) (i : ℕ) (r : List ℕ)
    → ((k : TokenKind) (n : ℕ) → kind_place k ≤ 3 → n ≤ length r → P (word k i (suc n)))
    → ((t : Bool) → dash_first r ≡ t → P (record { kind = cond t neck_kind no_token; at = i; len = cond t 2 1 }))
    → ((k : TokenKind) → P (record { kind = k; at = i; len = 1 })) → P (token_of_class c i r)
unfolding token_of_class
of-cases P Lower i r words colon other = words name_kind (run_length in_word r) (omega arith) (run_inside in_word r)
of-cases P Upper i r words colon other = words variable_kind (run_length in_word r) (omega arith) (run_inside in_word r)
of-cases P Digit i r words colon other = words numeral_kind (run_length in_numeral r) (omega arith) (run_inside in_numeral r)
of-cases P Colon i r words colon other = colon (dash_first r) refl
of-cases P (Single k) i r words colon other = other k
of-cases P Nothing i r words colon other = other no_token
of-cases P Blank i r words colon other = other no_token
of-cases P Percent i r words colon other = other no_token

-- A token lies at its place and inside the text.
from_at : (i : ℕ) (l : List ℕ) → (token_from i l).at ≡ i
unfolding token_from word
from_at i [] = refl
from_at i (b ∷ r) = of-cases (λ t. t.at ≡ i) (class_of b) i r (λ k n h m. refl) (λ t e. refl) (λ k. refl)

colon-inside : (i : ℕ) (r : List ℕ) (t : Bool) → dash_first r ≡ t → i + cond t 2 1 ≤ i + suc (length r)
colon-inside i r true e = omega (arith, dash-inside r e)
colon-inside i r false e = omega arith

from-inside : (i : ℕ) (l : List ℕ) → (token_from i l).at + (token_from i l).len ≤ i + length l
unfolding token_from word
from-inside i [] = omega arith
from-inside i (b ∷ r) =
    of-cases (λ t. t.at + t.len ≤ i + suc (length r)) (class_of b) i r (λ k n h m. omega arith) (colon-inside i r) (λ k. omega arith)

pub token-place : (s : List ℕ) (p : ℕ) → (token_at s p).at ≡ token_place s p
unfolding token_at
token-place s p = from_at (token_place s p) (drop (token_place s p) s)

pub token-at-from : (s : List ℕ) (p : ℕ) → p ≤ (token_at s p).at
token-at-from s p = omega (arith, token-place s p, place-from s p)

pub token-inside : (s : List ℕ) (p : ℕ) → p ≤ length s → (token_at s p).at + (token_at s p).len ≤ length s
unfolding token_at
token-inside s p h =
    omega (arith, from-inside (token_place s p) (drop (token_place s p) s), length-drop (token_place s p) s, place_inside s p h)

pub past_is : (s : List ℕ) (p : ℕ) (t : Token) → t ≡ token_at s p → t.at + t.len ≡ (token_at s p).at + (token_at s p).len
past_is s p t e = ap (λ (u : Token). u.at + u.len) e

-- A name, variable or numeral has at most word_bytes bytes.
word-short : (k : TokenKind) (n : ℕ) (t : Bool) → leb n word_bytes ≡ t → kind_place (cond t k overlong_kind) ≤ 3 → n ≤ word_bytes
word-short k n true e h = leb-true n word_bytes e
word-short k n false e h = absurd (omega arith)

colon-len : (t : Bool) → (0 < cond t 2 1) × (cond t 2 1 ≤ word_bytes)
colon-len true = omega arith
colon-len false = omega arith

from-short : (i : ℕ) (l : List ℕ) → kind_place (token_from i l).kind ≤ 3 → (token_from i l).len ≤ word_bytes
unfolding token_from word
from-short i [] h = omega arith
from-short i (b ∷ r) h =
    of-cases (λ t. kind_place t.kind ≤ 3 → t.len ≤ word_bytes) (class_of b) i r (λ k n h m. word-short k (suc n) (leb (suc n) word_bytes) refl)
    (λ t e h. (colon-len t).1)
    (λ k h. omega arith)
    h

pub token-word-short : (s : List ℕ) (p : ℕ) (k : TokenKind) → (token_at s p).kind ≡ k → T (leb (kind_place k) 3) → (token_at s p).len ≤ word_bytes
unfolding token_at
token-word-short s p k e h =
    from-short (token_place s p) (drop (token_place s p) s) (omega (arith, ap kind_place e, leb→le (kind_place k) 3 h))

-- Every token but the end has a byte.
from_some : (i : ℕ) (l : List ℕ) → ((token_from i l).kind ≡ end_kind → ⊥) → 0 < (token_from i l).len
unfolding token_from word
from_some i [] h = absurd (h refl)
from_some i (b ∷ r) h = of-cases (λ t. 0 < t.len) (class_of b) i r (λ k n h m. omega arith) (λ t e. (colon-len t).0) (λ k. omega arith)

pub token-some : (s : List ℕ) (p : ℕ) → ((token_at s p).kind ≡ end_kind → ⊥) → 0 < (token_at s p).len
unfolding token_at
token-some s p h = from_some (token_place s p) (drop (token_place s p) s) h
