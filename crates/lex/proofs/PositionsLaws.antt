-- Laws of the tokens of a text, over plain variables: past the end of the text, at a position that stays, and a turn of the loop.
use Prim.Native.Nat.{ℕ, zero, suc, ◌+◌, ◌-◌, ◌≤◌, ◌<◌}
use native.Mathlib.Nat.{add-zero}
use native.Mathlib.Omega.{arith}
use mathlib.Core.Path.{◌≡◌, refl, sym, ap, ◌∙◌}
use mathlib.Core.List.{List}
use lib.ListN.{length, drop_of_length-le}
use Rattle.syntax.specs.Tokens.{end_kind, skipped, token_place, token_at}
use Rattle.syntax.specs.declared.Token.{Token}
use Rattle.lex.specs.Nth.{past_token, past_tokens, nth_token}
use Rattle.lex.proofs.TokensLaws.{token-none, token-inside}

-- past the end of a text there is only its end
place-past : (s : List ℕ) (p : ℕ) → length s < p → p ≡ token_place s p
unfolding token_place skipped
place-past s p h = rw (drop_of_length-le s {i = p} (omega arith)) (omega arith)

pub token-past : (s : List ℕ) (p : ℕ) → length s < p → record { kind = end_kind; at = p; len = 0 } ≡ token_at s p
token-past s p h = token-none s p p (place-past s p h) (omega arith)

-- a position that one token does not move stays
stays : (s : List ℕ) (p n : ℕ) → past_token s p ≡ p → past_tokens n s p ≡ p
unfolding past_tokens
stays s p zero e = refl
stays s p (suc n) e = ap (past_tokens n s) e ∙ stays s p n e

past_end : (s : List ℕ) (p : ℕ) → length s < p → past_token s p ≡ p
unfolding past_token
past_end s p h = ap (λ (t : Token). t.at + t.len) (sym (token-past s p h)) ∙ add-zero p

pub tokens-past : (s : List ℕ) (p n : ℕ) → length s < p → p ≡ past_tokens n s p
tokens-past s p n h = sym (stays s p n (past_end s p h))

-- Turns of the loop: the tokens left from the place reached end where all end.
pub turn-first : (s : List ℕ) (p n : ℕ) → past_tokens (n - 0) s p ≡ past_tokens n s p
turn-first s p n = ap (λ (k : ℕ). past_tokens k s p) (omega arith)

pub turn : (s : List ℕ) (p n i past x : ℕ) → i < n → past ≡ (token_at s p).at + (token_at s p).len
    → past_tokens (n - i) s p ≡ x → past_tokens (n - (i + 1)) s past ≡ x
unfolding past_tokens past_token
turn s p n i past x h e f =
    let left : n - i ≡ suc (n - (i + 1)) = omega arith in
    ap (past_tokens (n - (i + 1)) s) e ∙ (ap (λ (k : ℕ). past_tokens k s p) (sym left) ∙ f)

pub turn_inside : (s : List ℕ) (p past : ℕ) → p ≤ length s → past ≡ (token_at s p).at + (token_at s p).len → past ≤ length s
turn_inside s p past h e = omega (arith, token-inside s p h)

pub turn-stays : (s : List ℕ) (p n i past x : ℕ) → past ≡ (token_at s p).at + (token_at s p).len → past ≡ p
    → past_tokens (n - i) s p ≡ x → p ≡ x
unfolding past_token
turn-stays s p n i past x e f h = sym (stays s p (n - i) (sym e ∙ f)) ∙ h

pub turn_last : (s : List ℕ) (p n i x : ℕ) → n ≤ i → past_tokens (n - i) s p ≡ x → p ≡ x
unfolding past_tokens
turn_last s p n i x h f = let left : n - i ≡ 0 = omega arith in ap (λ (k : ℕ). past_tokens k s p) (sym left) ∙ f

-- The token that a reader finds, made at the beginning and moved past n tokens.
pub nth-is : (s x y : List ℕ) (n p r : ℕ) (t : Token) → x ≡ s → p ≡ 0 → y ≡ x → r ≡ past_tokens n x p → t ≡ token_at y r → t ≡ nth_token s n
unfolding nth_token
nth-is s x y n p r t xs p0 yx rp ty =
    ty ∙ (ap (λ (z : List ℕ). token_at z r) (yx ∙ xs) ∙ ap (token_at s) (rp ∙ (ap (λ (z : List ℕ). past_tokens n z p) xs ∙ ap (past_tokens n s) p0)))
