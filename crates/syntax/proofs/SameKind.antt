-- The kinds of token are told apart by their places in the list of them. Assumes nothing.
use Prim.Native.Nat.{ℕ}
use mathlib.Core.Path.{◌≡◌, refl, ap, sym, ◌∙◌}
use mathlib.Core.Bool.{true, false, cond}
use lib.Dec.{eqb}
use borrow.Author.Tests.{eq-eqb, ne_eqb, eqb-true, eqb-false}
use Rattle.syntax.specs.Tokens.{kind_place, same_kind}
use Rattle.syntax.specs.declared.TokenKind.{TokenKind}
use Rattle.syntax.specs.declared.TokenKind.TheVariants.{NoToken, Name, Variable, Numeral, Neck, Open, Close, Comma, Stop, Equals, Plus, Minus, Star, Semicolon, Overlong, End}

-- the kind at a place
kind_at : ℕ → TokenKind
kind_at n =
    cond (eqb n 0) NoToken
    (cond (eqb n 1) Name
    (cond (eqb n 2) Variable
    (cond (eqb n 3) Numeral
    (cond (eqb n 4) Neck
    (cond (eqb n 5) Open
    (cond (eqb n 6) Close
    (cond (eqb n 7) Comma
    (cond (eqb n 8) Stop
    (cond (eqb n 9) Equals
    (cond (eqb n 10) Plus
    (cond (eqb n 11) Minus
    (cond (eqb n 12) Star
    (cond (eqb n 13) Semicolon
    (cond (eqb n 14) Overlong End))))))))))))))

at_place : (k : TokenKind) → kind_at (kind_place k) ≡ k
unfolding kind_at
at_place NoToken = refl
at_place Name = refl
at_place Variable = refl
at_place Numeral = refl
at_place Neck = refl
at_place Open = refl
at_place Close = refl
at_place Comma = refl
at_place Stop = refl
at_place Equals = refl
at_place Plus = refl
at_place Minus = refl
at_place Star = refl
at_place Semicolon = refl
at_place Overlong = refl
at_place End = refl

pub kind-true : (a b : TokenKind) → same_kind a b ≡ true → a ≡ b
kind-true a b e = sym (at_place a) ∙ ap kind_at (eqb-true (kind_place a) (kind_place b) e) ∙ at_place b

pub eq-kind : (a b : TokenKind) → a ≡ b → same_kind a b ≡ true
eq-kind a b e = eq-eqb (kind_place a) (kind_place b) (ap kind_place e)

pub kind-false : (a b : TokenKind) → same_kind a b ≡ false → a ≡ b → ⊥
kind-false a b e f = eqb-false (kind_place a) (kind_place b) e (ap kind_place f)

pub ne_kind : (a b : TokenKind) → (a ≡ b → ⊥) → same_kind a b ≡ false
ne_kind a b n = ne_eqb (kind_place a) (kind_place b) (λ e. n (sym (at_place a) ∙ ap kind_at e ∙ at_place b))
