-- A token of a text: the first one from some place of it on.
use Prim.Native.Nat.{ℕ, ◌+◌, ◌≤◌}
use native.Mathlib.Omega.{arith}
use mathlib.Core.Path.{◌≡◌, refl, sym, ap, subst⁻¹}
use mathlib.Core.List.{List}
use lib.Dec.{le→leb}
use lib.ListN.{length}
use Rattle.syntax.specs.Limits.{word_bytes}
use Rattle.syntax.specs.Tokens.{kind_place, token_at, numeral_kind}
use Rattle.syntax.specs.declared.Token.{Token}
use Rattle.lex.proofs.TokensLaws.{token-inside, token-word-short}

pub record Placed (s : List ℕ) (t : Token) : Type 0 where
  pub from : ℕ
  pub inside : from ≤ length s
  pub found : t ≡ token_at s from

pub placed_first : (s : List ℕ) → Placed s (token_at s 0)
placed_first s = record { from = 0; inside = omega arith; found = refl }

pub placed-ends : {s : List ℕ} {t : Token} → Placed s t → t.at + t.len ≤ length s
placed-ends {s} {t} p = subst⁻¹ (λ (u : Token). u.at + u.len ≤ length s) p.found (token-inside s p.from p.inside)

pub placed-next : {s : List ℕ} {t : Token} → Placed s t → Placed s (token_at s (t.at + t.len))
placed-next {s} {t} p = record { from = t.at + t.len; inside = placed-ends p; found = refl }

-- a name, a variable or a numeral
pub placed-short : {s : List ℕ} {t : Token} → Placed s t → kind_place t.kind ≤ kind_place numeral_kind → t.len ≤ word_bytes
placed-short {s} {t} p l =
    let short : (token_at s p.from).len ≤ word_bytes =
    token-word-short s p.from t.kind (sym (ap (λ (u : Token). u.kind) p.found)) (le→leb (kind_place t.kind) 3 l) in
    omega (arith, ap (λ (u : Token). u.len) p.found)
