-- What a token's kind says of what it begins. Assumes nothing.
use mathlib.Core.Path.{◌≡◌, refl, sym, ap}
use mathlib.Core.Bool.{Bool, true, false, not}
use denote.Enum.Bare.{sameb, same_true, same_false}
use borrow.Author.Rules.{rules}
use Rattle.syntax.specs.contracts.TokenKind.{the_type}
use Rattle.syntax.proofs.SameKind.{eq-kind, ne_kind}
use Rattle.syntax.specs.declared.TokenKind.{TokenKind}
use Rattle.syntax.specs.Tokens.{name_kind, variable_kind, numeral_kind, comma_kind}
use Rattle.syntax.specs.Reading.{a_variable, a_numeral, a_name, nothing, start_of, more, last, neither, after_of}

pub start-variable : (k : TokenKind) → k ≡ variable_kind → start_of k ≡ a_variable
start-variable k e = ap (λ (x : TokenKind). start_of x) e

pub start-numeral : (k : TokenKind) → k ≡ numeral_kind → start_of k ≡ a_numeral
start-numeral k e = ap (λ (x : TokenKind). start_of x) e

pub start-name : (k : TokenKind) → k ≡ name_kind → start_of k ≡ a_name
start-name k e = ap (λ (x : TokenKind). start_of x) e

pub start-nothing : (k : TokenKind) → (k ≡ variable_kind → ⊥) → (k ≡ numeral_kind → ⊥) → (k ≡ name_kind → ⊥) → start_of k ≡ nothing
start-nothing k f g h = simp (ne_kind k variable_kind f, ne_kind k numeral_kind g, ne_kind k name_kind h)

module _ (stop : TokenKind) (k : TokenKind) where
  pub after_more : k ≡ comma_kind → after_of stop k ≡ more
  after_more e = simp (eq-kind k comma_kind e)

  pub after_last : (k ≡ comma_kind → ⊥) → k ≡ stop → after_of stop k ≡ last
  after_last f e = simp (ne_kind k comma_kind f, eq-kind k stop e)

  pub after-neither : (k ≡ comma_kind → ⊥) → (k ≡ stop → ⊥) → after_of stop k ≡ neither
  after-neither f e = simp (ne_kind k comma_kind f, ne_kind k stop e)

-- ---- two kinds compared by `==` and `!=`

not-true : (b : Bool) → true ≡ not b → false ≡ b
not-true true e = sym e
not-true false e = refl

not-false : (b : Bool) → false ≡ not b → true ≡ b
not-false true e = refl
not-false false e = sym e

pub kind-eq : {k j : TokenKind} → true ≡ sameb the_type k j → k ≡ j
kind-eq {k} {j} e = same_true the_type (search rules) k j (sym e)

pub kind-not_eq : {k j : TokenKind} → false ≡ sameb the_type k j → k ≡ j → ⊥
kind-not_eq {k} {j} e = same_false the_type k j (sym e)

pub kind-ne : {k j : TokenKind} → true ≡ not (sameb the_type k j) → k ≡ j → ⊥
kind-ne {k} {j} e = kind-not_eq (not-true (sameb the_type k j) e)

pub kind-not_ne : {k j : TokenKind} → false ≡ not (sameb the_type k j) → k ≡ j
kind-not_ne {k} {j} e = kind-eq (not-false (sameb the_type k j) e)
