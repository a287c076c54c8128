-- Laws of the definitions that the functions over a cursor cite. Assumes nothing.
use Prim.Native.Nat.{ℕ, ◌+◌, ◌≤◌}
use mathlib.Core.Path.{◌≡◌, sym, ap₂, ◌∙◌}
use mathlib.Core.Bool.{Bool, false}
use mathlib.Core.List.{List}
use lib.ListN.{length, take, drop}
use Rattle.syntax.specs.Terms.{same_bytes, same_name}
use Rattle.syntax.specs.Tokens.{spelling}
use Rattle.syntax.specs.Spans.{span_at, span_length, spanned, SpanInside}
use Rattle.syntax.specs.declared.Token.{Token}
use Rattle.words.proofs.TextsLaws.{same_length, length-spelling}

-- ---- the same bytes

-- the same part of a text, by the test of the lengths
pub span_same : (s : List ℕ) (t : Token) (w a m : ℕ) (r : Bool) → a ≡ span_at w → m ≡ span_length w → m ≡ t.len → r ≡ same_bytes (take t.len (drop a s)) (take t.len (drop t.at s)) → r ≡ same_name (spanned s w) (spelling s t.at t.len)
span_same s t w a m r ea em e h = h ∙ ap₂ (λ (i n : ℕ). same_bytes (take n (drop i s)) (take t.len (drop t.at s))) ea (sym e ∙ em)

pub span-other : (s : List ℕ) (t : Token) (w m : ℕ) → t.at + t.len ≤ length s → SpanInside s w → m ≡ span_length w → (m ≡ t.len → ⊥) → false ≡ same_name (spanned s w) (spelling s t.at t.len)
span-other s t w m h inside em n =
    sym (same_length (spanned s w) (spelling s t.at t.len) (λ e. n (em ∙ sym (length-spelling s (span_at w) (span_length w) inside) ∙ e ∙ length-spelling s t.at t.len h)))
