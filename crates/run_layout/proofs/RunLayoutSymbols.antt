-- Laws of a symbol's word: what was put in comes out again. Assumes nothing.
use Prim.Native.Nat.{ℕ, ◌<◌}
use native.Mathlib.Omega.{arith}
use mathlib.Core.Path.{◌≡◌}
use Rattle.syntax.specs.Limits.{lengths}
use Rattle.syntax.specs.Spans.{span_length}
use Rattle.run_layout.specs.Symbols.{texts, symbol_word, symbol_place, symbol_text}

module _ (place text len : ℕ) (short : len < lengths) where
  pub word-length : span_length (symbol_word place text len) ≡ len
  word-length = omega arith

  pub word-text : text < texts → symbol_text (symbol_word place text len) ≡ text
  word-text h = omega arith

  pub word-place : text < texts → symbol_place (symbol_word place text len) ≡ place
  word-place h = omega arith
