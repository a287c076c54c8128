-- A symbol's word: where the name of a symbol is spelt.
use Rattle.std.specs.Prelude.{ℕ, ◌+◌, ◌*◌, ◌/◌, ◌%◌}
use Rattle.syntax.specs.Limits.{lengths}

-- the texts that a name can stand in: the sheet, 0, and the goal, 1
abbrev pub texts : ℕ
texts = 2

-- A symbol's word: the place of its name, the text, and its length, which is read as that of any part of a text (`span_length`).
abbrev pub symbol_word : ℕ → ℕ → ℕ → ℕ
symbol_word place text len = place * (texts * lengths) + text * lengths + len

abbrev pub symbol_place : ℕ → ℕ
symbol_place w = w / (texts * lengths)

abbrev pub symbol_text : ℕ → ℕ
symbol_text w = w / lengths % texts
