-- The names of a run's symbols: the text in which each stands, and that all are spelt as the symbols are called.
use Rattle.std.specs.Prelude.{ℕ, ◌+◌, ◌<◌, ◌≤◌, ◌≡◌, cond, List, eqb, length, get_or}
use Rattle.syntax.specs.Tokens.{spelling}
use Rattle.run_layout.specs.Nodes.{Symbol, name_of_symbol}
use Rattle.syntax.specs.Spans.{span_length}
use Rattle.run_layout.specs.Symbols.{symbol_place, symbol_text}

abbrev pub text_of : ℕ → List ℕ → List ℕ → List ℕ
text_of w sheet goal = cond (eqb (symbol_text w) 0) sheet goal

-- the name that a symbol's word gives
abbrev pub symbol_name : List ℕ → List ℕ → ℕ → List ℕ
symbol_name sheet goal w = spelling (text_of w sheet goal) (symbol_place w) (span_length w)

unfoldable pub name_at : List ℕ → List ℕ → List ℕ → ℕ → List ℕ
name_at symbols sheet goal k = symbol_name sheet goal (get_or symbols k 0)

-- the word of a symbol gives a part of a text
pub record NamePlaced (symbols sheet goal : List ℕ) (k : ℕ) : Type 0 where
  pub listed : k < length symbols
  pub inside : symbol_place (get_or symbols k 0) + span_length (get_or symbols k 0) ≤ length (text_of (get_or symbols k 0) sheet goal)

-- every symbol's name is spelt where its word says
pub record SymbolsSpelt (ss : List Symbol) (symbols sheet goal : List ℕ) : Type 0 where
  pub placed : (k : ℕ) → k < length ss → NamePlaced symbols sheet goal k
  pub name : (k : ℕ) → k < length ss → name_at symbols sheet goal k ≡ name_of_symbol ss k
