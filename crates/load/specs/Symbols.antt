-- The symbols that the words of a table list.
use Rattle.std.specs.Prelude.{ℕ, zero, suc, ◌+◌, ◌<◌, ◌≤◌, List, [], ◌∷◌, ◌++◌, length, get_or}
use Rattle.run_layout.specs.Regions.{most_nodes}
use Rattle.run_layout.specs.Nodes.{Symbol}
use Rattle.syntax.specs.Spans.{span_length}
use Rattle.run_layout.specs.Symbols.{symbol_place}
use Rattle.run_layout.specs.SymbolNames.{text_of, symbol_name}

-- ---- symbols

-- the name that a word gives: its place, its text and its length
unfoldable pub word_name : List ℕ → List ℕ → ℕ → List ℕ
word_name sheet goal w = symbol_name sheet goal w

-- it is a part of its text
unfoldable pub SymbolInside : List ℕ → List ℕ → ℕ → Type 0
SymbolInside sheet goal w = symbol_place w + span_length w ≤ length (text_of w sheet goal)

-- Symbol k: the name of word k, and the number of arguments, behind room for as many names as there are nodes.
unfoldable pub symbol_at : List ℕ → List ℕ → List ℕ → ℕ → Symbol
symbol_at sheet goal symbols k = record { name = word_name sheet goal (get_or symbols k 0); arguments = get_or symbols (most_nodes + k) 0 }

-- the first so many
unfoldable pub symbols_of : List ℕ → List ℕ → List ℕ → ℕ → List Symbol
symbols_of sheet goal symbols zero = []
symbols_of sheet goal symbols (suc k) = symbols_of sheet goal symbols k ++ (symbol_at sheet goal symbols k ∷ [])

-- their words are in the table, and their names in the texts
pub record SymbolsListed (sheet goal symbols : List ℕ) (count : ℕ) : Type 0 where
  pub room : most_nodes + count ≤ length symbols
  pub inside : (k : ℕ) → k < count → SymbolInside sheet goal (get_or symbols k 0)
