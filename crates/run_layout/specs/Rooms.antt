-- What is asked of the tables of a run at first.
use Rattle.std.specs.Prelude.{ℕ, ◌<◌, ◌≤◌, ◌≡◌, List, length, get_or, slice_index}
use Rattle.run_layout.specs.Regions.{cells, store_words, nodes_words, code_words}

-- Words that are all zero, so many.
pub record Zeros (k : ℕ) (words : List ℕ) : Type 0 where
  pub long : k ≡ length words
  pub zero_words : (i : ℕ) → get_or words i 0 ≡ 0

-- The first words, one for each cell, are 0: in a state no cell is bound, and in scratch words none is marked. The words behind them may hold anything.
pub record Clean (words : List ℕ) : Type 0 where
  pub long : store_words ≤ length words
  pub zero : (y : ℕ) → y < cells → slice_index words y ≡ 0

-- Room for the nodes, the symbols and the code of any sheet and goal. The words may hold anything.
pub record ProgramRoom (nodes symbols code : List ℕ) : Type 0 where
  pub nodes_long : nodes_words ≡ length nodes
  pub symbols_long : nodes_words ≡ length symbols
  pub code_long : code_words ≡ length code
