-- Scratch words: sides and pairs of the work stack, and room for all that stands there.
use Rattle.std.specs.Prelude.{◌≡◌, ℕ, ◌+◌, ◌<◌, ◌≤◌, List, length, slice_index, slice_set}
use Rattle.run_layout.specs.Regions.{stack, pair_of, rows, side_size}
use Rattle.bindings.specs.declared.stack.Side.{Side}

-- a side's words: the root, the place reached, the copy
abbrev pub stack_side : List ℕ → ℕ → Side
stack_side words i = record { root = slice_index words i; at = slice_index words (i + 1); copy = slice_index words (i + 2) }

unfoldable pub stack_side_words : List ℕ → ℕ → Side → List ℕ
stack_side_words words i s = slice_set (slice_set (slice_set words i s.root) (i + 1) s.at) (i + 2) s.copy

-- the two sides of the pair of number k
abbrev pub left_at : List ℕ → ℕ → Side
left_at scratch k = stack_side scratch (pair_of k)

abbrev pub right_at : List ℕ → ℕ → Side
right_at scratch k = stack_side scratch (pair_of k + side_size)

unfoldable pub pair_words : List ℕ → ℕ → Side → Side → List ℕ
pair_words scratch k l r = stack_side_words (stack_side_words scratch (pair_of k) l) (pair_of k + side_size) r

-- what stands before the work stack is as it was: marks, cells entered and pending cells; and so is the length
pub record SameMarks (before after : List ℕ) : Type 0 where
  pub long : length after ≡ length before
  pub words : (j : ℕ) → j < stack → slice_index after j ≡ slice_index before j

-- Room for marks, cells entered, pending cells, pairs and the memo up to its rows; a row is taken only where it fits.
abbrev pub Roomy : List ℕ → Type 0
Roomy scratch = rows ≤ length scratch
