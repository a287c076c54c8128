-- What the tables of an answer mean: numbers of unbound variables, the stack of a walk, and the words of the goal's variables.
use Rattle.std.specs.Prelude.{ℕ, zero, suc, max, ◌+◌, ◌*◌, ◌/◌, ◌%◌, ◌<◌, ◌≤◌, ◌≡◌, Bool, true, false, List, eqb, length, get_or}
use Rattle.std.proofs.Math.Option.{none, some}
use Rattle.syntax.specs.Limits.{variables}
use Rattle.syntax.specs.Spans.{SpanInside}
use Rattle.machine.specs.Substitution.{Variable, RTerm, RTerms, var, app, rnil, rcons, Binding, resolve}
use Rattle.machine.specs.Answers.{Piece, spelt_args, spelt_more, place_of}
use Rattle.run_layout.specs.Regions.{copies, cells, store_words, deepest, open_size}
use Rattle.run_layout.specs.Nodes.{Symbol, Row, terms_at}
use Rattle.run_layout.specs.State.{variable_of}

-- ---- numbers of unbound variables

-- the number of a variable among those met, 0 where it is not among them
unfoldable pub number_among : Variable → List Variable → ℕ
number_among v met = elim (place_of v 1 met) [ none ↦ 0 | some n ↦ n ]

-- The table has a word for each cell, its mark in the search for a cycle; then the cells that have a number are listed, in the order of their numbers, and
-- then counted.
abbrev pub number_list : ℕ
number_list = cells

abbrev pub count_word : ℕ
count_word = store_words

-- the cell that has the number j + 1
abbrev pub numbered_cell : List ℕ → ℕ → ℕ
numbered_cell numbers j = get_or numbers (number_list + j) 0

-- The table numbers the variables met: so many cells are listed, and they are exactly those that have a number.
pub record Numbers (numbers : List ℕ) (met : List Variable) : Type 0 where
  pub long : count_word < length numbers
  pub counted : get_or numbers count_word 0 ≡ length met
  pub number : (x : ℕ) → x < cells → get_or numbers x 0 ≡ number_among (variable_of x) met
  pub cell : (j : ℕ) → j < length met → numbered_cell numbers j < cells
  pub listed : (j : ℕ) → j < length met → get_or numbers (numbered_cell numbers j) 0 ≡ suc j
  pub only : (x : ℕ) → x < cells → (get_or numbers x 0 ≡ 0 → ⊥) → (j : ℕ) × (j < length met) × (numbered_cell numbers j ≡ x)

-- ---- the stack

-- a list of terms with the bindings put in
unfoldable pub resolved_all : List Binding → RTerms → RTerms
resolved_all b rnil = rnil
resolved_all b (rcons t ts) = rcons (resolve b t) (resolved_all b ts)

-- how many brackets are open at once in a term, and in a bracketed list of terms
unfoldable mutual
  pub depth : RTerm → ℕ
  depth (var v) = 0
  depth (app f ts) = depth_all ts

  pub depth_all : RTerms → ℕ
  depth_all rnil = 0
  depth_all (rcons t ts) = max (suc (depth t)) (depth_all ts)

-- the rest of a list of arguments: all of it with its open bracket, or what is behind the first ones
abbrev pub spelt_row : Bool → RTerms → List Piece → List Piece
spelt_row false ts rest = spelt_args ts rest
spelt_row true ts rest = spelt_more ts rest

-- The two words of a row. The first gives the place of the next argument and whether some before it are spelt; the second the place behind the
-- last argument, and the copy.
abbrev pub row_word : List ℕ → ℕ → ℕ
row_word stack h = get_or stack (h * open_size) 0

abbrev pub end_word : List ℕ → ℕ → ℕ
end_word stack h = get_or stack (h * open_size + 1) 0

abbrev pub new_row : ℕ → ℕ
new_row place = place * 2

abbrev pub moved_row : ℕ → ℕ
moved_row place = place * 2 + 1

abbrev pub row_place : ℕ → ℕ
row_place v = v / 2

abbrev pub row_more : ℕ → Bool
row_more v = eqb (v % 2) 1

abbrev pub span_word : ℕ → ℕ → ℕ
span_word last copy = last * copies + copy

abbrev pub row_last : ℕ → ℕ
row_last w = w / copies

abbrev pub row_copy : ℕ → ℕ
row_copy w = w % copies

abbrev pub row_terms : List Symbol → List ℕ → ℕ → ℕ → RTerms
row_terms ss nodes v w = terms_at ss nodes (row_place v) (row_last w) (row_copy w)

-- what the first h rows have left to spell, and then the rest
unfoldable pub left_to_spell : List Symbol → List ℕ → List Binding → List ℕ → ℕ → List Piece → List Piece
left_to_spell ss nodes b stack zero rest = rest
left_to_spell ss nodes b stack (suc h) rest =
    spelt_row (row_more (row_word stack h)) (resolved_all b (row_terms ss nodes (row_word stack h) (end_word stack h))) (left_to_spell ss nodes b stack h rest)

-- A row at height i: some arguments of a node, which with the rows below open at most as many brackets at once as a value can.
pub record RowPending (ss : List Symbol) (nodes : List ℕ) (b : List Binding) (i v w : ℕ) : Type 0 where
  pub row : Row ss nodes (row_place v) (row_last w)
  pub opened : row_more v ≡ false → row_place v < row_last w
  pub shallow : depth_all (resolved_all b (row_terms ss nodes v w)) + i ≤ deepest

pub record Rows (ss : List Symbol) (nodes : List ℕ) (b : List Binding) (stack : List ℕ) (h : ℕ) : Type 0 where
  pub high : h * open_size ≤ length stack
  pub each : (i : ℕ) → i < h → RowPending ss nodes b i (row_word stack i) (end_word stack i)

-- ---- the goal's variables

-- the words of the goal's variables give parts of its text
pub record Named (goal names : List ℕ) (count : ℕ) : Type 0 where
  pub listed : count ≤ length names
  pub few : count ≤ variables
  pub inside : (i : ℕ) → i < count → SpanInside goal (get_or names i 0)
