-- Short cuts through chains of variables: a list of pairs of cells whose variables mean the same.
use Rattle.std.specs.Prelude.{ℕ, ◌+◌, ◌≤◌, ◌<◌, ◌≡◌, List, length, get_or}
use Rattle.machine.specs.Substitution.{RTerm, var, Binding, resolve}
use Rattle.syntax.specs.Words.{first_name}
use Rattle.run_layout.specs.Regions.{cut_list, cut_count, cut_of, cuts_word, memo, slots, keys}
use Rattle.run_layout.specs.Halves.{half}
use Rattle.run_layout.specs.State.{cell_of, variable_of}
use Rattle.run_layout.specs.declared.terms.At.{At}

-- how many cuts there are, and from which cell to which a cut leads: the halves of its word
abbrev pub cuts_made : List ℕ → ℕ
cuts_made scratch = get_or scratch cuts_word 0

abbrev pub cut_from : List ℕ → ℕ → ℕ
cut_from scratch j = half 1 (get_or scratch (cut_of j) 0)

abbrev pub cut_to : List ℕ → ℕ → ℕ
cut_to scratch j = half 0 (get_or scratch (cut_of j) 0)

-- what a cell's variable means
abbrev pub cell_means : List Binding → ℕ → RTerm
cell_means b x = resolve b (var (variable_of x))

-- Each cut leads to a cell that means the same.
pub record Cuts (b : List Binding) (scratch : List ℕ) : Type 0 where
  pub alike : (j : ℕ) → j < cuts_made scratch → j < cut_count → cell_means b (cut_from scratch j) ≡ cell_means b (cut_to scratch j)

-- The cut of number j is that of cell x.
pub record CutFrom (scratch : List ℕ) (x j : ℕ) : Type 0 where
  pub small : j < cut_count
  pub below : j < cuts_made scratch
  pub from : cut_from scratch j ≡ x

-- Two cells mean the same, if the cuts are right.
pub record Cut (scratch : List ℕ) (x y : ℕ) : Type 0 where
  pub is : (b : List Binding) → Cuts b scratch → cell_means b x ≡ cell_means b y

-- The words beside the cuts and their slots are as they were.
pub record CutsOnly (before after : List ℕ) : Type 0 where
  pub long : length after ≡ length before
  pub low : (j : ℕ) → j < cut_list → get_or after j 0 ≡ get_or before j 0
  pub counts : (j : ℕ) → memo ≤ j → j < slots → get_or after j 0 ≡ get_or before j 0
  pub high : (j : ℕ) → keys ≤ j → get_or after j 0 ≡ get_or before j 0

-- A cut from x to y, perhaps.
pub record Cutting (before after : List ℕ) (x y : ℕ) : Type 0 where
  pub beside : CutsOnly before after
  pub cuts : (b : List Binding) → cell_means b x ≡ cell_means b y → Cuts b before → Cuts b after

-- the cell of the variable at a place
abbrev pub cell_at_place : List ℕ → At → ℕ
cell_at_place nodes a = cell_of a.copy (get_or nodes a.node 0)

-- Two variables mean the same, if the cuts are right.
pub record KnownSame (nodes scratch : List ℕ) (p q : At) : Type 0 where
  pub left : get_or nodes p.node 0 < first_name
  pub right : get_or nodes q.node 0 < first_name
  pub cut : Cut scratch (cell_at_place nodes p) (cell_at_place nodes q)
