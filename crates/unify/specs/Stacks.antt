-- The work stack: pairs of rows, the first pair at the bottom. What its words mean, and the invariant that bounds its height.
use Rattle.std.specs.Prelude.{ℕ, zero, suc, ◌+◌, ◌-◌, ◌*◌, ◌≤◌, ◌<◌, ◌≡◌, List, [], ◌++◌, get_or}
use Rattle.machine.specs.Substitution.{RTerm, RTerms, var, app, rnil, Binding, resolve}
use Rattle.run_layout.specs.Regions.{copies, cells, big_pairs, loaded_node}
use Rattle.run_layout.specs.Nodes.{Symbol, Node, Row, term_at, terms_at, followed, count}
use Rattle.run_layout.specs.State.{variable_of}
use Rattle.run_layout.specs.declared.terms.At.{At}
use Rattle.bindings.specs.declared.stack.Side.{Side}
use Rattle.unify.specs.Rows.{nodes_of, rows_size}

-- ---- rows

-- a term as a row of its own, and the row of its arguments
abbrev pub only_row : At → Side
only_row a = record { root = a.node; at = a.node; copy = a.copy }

abbrev pub inner_row : At → Side
inner_row a = record { root = a.node; at = a.node + loaded_node; copy = a.copy }

abbrev pub end_of : List ℕ → Side → ℕ
end_of nodes s = s.root + get_or nodes (s.root + 1) 0

-- the term that a side's row is part of, and what is left of the row
abbrev pub whole_of : List Symbol → List ℕ → Side → RTerm
whole_of ss nodes s = term_at ss nodes s.root s.copy

abbrev pub row_of : List Symbol → List ℕ → Side → RTerms
row_of ss nodes s = terms_at ss nodes s.at (end_of nodes s) s.copy

-- the rows of the first h sides, the last of them first
unfoldable pub rows_of : List Symbol → List ℕ → (ℕ → Side) → ℕ → RTerms
rows_of ss nodes s zero = rnil
rows_of ss nodes s (suc h) = followed (row_of ss nodes (s h)) (rows_of ss nodes s h)

-- ---- the invariant

-- One side of the stack, under bindings b and whatever newer ones: what is left of a row is smaller than its whole, and from the second pair on
-- each whole is smaller than the one below it.
pub record StackSide (ss : List Symbol) (nodes : List ℕ) (b : List Binding) (top : ℕ) (s : ℕ → Side) (h : ℕ) : Type 0 where
  pub node : (k : ℕ) → k < h → Node ss nodes (s k).root
  pub copy : (k : ℕ) → k < h → (s k).copy < copies
  pub below : (k : ℕ) → k < h → (s k).copy ≤ top
  pub row : (k : ℕ) → k < h → Row ss nodes (s k).at (end_of nodes (s k))
  pub small : (k : ℕ) → 1 ≤ k → k < h → (newer : List Binding) → rows_size (newer ++ b) (row_of ss nodes (s k))
      < nodes_of (resolve (newer ++ b) (whole_of ss nodes (s k)))
  pub down : (k : ℕ) → 1 ≤ k → k + 1 < h → (newer : List Binding) → nodes_of (resolve (newer ++ b) (whole_of ss nodes (s (k + 1))))
      < nodes_of (resolve (newer ++ b) (whole_of ss nodes (s k)))

-- A pair of the higher stack was opened by way of a bound cell: below 16,384 one that stands for the left whole, else one for the right.
pub record OpenedByCell (b : List Binding) (v : ℕ) (left right : RTerm) : Type 0 where
  pub small : v < 2 * cells
  pub left_is : v < cells → resolve b (var (variable_of v)) ≡ resolve b left
  pub right_is : cells ≤ v → resolve b (var (variable_of (v - cells))) ≡ resolve b right

pub record Stack (ss : List Symbol) (nodes : List ℕ) (b : List Binding) (top : ℕ) (l r : ℕ → Side) (h : ℕ) : Type 0 where
  pub left : StackSide ss nodes b top l h
  pub right : StackSide ss nodes b top r h
  pub same : (k : ℕ) → k < h → (c d : ℕ) → count (terms_at ss nodes (l k).at (end_of nodes (l k)) c) ≡ count (terms_at ss nodes (r k).at (end_of nodes (r k)) d)
  pub via : ℕ → ℕ
  pub vias : (k : ℕ) → big_pairs ≤ k → k < h → OpenedByCell b (via k) (whole_of ss nodes (l k)) (whole_of ss nodes (r k))

-- ---- what is done makes the wholes equal

-- with the bindings put in, what is left of two rows is the same
abbrev pub SameRows : List Symbol → List ℕ → List Binding → Side → Side → Type 0
SameRows ss nodes b s t = resolve b (app [] (row_of ss nodes s)) ≡ resolve b (app [] (row_of ss nodes t))

-- A term to put on both sides where no two terms stand before the rows.
abbrev pub no_term : RTerm
no_term = app [] rnil

-- Newer bindings that make two terms before the rows equal, and what is left of the rows of a pair and of each pair above it, make the wholes of that
-- pair equal.
pub record WholesEqual (ss : List Symbol) (nodes : List ℕ) (b : List Binding) (l r : ℕ → Side) (h : ℕ) (t u : RTerm) : Type 0 where
  pub wholes : (k : ℕ) → k < h → (newer : List Binding) → resolve (newer ++ b) t ≡ resolve (newer ++ b) u
      → ((j : ℕ) → k ≤ j → j < h → SameRows ss nodes (newer ++ b) (l j) (r j)) → resolve (newer ++ b) (whole_of ss nodes (l k))
      ≡ resolve (newer ++ b) (whole_of ss nodes (r k))
