-- What the words of a run's state mean: cells, the trail, and the bindings.
use Rattle.std.specs.Prelude.{ℕ, zero, suc, ◌+◌, ◌-◌, ◌*◌, ◌/◌, ◌%◌, ◌<◌, ◌≤◌, ◌≡◌, List, [], ◌∷◌, T, length, get_or, set}
use Rattle.syntax.specs.Words.{first_name}
use Rattle.machine.specs.Substitution.{Variable, RTerm, occurs, Binding, resolve}
use Rattle.run_layout.specs.Regions.{copies, copy_cells, cells, trail, places, store_words}
use Rattle.run_layout.specs.Nodes.{Symbol, Node, term_at}
use Rattle.run_layout.specs.declared.terms.At.{At}

-- ---- cells

-- the cell of a copy's variable, and the variable of a cell
abbrev pub cell_of : ℕ → ℕ → ℕ
cell_of copy number = copy * copy_cells + number

abbrev pub variable_of : ℕ → Variable
variable_of x = record { copy = x / copy_cells; number = x % copy_cells }

-- A cell's word is 0 while its variable is unbound; else it gives the place and the copy of the term that the variable is bound to.
abbrev pub word_of : ℕ → ℕ → ℕ
word_of node copy = node * copies + copy + 1

abbrev pub node_of : ℕ → ℕ
node_of w = (w - 1) / copies

abbrev pub copy_of : ℕ → ℕ
copy_of w = (w - 1) % copies

-- the run-time term of a cell's word
abbrev pub at_of : ℕ → At
at_of w = record { node = node_of w; copy = copy_of w }

abbrev pub cell_at : List ℕ → ℕ → ℕ
cell_at state x = get_or state x 0

abbrev pub trail_at : List ℕ → ℕ → ℕ
trail_at state i = get_or state (trail + i) 0

-- the term that a cell's word gives
unfoldable pub value_of : List Symbol → List ℕ → ℕ → RTerm
value_of ss nodes w = term_at ss nodes (node_of w) (copy_of w)

-- ---- bindings

-- The bindings that the first n entries of the trail mean, newest first: each term has the bindings before it put in.
unfoldable pub bindings : List Symbol → List ℕ → List ℕ → ℕ → List Binding
bindings ss nodes state zero = []
bindings ss nodes state (suc n) =
    record { variable = variable_of (trail_at state n); term = resolve (bindings ss nodes state n) (value_of ss nodes (cell_at state (trail_at state n))) }
    ∷ bindings ss nodes state n

-- One entry of the trail: a bound cell, whose word gives a node; where that is a variable, it is one of an earlier cell.
pub record TrailEntry (ss : List Symbol) (nodes state : List ℕ) (i : ℕ) : Type 0 where
  pub cell : trail_at state i < cells
  pub bound : cell_at state (trail_at state i) ≡ 0 → ⊥
  pub node : Node ss nodes (node_of (cell_at state (trail_at state i)))
  pub down : get_or nodes (node_of (cell_at state (trail_at state i))) 0 < first_name → cell_of (copy_of (cell_at state (trail_at state i)))
      (get_or nodes (node_of (cell_at state (trail_at state i))) 0) < trail_at state i

-- Entry i closes a cycle: its variable stands in its term, once the bindings before it are put in.
abbrev pub ClosesCycle : List Symbol → List ℕ → List ℕ → ℕ → Type 0
ClosesCycle ss nodes state i = T (occurs (variable_of (trail_at state i)) (resolve (bindings ss nodes state i) (value_of ss nodes (cell_at state
    (trail_at state i)))))

-- none of the first n entries does
abbrev pub Acyclic : List Symbol → List ℕ → List ℕ → ℕ → Type 0
Acyclic ss nodes state n = (i : ℕ) → i < n → ClosesCycle ss nodes state i → ⊥

-- The first n entries of the trail are distinct, and they are exactly the bound cells.
pub record RawStore (ss : List Symbol) (nodes state : List ℕ) (n : ℕ) : Type 0 where
  pub long : store_words ≤ length state
  pub small : length nodes ≤ places
  pub entry : (i : ℕ) → i < n → TrailEntry ss nodes state i
  pub apart : (i j : ℕ) → i < j → j < n → trail_at state i ≡ trail_at state j → ⊥
  pub only : (x : ℕ) → x < cells → (cell_at state x ≡ 0 → ⊥) → (i : ℕ) × (i < n) × (trail_at state i ≡ x)

-- The store: the same, and no entry closes a cycle.
pub record Store (ss : List Symbol) (nodes state : List ℕ) (n : ℕ) : Type 0 where
  pub raw : RawStore ss nodes state n
  pub acyclic : Acyclic ss nodes state n

-- The entries and their terms belong to copies 0 to k.
pub record WithinCopies (k : ℕ) (state : List ℕ) (n : ℕ) : Type 0 where
  pub cell : (i : ℕ) → i < n → trail_at state i < (k + 1) * copy_cells
  pub copy : (i : ℕ) → i < n → copy_of (cell_at state (trail_at state i)) ≤ k

-- The first n entries of the trail and their cells are as they were.
pub record SameBindings (n : ℕ) (before after : List ℕ) : Type 0 where
  pub entry : (i : ℕ) → i < n → trail_at after i ≡ trail_at before i
  pub cell : (i : ℕ) → i < n → cell_at after (trail_at before i) ≡ cell_at before (trail_at before i)

-- The same, and so is every word behind the trail.
pub record BindingsKept (n : ℕ) (before after : List ℕ) : Type 0 where
  pub long : length after ≡ length before
  pub entry : (i : ℕ) → i < n → trail_at after i ≡ trail_at before i
  pub cell : (i : ℕ) → i < n → cell_at after (trail_at before i) ≡ cell_at before (trail_at before i)
  pub others : (j : ℕ) → store_words ≤ j → get_or after j 0 ≡ get_or before j 0

-- a cell bound, as entry n of the trail
unfoldable pub bound_words : List ℕ → ℕ → ℕ → ℕ → List ℕ
bound_words state n x w = set (set state x w) (trail + n) x
