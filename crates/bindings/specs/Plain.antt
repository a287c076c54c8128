-- Bindings of which it is plain that they close no cycle.
use Rattle.std.specs.Prelude.{◌≡◌, ℕ, ◌+◌, ◌*◌, ◌<◌, ◌≤◌, ◌⊎◌, List, slice_index, slice_index_or}
use Rattle.syntax.specs.Words.{first_name}
use Rattle.run_layout.specs.Regions.{copies, copy_cells, loaded_node}
use Rattle.run_layout.specs.State.{cell_of, copy_of, cell_at}

-- The cells of copies below k are bound to terms of such copies. So no variable of another copy stands in a term of these, whatever is put in.
pub record Closed (k : ℕ) (state : List ℕ) : Type 0 where
  pub few : k ≤ copies
  pub copy : (y : ℕ) → y < k * copy_cells → copy_of (cell_at state y) < k

-- The term at q, in copy d, is an unbound variable other than that of cell x.
pub record Other (nodes state : List ℕ) (x q d : ℕ) : Type 0 where
  pub variable : slice_index_or nodes q 0 < first_name
  pub unbound : cell_at state (cell_of d (slice_index nodes q)) ≡ 0
  pub other : cell_of d (slice_index nodes q) ≡ x → ⊥

-- a name without arguments
abbrev pub Constant : List ℕ → ℕ → Type 0
Constant nodes q = (first_name ≤ slice_index nodes q) × (slice_index nodes (q + 1) ≡ loaded_node)

-- Cell x belongs to a copy from k on, and the term at q to one below; or the term is a constant; or it is another unbound variable.
abbrev pub Plain : List ℕ → List ℕ → ℕ → ℕ → ℕ → ℕ → Type 0
Plain nodes state x q d k =
    ((k * copy_cells ≤ x) × (d < k)) ⊎ (Constant nodes q ⊎ Other nodes state x q d)

-- Where the copies below k are closed, those below r are, and stay so when cell x is bound to a term of copy d.
pub record Closing (k x d r : ℕ) : Type 0 where
  pub closed : (state : List ℕ) → Closed k state → Closed r state
  pub stays : x < r * copy_cells → d < r
