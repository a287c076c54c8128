-- What the functions on cells and trail are given, and what they promise. The symbols are no argument of the code: a function is given some with
-- which the words make sense, and promises for all of them.
use Rattle.std.specs.Prelude.{◌≡◌, ℕ, ◌<◌, ◌≤◌, Bool, true, false, T, Option, Some, None, List, nat_lt, slice_index, slice_index_or}
use Rattle.syntax.specs.Words.{first_name}
use Rattle.machine.specs.Substitution.{resolve}
use Rattle.run_layout.specs.Regions.{copies}
use Rattle.run_layout.specs.Nodes.{Symbol, Node, term_at}
use Rattle.run_layout.specs.State.{cell_of, at_of, cell_at, bindings, Acyclic, RawStore, WithinCopies, BindingsKept}
use Rattle.run_layout.specs.declared.terms.At.{At}

-- the run-time term of a cell's word, or none for the word 0
abbrev pub CellTerm : ℕ → Option At → Type 0
CellTerm w None = w ≡ 0
CellTerm w (Some a) = (w ≡ 0 → ⊥) × (a ≡ at_of w)

-- the word of the cell of the variable at a place; 0 where a name stands there
unfoldable pub bound_at : List ℕ → List ℕ → ℕ → ℕ → ℕ
bound_at nodes state p c = elim (nat_lt (slice_index nodes p) first_name) [ true ↦ cell_at state (cell_of c (slice_index nodes p)) | false ↦ 0 ]

-- Bound cells, and a run-time term over them. What terms mean is promised where it is known that none closes a cycle.
pub record StoredTerm (nodes state : List ℕ) (p c : ℕ) : Type 0 where
  pub ss : List Symbol
  pub n : ℕ
  pub store : RawStore ss nodes state n
  pub known : Bool
  pub acyclic : T known → Acyclic ss nodes state n
  pub node : Node ss nodes p
  pub copy : c < copies

-- One run-time term leads to another: with the bindings put in they are the same, where that is known.
pub record MeansSame (known : Bool) (ss : List Symbol) (nodes state : List ℕ) (n p c q d : ℕ) : Type 0 where
  pub node : Node ss nodes q
  pub copy : d < copies
  pub means : T known → resolve (bindings ss nodes state n) (term_at ss nodes q d) ≡ resolve (bindings ss nodes state n) (term_at ss nodes p c)
  pub within : (k : ℕ) → WithinCopies k state n → c ≤ k → d ≤ k

-- It leads to a name or to an unbound variable.
pub record Dereferences (known : Bool) (ss : List Symbol) (nodes state : List ℕ) (n p c q d : ℕ) : Type 0 where
  pub leads : MeansSame known ss nodes state n p c q d
  pub stops : slice_index_or nodes q 0 < first_name → cell_at state (cell_of d (slice_index nodes q)) ≡ 0

-- n entries of bound cells, for some symbols and some table.
pub record Stored (state : List ℕ) (n : ℕ) : Type 0 where
  pub ss : List Symbol
  pub nodes : List ℕ
  pub store : RawStore ss nodes state n

-- Entries from a mark on undone: so many are left.
pub record Undone (before after : List ℕ) (mark n : ℕ) : Type 0 where
  pub keeps : BindingsKept mark before after
  pub store : (ss : List Symbol) (nodes : List ℕ) → RawStore ss nodes before n → RawStore ss nodes after mark
