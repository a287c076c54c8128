-- The search for a cycle of bound cells: what its functions are given and what they promise. Its marks are laid out as cells are, and the cells entered as the
-- trail is: a marked cell is "bound" to the one node of a table of its own, so the laws of bound cells serve for both.
use Rattle.std.specs.Prelude.{ℕ, ◌+◌, ◌-◌, ◌*◌, ◌≤◌, ◌<◌, ◌≡◌, Bool, true, false, Option, Some, None, T, ◌⊎◌, List, [], ◌∷◌, length, get_or}
use Rattle.syntax.specs.Words.{first_name}
use Rattle.machine.specs.Substitution.{Variable, var, occurs, occurs_in, resolve}
use Rattle.run_layout.specs.Regions.{cells, copies, store_words, pending, cuts_word, slots, path_of, loaded_node}
use Rattle.bindings.specs.Cuts.{cuts_made}
use Rattle.bindings.specs.Memos.{classes_made}
use Rattle.run_layout.specs.Nodes.{Symbol, Row, term_at, terms_at}
use Rattle.run_layout.specs.State.{cell_of, variable_of, node_of, copy_of, cell_at, trail_at, value_of, bindings, ClosesCycle, Acyclic, RawStore}
use Rattle.run_layout.specs.declared.terms.At.{At}
use Rattle.bindings.specs.Cells.{StoredTerm}
use Rattle.run_layout.specs.Rooms.{Clean}
use Rattle.bindings.specs.Plain.{Constant}
use Rattle.bindings.specs.Scratch.{Roomy}
use Rattle.unify.specs.Rows.{nodes_of}
use Rattle.unify.specs.declared.cycles.Progress.{Progress}
use Rattle.unify.specs.declared.cycles.CycleSearch.{CycleSearch}
use Rattle.unify.specs.declared.cycles.CycleSearch.TheVariants.{Cycle, NoCycle, GivenUp}

unfoldable pub mark_symbols : List Symbol
mark_symbols = record { name = []; arguments = 0 } ∷ []

unfoldable pub mark_table : List ℕ
mark_table = first_name ∷ loaded_node ∷ []

-- the mark of a cell that is done; any other mark is that of an open cell
abbrev pub done_mark : ℕ
done_mark = 2

-- the pending cell of a number, and the cell of the path and the place reached in its term
abbrev pub pending_at : List ℕ → ℕ → ℕ
pending_at scratch j = get_or scratch (pending + j) 0

abbrev pub path_cell : List ℕ → ℕ → ℕ
path_cell scratch j = get_or scratch (path_of j) 0

abbrev pub path_place : List ℕ → ℕ → ℕ
path_place scratch j = get_or scratch (path_of j + 1) 0

-- where the term of a cell's word ends
abbrev pub term_end : List ℕ → ℕ → ℕ
term_end nodes w = node_of w + get_or nodes (node_of w + 1) 0

-- ---- terms with which a binding closes no cycle, as a look at them shows

-- Cell y is another than x, and unbound or bound to a constant.
abbrev pub LeafCell : List ℕ → List ℕ → ℕ → ℕ → Type 0
LeafCell nodes state x y = (y ≡ x → ⊥) × ((cell_at state y ≡ 0) ⊎ Constant nodes (node_of (cell_at state y)))

pub record Leaf (nodes state : List ℕ) (x : ℕ) (v : Variable) : Type 0 where
  pub cell : ℕ
  pub is : v ≡ variable_of cell
  pub leaf : LeafCell nodes state x cell

-- such are the variables of a term
abbrev pub Shallow : {nodes state : List ℕ} {p c : ℕ} → StoredTerm nodes state p c → ℕ → Type 0
Shallow {nodes} {state} {p} {c} g x = (v : Variable) → T (occurs v (term_at g.ss nodes p c)) → Leaf nodes state x v

-- ---- cells that are done

-- a cell is unbound, or done
abbrev pub CellSettled : List ℕ → List ℕ → ℕ → Type 0
CellSettled state scratch y = (cell_at state y ≡ 0) ⊎ (get_or scratch y 0 ≡ done_mark)

pub record Settled (state scratch : List ℕ) (v : Variable) : Type 0 where
  pub cell : ℕ
  pub is : v ≡ variable_of cell
  pub small : cell < cells
  pub settled : CellSettled state scratch cell

-- The same, with a rank below that if it is done.
pub record Ranked (state scratch : List ℕ) (rank : ℕ → ℕ) (limit : ℕ) (v : Variable) : Type 0 where
  pub cell : ℕ
  pub is : v ≡ variable_of cell
  pub small : cell < cells
  pub settled : (cell_at state cell ≡ 0) ⊎ ((get_or scratch cell 0 ≡ done_mark) × (rank cell < limit))

-- Cells that are done have ranks, and each has a higher one than the bound variables of its term.
pub record DoneCell (ss : List Symbol) (nodes state scratch : List ℕ) (rank : ℕ → ℕ) (most y : ℕ) : Type 0 where
  pub low : rank y < most
  pub below : (v : Variable) → T (occurs v (value_of ss nodes (cell_at state y))) → Ranked state scratch rank (rank y) v

-- ---- the path

-- Cell x is open, and the variables of its term before place i are settled.
pub record OpenCell (ss : List Symbol) (nodes state scratch : List ℕ) (x i : ℕ) : Type 0 where
  pub cell : x < cells
  pub bound : cell_at state x ≡ 0 → ⊥
  pub marked : get_or scratch x 0 ≡ 0 → ⊥
  pub not_done : get_or scratch x 0 ≡ done_mark → ⊥
  pub row : Row ss nodes i (term_end nodes (cell_at state x))
  pub clear : (v : Variable) → T (occurs v (value_of ss nodes (cell_at state x)))
      → Settled state scratch v ⊎ T (occurs_in v (terms_at ss nodes i (term_end nodes (cell_at state x)) (copy_of (cell_at state x))))
  pub inside : (v : Variable) → T (occurs_in v (terms_at ss nodes i (term_end nodes (cell_at state x)) (copy_of (cell_at state x))))
      → T (occurs v (value_of ss nodes (cell_at state x)))

-- What a cell's variable stands for, by its nodes, and then by the cell: while no entry closes a cycle this is less for the variables of its term.
abbrev pub cell_size : List Symbol → List ℕ → List ℕ → ℕ → ℕ → ℕ
cell_size ss nodes state n x = nodes_of (resolve (bindings ss nodes state n) (var (variable_of x))) * cells + x

-- How far a search has come over n entries; `before` are the words that it began with.
pub record SearchState (ss : List Symbol) (nodes state : List ℕ) (n : ℕ) (before scratch : List ℕ) (p : Progress) : Type 0 where
  pub marks : RawStore mark_symbols mark_table scratch p.entered
  pub low : p.height ≤ p.entered
  pub long : length scratch ≡ length before
  pub kept : (j : ℕ) → store_words ≤ j → j < slots → get_or scratch j 0 ≡ get_or before j 0
  pub rank : ℕ → ℕ
  pub most : ℕ
  pub done : (y : ℕ) → y < cells → get_or scratch y 0 ≡ done_mark → DoneCell ss nodes state scratch rank most y
  pub path : (j : ℕ) → j < p.height → OpenCell ss nodes state scratch (path_cell scratch j) (path_place scratch j)
  pub apart : (j k : ℕ) → j < k → k < p.height → path_cell scratch j ≡ path_cell scratch k → ⊥
  pub open_cells : (y : ℕ) → y < cells → (get_or scratch y 0 ≡ 0 → ⊥) → (get_or scratch y 0 ≡ done_mark → ⊥)
      → (j : ℕ) × ((j < p.height) × (path_cell scratch j ≡ y))
  pub falls : Acyclic ss nodes state n → (j k : ℕ) → j < k → k < p.height
      → cell_size ss nodes state n (path_cell scratch k) < cell_size ss nodes state n (path_cell scratch j)

-- ---- what functions are given

pub record Searching (nodes state scratch : List ℕ) (p : Progress) : Type 0 where
  pub ss : List Symbol
  pub n : ℕ
  pub before : List ℕ
  pub store : RawStore ss nodes state n
  pub roomy : Roomy scratch
  pub search : SearchState ss nodes state n before scratch p

-- cells that are marked stay so
abbrev pub StayMarked : List ℕ → List ℕ → Type 0
StayMarked before after = (y : ℕ) → y < cells → (get_or before y 0 ≡ 0 → ⊥) → get_or after y 0 ≡ 0 → ⊥

-- ---- looking for a variable that leads on

-- a bound variable at a place, whose cell is not done
abbrev pub LeadsOn : List ℕ → List ℕ → List ℕ → ℕ → ℕ → Type 0
LeadsOn nodes state scratch i d = (get_or nodes i 0 < first_name)
    × ((cell_at state (cell_of d (get_or nodes i 0)) ≡ 0 → ⊥) × (get_or scratch (cell_of d (get_or nodes i 0)) 0 ≡ done_mark → ⊥))

-- a row from a place to e, in a copy
pub record Lookable (nodes state scratch : List ℕ) (a : At) (e : ℕ) : Type 0 where
  pub ss : List Symbol
  pub row : Row ss nodes a.node e
  pub copy : a.copy < copies
  pub long : cells ≤ length state
  pub roomy : cells ≤ length scratch

-- The variables between a row's first place and i are settled.
pub record LookedTo (ss : List Symbol) (nodes state scratch : List ℕ) (a : At) (e i : ℕ) : Type 0 where
  pub row : Row ss nodes i e
  pub inside : (v : Variable) → T (occurs_in v (terms_at ss nodes i e a.copy)) → T (occurs_in v (terms_at ss nodes a.node e a.copy))
  pub clear : (v : Variable) → T (occurs_in v (terms_at ss nodes a.node e a.copy)) → Settled state scratch v ⊎ T (occurs_in v (terms_at ss nodes i e a.copy))

-- The same up to the row's end, or to a variable that leads on.
pub record Found {nodes state scratch : List ℕ} {a : At} {e : ℕ} (g : Lookable nodes state scratch a e) (i : ℕ) : Type 0 where
  pub looked : LookedTo g.ss nodes state scratch a e i
  pub stop : i < e → LeadsOn nodes state scratch i a.copy

-- ---- entering a cell

-- a cell that is done is bound to the word w
abbrev pub DoneWith : List ℕ → List ℕ → ℕ → Type 0
DoneWith state scratch w = (z : ℕ) × ((z < cells) × ((get_or scratch z 0 ≡ done_mark) × (cell_at state z ≡ w)))

-- the first place of a word's term, or its end where a cell with that word is done
abbrev pub FirstPlace : List ℕ → List ℕ → List ℕ → ℕ → ℕ → Type 0
FirstPlace nodes state scratch w i = (i ≡ node_of w) ⊎ ((i ≡ term_end nodes w) × DoneWith state scratch w)

-- A bound cell that is not marked, and less than the cells of the path.
pub record Enterable (nodes state scratch : List ℕ) (p : Progress) (y : ℕ) : Type 0 where
  pub given : Searching nodes state scratch p
  pub cell : y < cells
  pub bound : cell_at state y ≡ 0 → ⊥
  pub unmarked : get_or scratch y 0 ≡ 0
  pub less : Acyclic given.ss nodes state given.n → (k : ℕ) → k < p.height
      → cell_size given.ss nodes state given.n y < cell_size given.ss nodes state given.n (path_cell scratch k)

pub record EnteredCell {nodes state before : List ℕ} {p : Progress} {y : ℕ} (g : Enterable nodes state before p y) (after : List ℕ)
    (r : Progress) : Type 0 where
  pub search : SearchState g.given.ss nodes state g.given.n g.given.before after r
  pub height : r.height ≡ p.height + 1
  pub entered : r.entered ≡ p.entered + 1
  pub limit : p.left ≡ None → r.left ≡ None
  pub more : StayMarked before after
  pub here : get_or after y 0 ≡ 0 → ⊥

-- ---- turns

-- what turns make less
abbrev pub search_left : Progress → ℕ
search_left p = 2 * (cells - p.entered) + p.height

pub record SearchedOn {nodes state before : List ℕ} {p : Progress} (g : Searching nodes state before p) (after : List ℕ) (r : Progress) : Type 0 where
  pub search : SearchState g.ss nodes state g.n g.before after r
  pub more : StayMarked before after
  pub limit : p.left ≡ None → r.left ≡ None
  pub less : search_left r < search_left p

-- On, or an entry closes a cycle; the words are then as they were.
abbrev pub SearchTurned : {nodes state before : List ℕ} {p : Progress} → Searching nodes state before p → List ℕ → Option Progress → Type 0
SearchTurned {nodes} {state} {before} g after None = (after ≡ before) × (Acyclic g.ss nodes state g.n → ⊥)
SearchTurned g after (Some r) = SearchedOn g after r

-- Turns have stopped: the path is empty, an entry closes a cycle, or the limit is spent.
pub record SearchStopped {nodes state before : List ℕ} {p : Progress} (g : Searching nodes state before p) (after : List ℕ) (r : Progress) : Type 0 where
  pub search : SearchState g.ss nodes state g.n g.before after r
  pub more : StayMarked before after
  pub limit : p.left ≡ None → r.left ≡ None
  pub cyclic : 1 ≤ r.height → (r.left ≡ Some 0 → ⊥) → Acyclic g.ss nodes state g.n → ⊥

-- a search that begins when so many cells have been entered, with so much left of a limit
abbrev pub from_start : ℕ → Option ℕ → Progress
from_start m left = record { height = 0; entered = m; left = left }

-- A search from cell x has ended: its path is empty, an entry closes a cycle, or the limit is spent.
pub record SearchEnded {nodes state before : List ℕ} {m : ℕ} {left : Option ℕ} (g : Searching nodes state before (from_start m left)) (after : List ℕ)
    (x : ℕ) (r : Progress) : Type 0 where
  pub search : SearchState g.ss nodes state g.n g.before after r
  pub more : StayMarked before after
  pub here : get_or after x 0 ≡ 0 → ⊥
  pub limit : left ≡ None → r.left ≡ None
  pub cyclic : 1 ≤ r.height → (r.left ≡ Some 0 → ⊥) → Acyclic g.ss nodes state g.n → ⊥

-- ---- the pending cells

-- n entries of bound cells, and so many pending ones among them; no cell is marked
pub record Testable (nodes state scratch : List ℕ) (pending : ℕ) : Type 0 where
  pub ss : List Symbol
  pub n : ℕ
  pub store : RawStore ss nodes state n
  pub roomy : Roomy scratch
  pub clean : Clean scratch
  pub few : pending ≤ cells
  pub cell : (j : ℕ) → j < pending → pending_at scratch j < cells
  pub bound : (j : ℕ) → j < pending → cell_at state (pending_at scratch j) ≡ 0 → ⊥

pub record AllSearched {nodes state before : List ℕ} {pending : ℕ} (g : Testable nodes state before pending) (limit : Option ℕ) (after : List ℕ)
    (r : Progress) : Type 0 where
  pub search : SearchState g.ss nodes state g.n before after r
  pub limited : limit ≡ None → r.left ≡ None
  pub cyclic : 1 ≤ r.height → (r.left ≡ Some 0 → ⊥) → Acyclic g.ss nodes state g.n → ⊥
  pub marked : r.height ≡ 0 → (j : ℕ) → j < pending → get_or after (pending_at before j) 0 ≡ 0 → ⊥

-- Whether an entry closes a cycle, if each that may is pending; only a limited search is given up.
pub record CycleTested {nodes state before : List ℕ} {pending : ℕ} (g : Testable nodes state before pending) (limit : Option ℕ) (after : List ℕ)
    (r : CycleSearch) : Type 0 where
  pub long : length after ≡ length before
  pub clean : Clean after
  pub kept : (j : ℕ) → store_words ≤ j → j < slots → get_or after j 0 ≡ get_or before j 0
  pub cyclic : r ≡ Cycle → Acyclic g.ss nodes state g.n → ⊥
  pub free : r ≡ NoCycle → (j : ℕ) → j < pending → (i : ℕ) → i < g.n → trail_at state i ≡ pending_at before j → ClosesCycle g.ss nodes state i → ⊥
  pub given_up : r ≡ GivenUp → limit ≡ None → ⊥

-- The same with no limit.
pub record Tested {nodes state before : List ℕ} {pending : ℕ} (g : Testable nodes state before pending) (after : List ℕ) (r : Bool) : Type 0 where
  pub long : length after ≡ length before
  pub clean : Clean after
  pub kept : (j : ℕ) → store_words ≤ j → j < slots → get_or after j 0 ≡ get_or before j 0
  pub cyclic : r ≡ true → Acyclic g.ss nodes state g.n → ⊥
  pub free : r ≡ false → (j : ℕ) → j < pending → (i : ℕ) → i < g.n → trail_at state i ≡ pending_at before j → ClosesCycle g.ss nodes state i → ⊥

-- The same between turns: where no cycle is found, nothing is pending or as much as before, and short cuts and memo are empty.
pub record Looked {nodes state before : List ℕ} {pending : ℕ} (g : Testable nodes state before pending) (after : List ℕ) (r : Option ℕ) : Type 0 where
  pub long : length after ≡ length before
  pub clean : Clean after
  pub kept : (j : ℕ) → store_words ≤ j → j < cuts_word → get_or after j 0 ≡ get_or before j 0
  pub no_classes : classes_made after ≡ 0
  pub no_cuts : cuts_made after ≡ 0
  pub cyclic : r ≡ None → Acyclic g.ss nodes state g.n → ⊥
  pub still : (c : ℕ) → r ≡ Some c → ((c ≡ 0) × ((j : ℕ) → j < pending → (i : ℕ) → i < g.n → trail_at state i ≡ pending_at before j → ClosesCycle g.ss nodes state i → ⊥))
      ⊎ (c ≡ pending)
