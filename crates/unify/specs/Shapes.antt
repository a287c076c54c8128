-- What safety and the end of turns rest on, whether bindings close a cycle or not: where the rows of the stack stand, and how much of them is left.
use Rattle.std.specs.Prelude.{ℕ, zero, suc, ◌+◌, ◌-◌, ◌*◌, ◌≤◌, ◌<◌, ◌≡◌, Ok, Err, List, get_or}
use Rattle.syntax.specs.Words.{first_name}
use Rattle.run_layout.specs.Regions.{copies, copy_cells, places, cells, pairs}
use Rattle.run_layout.specs.Nodes.{Symbol, Node, Row, terms_at, count}
use Rattle.run_layout.specs.State.{cell_of, cell_at, RawStore, WithinCopies}
use Rattle.run_layout.specs.declared.terms.At.{At}
use Rattle.bindings.specs.declared.stack.Side.{Side}
use Rattle.bindings.specs.Scratch.{left_at, right_at, SameMarks, Roomy}
use Rattle.unify.specs.Walks.{StopsAt}
use Rattle.unify.specs.Stacks.{end_of}
use Rattle.unify.specs.Turns.{Turn, Dereferenced}
use Rattle.unify.specs.declared.solve.TurnStop.TheVariants.{Clash, Bind}

-- ---- rows

-- the rows of one side of the stack stand in the table
pub record SideRows (ss : List Symbol) (nodes : List ℕ) (top : ℕ) (s : ℕ → Side) (h : ℕ) : Type 0 where
  pub node : (k : ℕ) → k < h → Node ss nodes (s k).root
  pub copy : (k : ℕ) → k < h → (s k).copy < copies
  pub below : (k : ℕ) → k < h → (s k).copy ≤ top
  pub row : (k : ℕ) → k < h → Row ss nodes (s k).at (end_of nodes (s k))

pub record StackRows (ss : List Symbol) (nodes : List ℕ) (top : ℕ) (scratch : List ℕ) (h : ℕ) : Type 0 where
  pub low : h ≤ pairs
  pub left : SideRows ss nodes top (left_at scratch) h
  pub right : SideRows ss nodes top (right_at scratch) h
  pub same : (k : ℕ) → k < h → (c d : ℕ) → count (terms_at ss nodes (left_at scratch k).at (end_of nodes (left_at scratch k)) c)
      ≡ count (terms_at ss nodes (right_at scratch k).at (end_of nodes (right_at scratch k)) d)

-- ---- how much is left

unfoldable pub power : ℕ → ℕ → ℕ
power b zero = 1
power b (suc d) = b * power b d

-- more than a row has words, and one
abbrev pub most_left : ℕ
most_left = places + 2

-- a word of a row weighs more than all rows that can be laid above it
abbrev pub weight : ℕ → ℕ
weight k = power most_left (pairs - k)

-- the words that are left of the rows of the first h sides, and one for each row, with their weights
unfoldable pub mass : List ℕ → (ℕ → Side) → ℕ → ℕ
mass nodes s zero = 0
mass nodes s (suc k) = suc (end_of nodes (s k) - (s k).at) * weight k + mass nodes s k

-- ---- what functions are given

-- n entries of bound cells, which may close a cycle, and a stack of height h
pub record SafeWork (nodes state scratch : List ℕ) (n h : ℕ) : Type 0 where
  pub ss : List Symbol
  pub top : ℕ
  pub store : RawStore ss nodes state n
  pub within : WithinCopies top state n
  pub roomy : Roomy scratch
  pub rows : StackRows ss nodes top scratch h

pub record SafeTurnable (nodes state scratch : List ℕ) (h : ℕ) : Type 0 where
  pub n : ℕ
  pub work : SafeWork nodes state scratch n h
  pub some : 1 ≤ h

-- The top pair of a stack, its rows moved on to where they first have a variable on a side, or large terms.
pub record SafeMeetable (nodes state scratch : List ℕ) (h : ℕ) (l r : Side) : Type 0 where
  pub n : ℕ
  pub work : SafeWork nodes state scratch n h
  pub some : 1 ≤ h
  pub left_is : l ≡ record (left_at scratch (h - 1)) { at = l.at }
  pub right_is : r ≡ record (right_at scratch (h - 1)) { at = r.at }
  pub meets : StopsAt work.ss nodes (left_at scratch (h - 1)).at (end_of nodes (left_at scratch (h - 1)))
      (right_at scratch (h - 1)).at (end_of nodes (right_at scratch (h - 1))) l.at r.at

-- The top pair of a stack.
pub record SafePassable (scratch : List ℕ) (h : ℕ) (l r : Side) : Type 0 where
  pub nodes : List ℕ
  pub state : List ℕ
  pub n : ℕ
  pub work : SafeWork nodes state scratch n h
  pub some : 1 ≤ h
  pub left_is : l ≡ left_at scratch (h - 1)
  pub right_is : r ≡ right_at scratch (h - 1)

-- Two terms before the rows of a stack.
pub record SafeCrossable (nodes state scratch : List ℕ) (h : ℕ) (p q : At) : Type 0 where
  pub n : ℕ
  pub work : SafeWork nodes state scratch n h
  pub some : 1 ≤ h
  pub left : Node work.ss nodes p.node
  pub right : Node work.ss nodes q.node
  pub copy : p.copy < copies
  pub copy_right : q.copy < copies
  pub below : p.copy ≤ work.top
  pub below_right : q.copy ≤ work.top

-- Two dereferenced terms before the rows of a stack.
pub record SafeCrossed (nodes scratch : List ℕ) (h : ℕ) (p q : At) : Type 0 where
  pub state : List ℕ
  pub n : ℕ
  pub work : SafeWork nodes state scratch n h
  pub some : 1 ≤ h
  pub left : Dereferenced work.ss nodes state work.top p
  pub right : Dereferenced work.ss nodes state work.top q

-- The same with two names that are the same.
pub record SafeOpenable (scratch : List ℕ) (h : ℕ) (p q : At) : Type 0 where
  pub nodes : List ℕ
  pub crossed : SafeCrossed nodes scratch h p q
  pub name : first_name ≤ get_or nodes p.node 0
  pub same : get_or nodes p.node 0 ≡ get_or nodes q.node 0

-- ---- what a turn comes to

-- A stack of height k, whose rows have less left than that.
pub record SafeOn (ss : List Symbol) (nodes : List ℕ) (top : ℕ) (after : List ℕ) (limit k : ℕ) : Type 0 where
  pub rows : StackRows ss nodes top after k
  pub less : mass nodes (left_at after) k < limit

-- The variable of cell x, unbound, is to be bound to the term a: one with a name, or the variable of an earlier cell.
pub record SafeBinding (ss : List Symbol) (nodes state : List ℕ) (top : ℕ) (after : List ℕ) (k x : ℕ) (a : At) : Type 0 where
  pub rows : StackRows ss nodes top after k
  pub cell : x < cells
  pub unbound : cell_at state x ≡ 0
  pub below : x < (top + 1) * copy_cells
  pub node : Node ss nodes a.node
  pub copy : a.copy < copies
  pub copy_below : a.copy ≤ top
  pub down : get_or nodes a.node 0 < first_name → cell_of a.copy (get_or nodes a.node 0) < x

abbrev pub SafeTurn : List Symbol → List ℕ → List ℕ → ℕ → List ℕ → ℕ → Turn → Type 0
SafeTurn ss nodes state top after limit (Ok k) = SafeOn ss nodes top after limit k
SafeTurn ss nodes state top after limit (Err Clash) = Unit {0}
SafeTurn ss nodes state top after limit (Err (Bind k x a)) = SafeBinding ss nodes state top after k x a

-- a turn that leaves less than a limit
abbrev pub SafeTurned : {nodes state before : List ℕ} {n h : ℕ} → SafeWork nodes state before n h → List ℕ → ℕ → Turn → Type 0
SafeTurned {nodes} {state} {before} w after limit t = SameMarks before after × SafeTurn w.ss nodes state w.top after limit t

-- what `next_turn` leaves: less than there was
abbrev pub TurnFalls : {nodes state before : List ℕ} {n h : ℕ} → SafeWork nodes state before n h → List ℕ → Turn → Type 0
TurnFalls {nodes} {state} {before} {n} {h} w after t = SafeTurned w after (mass nodes (left_at before) h) t

-- what is left where the rows of the top pair are moved on: no more than there was
abbrev pub NoMoreLeft : {nodes state before : List ℕ} {n h : ℕ} → SafeWork nodes state before n h → List ℕ → Turn → Type 0
NoMoreLeft {nodes} {state} {before} {n} {h} w after t = SafeTurned w after (suc (mass nodes (left_at before) h)) t

-- the top pair of a stack, as it is read
pub record TopPair (nodes scratch : List ℕ) (h : ℕ) (l r : Side) : Type 0 where
  pub state : List ℕ
  pub given : SafeTurnable nodes state scratch h
  pub left_is : l ≡ left_at scratch (h - 1)
  pub right_is : r ≡ right_at scratch (h - 1)

-- what is left where the top row was moved on before: less than there was with a word of it
abbrev pub PairFalls : {nodes state before : List ℕ} {n h : ℕ} → SafeWork nodes state before n h → List ℕ → Turn → Type 0
PairFalls {nodes} {state} {before} {n} {h} w after t = SafeTurned w after (mass nodes (left_at before) h + weight (h - 1)) t
