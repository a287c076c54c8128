-- Chains of variables followed by short cuts: what the functions are given and what they promise.
use Rattle.std.specs.Prelude.{ℕ, ◌≤◌, ◌<◌, ◌≡◌, Bool, T, Option, Some, None, List, length, get_or}
use Rattle.syntax.specs.Words.{first_name}
use Rattle.machine.specs.Substitution.{Binding}
use Rattle.run_layout.specs.Regions.{copies, cells}
use Rattle.run_layout.specs.Nodes.{Symbol, Node}
use Rattle.run_layout.specs.State.{cell_of, cell_at, bindings}
use Rattle.run_layout.specs.declared.terms.At.{At}
use Rattle.bindings.specs.Cells.{StoredTerm, MeansSame, Dereferences}
use Rattle.bindings.specs.Scratch.{Roomy}
use Rattle.bindings.specs.Cuts.{Cuts, CutsOnly, cell_means, cell_at_place}
use Rattle.bindings.specs.declared.shortcuts.Stage.{Stage}
use Rattle.bindings.specs.declared.shortcuts.Way.{Way}
use Rattle.bindings.specs.declared.shortcuts.Ends.{Ends}

-- A run-time term in a store, the words of whose cells are at hand.
pub record Fronted (nodes front : List ℕ) (p c : ℕ) : Type 0 where
  pub state : List ℕ
  pub given : StoredTerm nodes state p c
  pub long : cells ≤ length front
  pub same : (x : ℕ) → x < cells → get_or front x 0 ≡ get_or state x 0

-- The same, and cuts that are right, where no cell is known to close a cycle.
pub record Followable (nodes front scratch : List ℕ) (p c : ℕ) : Type 0 where
  pub from : Fronted nodes front p c
  pub roomy : Roomy scratch
  pub cuts : T from.given.known → Cuts (bindings from.given.ss nodes from.state from.given.n) scratch

-- The variable at p in copy c leads on to a term, that of an earlier cell or a name.
pub record NextOfChain (known : Bool) (ss : List Symbol) (nodes state : List ℕ) (n p c : ℕ) (a : At) : Type 0 where
  pub variable : get_or nodes p 0 < first_name
  pub leads : MeansSame known ss nodes state n p c a.node a.copy
  pub down : get_or nodes a.node 0 < first_name → cell_of a.copy (get_or nodes a.node 0) < cell_of c (get_or nodes p 0)

-- Where the term at p in copy c leads on to; where that is nowhere, it is a name or an unbound variable.
pub record Next (known : Bool) (ss : List Symbol) (nodes state : List ℕ) (n p c : ℕ) (r : Option At) : Type 0 where
  pub stops : r ≡ None → get_or nodes p 0 < first_name → cell_at state (cell_of c (get_or nodes p 0)) ≡ 0
  pub on : (a : At) → r ≡ Some a → NextOfChain known ss nodes state n p c a

-- A walk from the term at p in copy c has come to another; where there is no next term, nothing leads on.
pub record Staged (known : Bool) (ss : List Symbol) (nodes state : List ℕ) (n p c : ℕ) (r : Stage) : Type 0 where
  pub leads : MeansSame known ss nodes state n p c r.at.node r.at.copy
  pub stops : r.next ≡ None → get_or nodes r.at.node 0 < first_name → cell_at state (cell_of r.at.copy (get_or nodes r.at.node 0)) ≡ 0

-- A term and the one that it leads on to.
pub record Linked (nodes front scratch : List ℕ) (p : At) (a : At) : Type 0 where
  pub start : Followable nodes front scratch p.node p.copy
  pub next : NextOfChain start.from.given.known start.from.given.ss nodes start.from.state start.from.given.n p.node p.copy a

-- Where a chain ends, and its last variable before that.
pub record ChainEnd (known : Bool) (ss : List Symbol) (nodes state : List ℕ) (n : ℕ) (p : At) (r : Way) : Type 0 where
  pub derefs : Dereferences known ss nodes state n p.node p.copy r.end.node r.end.copy
  pub leads : MeansSame known ss nodes state n p.node p.copy r.last.node r.last.copy
  pub variable : get_or nodes r.last.node 0 < first_name

-- A term, and a variable that means the same.
pub record Shortenable (nodes front scratch : List ℕ) (p last : At) : Type 0 where
  pub start : Followable nodes front scratch p.node p.copy
  pub leads : MeansSame start.from.given.known start.from.given.ss nodes start.from.state start.from.given.n p.node p.copy last.node last.copy
  pub variable : get_or nodes last.node 0 < first_name

-- the variable at a place
pub record VariableAt (nodes : List ℕ) (p : At) : Type 0 where
  pub inside : p.node < length nodes
  pub variable : get_or nodes p.node 0 < first_name
  pub copy : p.copy < copies

-- Only cuts and their slots changed, and the cuts are right, where that is known.
pub record Eased (known : Bool) (b : List Binding) (before after : List ℕ) : Type 0 where
  pub beside : CutsOnly before after
  pub cuts : T known → Cuts b after

-- The term is dereferenced, and only cuts changed.
pub record Followed {nodes front before : List ℕ} {p c : ℕ} (g : Followable nodes front before p c) (after : List ℕ) (r : At) : Type 0 where
  pub derefs : Dereferences g.from.given.known g.from.given.ss nodes g.from.state g.from.given.n p c r.node r.copy
  pub eased : Eased g.from.given.known (bindings g.from.given.ss nodes g.from.state g.from.given.n) before after

-- Two run-time terms in one store, and cuts that are right.
pub record Both (nodes front scratch : List ℕ) (p q : At) : Type 0 where
  pub left : Followable nodes front scratch p.node p.copy
  pub node : Node left.from.given.ss nodes q.node
  pub copy : q.copy < copies

-- Both are dereferenced, and only cuts changed.
pub record BothFollowed {nodes front before : List ℕ} {p q : At} (g : Both nodes front before p q) (after : List ℕ) (r : Ends) : Type 0 where
  pub left : Dereferences g.left.from.given.known g.left.from.given.ss nodes g.left.from.state g.left.from.given.n p.node p.copy r.left.node r.left.copy
  pub right : Dereferences g.left.from.given.known g.left.from.given.ss nodes g.left.from.state g.left.from.given.n q.node q.copy r.right.node r.right.copy
  pub eased : Eased g.left.from.given.known (bindings g.left.from.given.ss nodes g.left.from.state g.left.from.given.n) before after

-- Two terms at places of a table, and room for cuts.
pub record Pairable (nodes scratch : List ℕ) (p q : At) : Type 0 where
  pub inside : p.node < length nodes
  pub inside_right : q.node < length nodes
  pub copy : p.copy < copies
  pub copy_right : q.copy < copies
  pub roomy : Roomy scratch

-- Where two variables led to one term, a cut from the later to the earlier.
pub record Joined (nodes before after : List ℕ) (p q : At) (e : Ends) : Type 0 where
  pub beside : CutsOnly before after
  pub cuts : (b : List Binding)
      → (e.left ≡ e.right → get_or nodes p.node 0 < first_name → get_or nodes q.node 0 < first_name
      → cell_means b (cell_at_place nodes p) ≡ cell_means b (cell_at_place nodes q))
      → Cuts b before → Cuts b after
