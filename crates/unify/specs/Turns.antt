-- What a turn of the unifier is given and what it comes to.
use Rattle.std.specs.Prelude.{ℕ, ◌+◌, ◌-◌, ◌*◌, ◌≤◌, ◌<◌, ◌≡◌, Bool, true, false, Result, Ok, Err, List, ◌∷◌, ◌++◌, ◌⊎◌, T, length, get_or}
use Rattle.std.proofs.Math.Option.{Option, none, some}
use Rattle.syntax.specs.Words.{first_name}
use Rattle.syntax.specs.Terms.{Term}
use Rattle.machine.specs.Substitution.{RTerm, RTerms, rcons, copied, occurs, Binding, resolve}
use Rattle.machine.specs.Unification.{unify}
use Rattle.run_layout.specs.Regions.{copies, copy_cells, cells, big_pairs}
use Rattle.run_layout.specs.Nodes.{Symbol, TermLoaded, Node, term_at}
use Rattle.run_layout.specs.State.{cell_of, variable_of, cell_at, bindings, Store, WithinCopies, BindingsKept}
use Rattle.run_layout.specs.Rooms.{Clean}
use Rattle.bindings.specs.Memos.{Memo}
use Rattle.bindings.specs.Scratch.{left_at, right_at, pair_words, SameMarks, Roomy}
use Rattle.run_layout.specs.declared.terms.At.{At}
use Rattle.bindings.specs.declared.stack.Side.{Side}
use Rattle.unify.specs.Rows.{unify_rows, nodes_of}
use Rattle.unify.specs.Walks.{StopsAt, Walks}
use Rattle.unify.specs.Stacks.{end_of, whole_of, rows_of, OpenedByCell, Stack, no_term, WholesEqual}
use Rattle.unify.specs.declared.solve.TurnStop.{TurnStop}
use Rattle.unify.specs.declared.solve.TurnStop.TheVariants.{Clash, Bind}
use Rattle.unify.specs.declared.solve.UnifyAnswer.{UnifyAnswer}

-- n bindings, a stack of height h, and a memo.
pub record Work (nodes state scratch : List ℕ) (n h : ℕ) : Type 0 where
  pub ss : List Symbol
  pub top : ℕ
  pub store : Store ss nodes state n
  pub within : WithinCopies top state n
  pub roomy : Roomy scratch
  pub stack : Stack ss nodes (bindings ss nodes state n) top (left_at scratch) (right_at scratch) h
  pub memo : Memo ss nodes (bindings ss nodes state n) scratch

-- What is unified over: a table of nodes with its symbols, n bindings of a state, copies 0 to top.
pub record UnifiedOver : Type 0 where
  pub ss : List Symbol
  pub nodes : List ℕ
  pub state : List ℕ
  pub n : ℕ
  pub top : ℕ

abbrev pub bound : UnifiedOver → List Binding
bound o = bindings o.ss o.nodes o.state o.n

abbrev pub over : {nodes state scratch : List ℕ} {n h : ℕ} → Work nodes state scratch n h → UnifiedOver
over {nodes} {state} {scratch} {n} w = record { ss = w.ss; nodes = nodes; state = state; n = n; top = w.top }

-- From the second pair on the term stands strictly inside the whole of that side of the top pair.
abbrev pub Inside : UnifiedOver → ℕ → Side → At → Type 0
Inside o h top a = 2 ≤ h → (newer : List Binding) → nodes_of (resolve (newer ++ bound o) (term_at o.ss o.nodes a.node a.copy))
    < nodes_of (resolve (newer ++ bound o) (whole_of o.ss o.nodes top))

-- the stack in these scratch words closes, with these terms
abbrev pub ClosesWith : UnifiedOver → List ℕ → ℕ → RTerm → RTerm → Type 0
ClosesWith o scratch h left right = WholesEqual o.ss o.nodes (bound o) (left_at scratch) (right_at scratch) h left right

-- The rows to be unified are now those of a stack of height k.
pub record RowsLeft (o : UnifiedOver) (ls rs : RTerms) (after : List ℕ) (k : ℕ) : Type 0 where
  pub stack : Stack o.ss o.nodes (bound o) o.top (left_at after) (right_at after) k
  pub means : unify_rows (bound o) ls rs ≡ unify_rows (bound o) (rows_of o.ss o.nodes (left_at after) k) (rows_of o.ss o.nodes (right_at after) k)
  pub memo : Memo o.ss o.nodes (bound o) after
  pub closes : ClosesWith o after k no_term no_term

-- The variable of cell x is to be bound to the term a, unless it stands in it; then there is no unifier.
pub record BindingDue (o : UnifiedOver) (ls rs : RTerms) (after : List ℕ) (k x : ℕ) (a : At) : Type 0 where
  pub stack : Stack o.ss o.nodes (bound o) o.top (left_at after) (right_at after) k
  pub cell : x < cells
  pub unbound : cell_at o.state x ≡ 0
  pub below : x < (o.top + 1) * copy_cells
  pub node : Node o.ss o.nodes a.node
  pub copy : a.copy < copies
  pub copy_below : a.copy ≤ o.top
  pub down : get_or o.nodes a.node 0 < first_name → cell_of a.copy (get_or o.nodes a.node 0) < x
  pub stands : T (occurs (variable_of x) (resolve (bound o) (term_at o.ss o.nodes a.node a.copy))) → unify_rows (bound o) ls rs ≡ none
  pub free : (T (occurs (variable_of x) (resolve (bound o) (term_at o.ss o.nodes a.node a.copy))) → ⊥) → unify_rows (bound o) ls rs
      ≡ unify_rows (record { variable = variable_of x; term = resolve (bound o) (term_at o.ss o.nodes a.node a.copy) } ∷ bound o)
      (rows_of o.ss o.nodes (left_at after) k) (rows_of o.ss o.nodes (right_at after) k)
  pub memo : Memo o.ss o.nodes (bound o) after
  pub closes : (T (occurs (variable_of x) (resolve (bound o) (term_at o.ss o.nodes a.node a.copy))) → ⊥)
      → WholesEqual o.ss o.nodes (record { variable = variable_of x; term = resolve (bound o) (term_at o.ss o.nodes a.node a.copy) } ∷ bound o)
      (left_at after) (right_at after) k no_term no_term

-- What a turn comes to: on with a stack of that height, or a stop.
abbrev pub Turn : Type 0
Turn = Result ℕ TurnStop

abbrev pub Turns : UnifiedOver → RTerms → RTerms → List ℕ → Turn → Type 0
Turns o ls rs after (Ok k) = RowsLeft o ls rs after k
Turns o ls rs after (Err Clash) = unify_rows (bound o) ls rs ≡ none
Turns o ls rs after (Err (Bind k x a)) = BindingDue o ls rs after k x a

-- a turn with these rows to be unified, of a stack of height h
abbrev pub RowsTurned : {nodes state before : List ℕ} {n h : ℕ} → Work nodes state before n h → RTerms → RTerms → List ℕ → Turn → Type 0
RowsTurned {nodes} {state} {before} {n} {h} w ls rs after t = SameMarks before after × Turns (over w) ls rs after t

-- what `turn` promises of n bindings and a stack of height h
abbrev pub TurnGives : {nodes state before : List ℕ} {n h : ℕ} → Work nodes state before n h → List ℕ → Turn → Type 0
TurnGives {nodes} {state} {before} {n} {h} w after t = RowsTurned w (rows_of w.ss nodes (left_at before) h) (rows_of w.ss nodes (right_at before) h) after t

-- the same with two terms before the rows
abbrev pub TermsTurned : {nodes state before : List ℕ} {n h : ℕ} → Work nodes state before n h → At → At → List ℕ → Turn → Type 0
TermsTurned {nodes} {state} {before} {n} {h} w p q after t = RowsTurned w (rcons (term_at w.ss nodes p.node p.copy) (rows_of w.ss nodes (left_at before) h))
    (rcons (term_at w.ss nodes q.node q.copy) (rows_of w.ss nodes (right_at before) h)) after t

-- a term that is dereferenced
pub record Dereferenced (ss : List Symbol) (nodes state : List ℕ) (top : ℕ) (a : At) : Type 0 where
  pub node : Node ss nodes a.node
  pub copy : a.copy < copies
  pub below : a.copy ≤ top
  pub stops : get_or nodes a.node 0 < first_name → cell_at state (cell_of a.copy (get_or nodes a.node 0)) ≡ 0

-- Two dereferenced terms before the rows of a stack: if it is high, at least one was reached by way of a bound cell, and from the second pair on both stand
-- strictly inside the wholes of the top pair.
pub record Crossed (nodes scratch : List ℕ) (h : ℕ) (p q : At) : Type 0 where
  pub state : List ℕ
  pub n : ℕ
  pub work : Work nodes state scratch n h
  pub some : 1 ≤ h
  pub left : Dereferenced work.ss nodes state work.top p
  pub right : Dereferenced work.ss nodes state work.top q
  pub via : ℕ
  pub via_is : big_pairs ≤ h → get_or nodes p.node 0 ≡ get_or nodes q.node 0 → first_name ≤ get_or nodes p.node 0
      → OpenedByCell (bindings work.ss nodes state n) via (term_at work.ss nodes p.node p.copy) (term_at work.ss nodes q.node q.copy)
  pub inside : Inside (over work) h (left_at scratch (h - 1)) p
  pub inside_right : Inside (over work) h (right_at scratch (h - 1)) q
  pub closes : ClosesWith (over work) scratch h (term_at work.ss nodes p.node p.copy) (term_at work.ss nodes q.node q.copy)

-- The same with two names that are the same.
pub record Openable (scratch : List ℕ) (h : ℕ) (p q : At) : Type 0 where
  pub nodes : List ℕ
  pub crossed : Crossed nodes scratch h p q
  pub name : first_name ≤ get_or nodes p.node 0
  pub same : get_or nodes p.node 0 ≡ get_or nodes q.node 0

abbrev pub PairTurned : {nodes before : List ℕ} {h : ℕ} {p q : At} → Crossed nodes before h p q → List ℕ → Turn → Type 0
PairTurned {nodes} {before} {h} {p} {q} g after t = TermsTurned g.work p q after t

-- Two terms before the rows of a stack, a variable on at least one side if it is high; from the second pair on both stand strictly inside the wholes of the
-- top pair.
pub record Crossable (nodes state scratch : List ℕ) (h : ℕ) (p q : At) : Type 0 where
  pub n : ℕ
  pub work : Work nodes state scratch n h
  pub some : 1 ≤ h
  pub left : Node work.ss nodes p.node
  pub right : Node work.ss nodes q.node
  pub copy : p.copy < copies
  pub copy_right : q.copy < copies
  pub below : p.copy ≤ work.top
  pub below_right : q.copy ≤ work.top
  pub variable : big_pairs ≤ h → (get_or nodes p.node 0 < first_name) ⊎ (get_or nodes q.node 0 < first_name)
  pub inside : Inside (over work) h (left_at scratch (h - 1)) p
  pub inside_right : Inside (over work) h (right_at scratch (h - 1)) q
  pub closes : ClosesWith (over work) scratch h (term_at work.ss nodes p.node p.copy) (term_at work.ss nodes q.node q.copy)

abbrev pub Crosses : {nodes state before : List ℕ} {h : ℕ} {p q : At} → Crossable nodes state before h p q → List ℕ → Turn → Type 0
Crosses {nodes} {state} {before} {h} {p} {q} g after t = TermsTurned g.work p q after t

-- The top pair of a stack, its rows moved on to where they first have a variable on a side, or large terms.
pub record Meetable (nodes state scratch : List ℕ) (h : ℕ) (l r : Side) : Type 0 where
  pub n : ℕ
  pub work : Work nodes state scratch n h
  pub some : 1 ≤ h
  pub left_is : l ≡ record (left_at scratch (h - 1)) { at = l.at }
  pub right_is : r ≡ record (right_at scratch (h - 1)) { at = r.at }
  pub meets : StopsAt work.ss nodes (left_at scratch (h - 1)).at (end_of nodes (left_at scratch (h - 1)))
      (right_at scratch (h - 1)).at (end_of nodes (right_at scratch (h - 1))) l.at r.at
  pub variable : big_pairs ≤ h → (get_or nodes l.at 0 < first_name) ⊎ (get_or nodes r.at 0 < first_name)
  pub closes : ClosesWith (over work) scratch h no_term no_term

-- The top pair of a stack, what is left of whose rows is the same.
pub record Passable (scratch : List ℕ) (h : ℕ) (l r : Side) : Type 0 where
  pub nodes : List ℕ
  pub state : List ℕ
  pub n : ℕ
  pub work : Work nodes state scratch n h
  pub some : 1 ≤ h
  pub left_is : l ≡ left_at scratch (h - 1)
  pub right_is : r ≡ right_at scratch (h - 1)
  pub walks : Walks work.ss nodes l.at (end_of nodes l) r.at (end_of nodes r) (Ok tt)
  pub closes : ClosesWith (over work) scratch h no_term no_term

-- the words where the rows of the top pair of a stack are moved on to these places
abbrev pub moved_to : List ℕ → ℕ → ℕ → ℕ → List ℕ
moved_to scratch h i j = pair_words scratch (h - 1) (record (left_at scratch (h - 1)) { at = i }) (record (right_at scratch (h - 1)) { at = j })

-- n bindings, and a stack that is not empty
pub record Turnable (nodes state scratch : List ℕ) (h : ℕ) : Type 0 where
  pub n : ℕ
  pub work : Work nodes state scratch n h
  pub some : 1 ≤ h
  pub closes : ClosesWith (over work) scratch h no_term no_term

-- ---- the whole

-- what is answered: these bindings, or none
unfoldable pub answered : Bool → List Binding → Option (List Binding)
answered true b = some b
answered false b = none

-- n bindings, one pair on the stack, no cell marked
pub record Solvable (nodes state scratch : List ℕ) (n : ℕ) : Type 0 where
  pub work : Work nodes state scratch n 1
  pub closes : ClosesWith (over work) scratch 1 no_term no_term
  pub clean : Clean scratch

pub record Solved {nodes before scratch : List ℕ} {n : ℕ} (g : Solvable nodes before scratch n) (after later : List ℕ) (r : UnifyAnswer) : Type 0 where
  pub grows : n ≤ r.trail
  pub undone : r.equal ≡ false → r.trail ≡ n
  pub store : Store g.work.ss nodes after r.trail
  pub within : WithinCopies g.work.top after r.trail
  pub keeps : BindingsKept n before after
  pub clean : Clean later
  pub long : length later ≡ length scratch
  pub answer : unify_rows (bindings g.work.ss nodes before n) (rows_of g.work.ss nodes (left_at scratch) 1) (rows_of g.work.ss nodes (right_at scratch) 1)
      ≡ answered r.equal (bindings g.work.ss nodes after r.trail)

-- Two run-time terms in a store of n bindings, of copies 0 to top; scratch words with room, no cell marked.
pub record Unifiable (nodes state scratch : List ℕ) (p q : At) (n : ℕ) : Type 0 where
  pub ss : List Symbol
  pub top : ℕ
  pub store : Store ss nodes state n
  pub within : WithinCopies top state n
  pub roomy : Roomy scratch
  pub clean : Clean scratch
  pub left : Node ss nodes p.node
  pub right : Node ss nodes q.node
  pub copy : p.copy < copies
  pub copy_right : q.copy < copies
  pub below : p.copy ≤ top
  pub below_right : q.copy ≤ top

-- What `unify` promises: the store after, with n bindings again where the terms do not unify; the entries before and the words behind the trail as they were;
-- no cell marked; and the bindings that the words then mean are those of the definition's `unify`, or there are none.
pub record UnifyGives {nodes before scratch : List ℕ} {p q : At} {n : ℕ} (g : Unifiable nodes before scratch p q n) (after later : List ℕ) (r : UnifyAnswer)
    : Type 0 where
  pub grows : n ≤ r.trail
  pub undone : r.equal ≡ false → r.trail ≡ n
  pub store : Store g.ss nodes after r.trail
  pub within : WithinCopies g.top after r.trail
  pub keeps : BindingsKept n before after
  pub clean : Clean later
  pub long : length later ≡ length scratch
  pub answer : (t u : Term) → TermLoaded g.ss nodes p.node t → TermLoaded g.ss nodes q.node u
      → unify (bindings g.ss nodes before n) (copied p.copy t) (copied q.copy u) ≡ answered r.equal (bindings g.ss nodes after r.trail)
