use Prim.Native.Nat.{ℕ, ◌+◌, ◌≤◌, ◌<◌}
use native.Mathlib.Omega.{arith}
use mathlib.Core.Path.{◌≡◌, refl}
use mathlib.Core.List.{List}
use lib.ListN.{length, length-set}
use Rattle.syntax.specs.Words.{program_words}
use Rattle.load.specs.Flat.{number_of}
use Rattle.run_layout.specs.Regions.{nodes_words}
use Rattle.load.proofs.NodesWriting.{length_two}
use Rattle.load.proofs.Runs.{Running, run-begin, turn, run_end}
use Rattle.load.proofs.nodes.copying.copy_nodes.Goals as goal

-- the node that is copied stands in the table, and there is room for its copy
room : {table : List ℕ} {stop text : ℕ} {before : List ℕ} {at : ℕ} {whole nodes : List ℕ} {p q : ℕ} {A : Type 0} → p < stop → Running table stop text before at whole nodes p q → length nodes ≡ length before
    → (length table ≤ program_words) × ((nodes_words ≤ length before) × A) → (length table ≤ program_words) × ((p + 3 ≤ length table) × (q + 2 ≤ length nodes))
room {table} {stop} {text} {before} {at} {whole} {nodes} {p} {q} l r long pre =
    let i : p + 3 ≤ length table = (turn table stop text before at whole nodes p q l r).inside in
    (pre.0, (i, omega (arith, r.near, pre.0, pre.1.0)))

pub loop-p-init : goal.loop-p-init
loop-p-init c = (refl, λ w. run-begin c.args.table.now c.args.from c.args.stop (number_of c.args.source) c.args.nodes.now c.args.at c.requires.room.1.1 w)

pub name_word-requires : goal.name_word-requires
name_word-requires c = (turn _ _ _ _ _ _ _ _ _ c.loop-p-test.true (c.loop-p.invariant.1 c.requires.run_at)).fits

pub offset_bounds-table-p : goal.offset_bounds-table-p
offset_bounds-table-p c = omega (arith, room c.loop-p-test.true (c.loop-p.invariant.1 c.requires.run_at) c.loop-p.invariant.0 c.requires.room)

pub bounds-table-p : goal.bounds-table-p
bounds-table-p c = omega (arith, room c.loop-p-test.true (c.loop-p.invariant.1 c.requires.run_at) c.loop-p.invariant.0 c.requires.room)

pub overflow_add-p : goal.overflow_add-p
overflow_add-p c = omega (arith, room c.loop-p-test.true (c.loop-p.invariant.1 c.requires.run_at) c.loop-p.invariant.0 c.requires.room)

pub offset_bounds-table-p-in-loop-p : goal.offset_bounds-table-p-in-loop-p
offset_bounds-table-p-in-loop-p c = omega (arith, room c.loop-p-test.true (c.loop-p.invariant.1 c.requires.run_at) c.loop-p.invariant.0 c.requires.room)

pub bounds-table-p-in-loop-p : goal.bounds-table-p-in-loop-p
bounds-table-p-in-loop-p c = omega (arith, room c.loop-p-test.true (c.loop-p.invariant.1 c.requires.run_at) c.loop-p.invariant.0 c.requires.room)

pub offset_bounds-nodes-q : goal.offset_bounds-nodes-q
offset_bounds-nodes-q c = omega (arith, room c.loop-p-test.true (c.loop-p.invariant.1 c.requires.run_at) c.loop-p.invariant.0 c.requires.room)

pub bounds-nodes-q : goal.bounds-nodes-q
bounds-nodes-q c = omega (arith, room c.loop-p-test.true (c.loop-p.invariant.1 c.requires.run_at) c.loop-p.invariant.0 c.requires.room)

pub offset_bounds-table-p-in-loop-p-2 : goal.offset_bounds-table-p-in-loop-p-2
offset_bounds-table-p-in-loop-p-2 c = omega (arith, room c.loop-p-test.true (c.loop-p.invariant.1 c.requires.run_at) c.loop-p.invariant.0 c.requires.room)

pub bounds-table-p-in-loop-p-2 : goal.bounds-table-p-in-loop-p-2
bounds-table-p-in-loop-p-2 c = omega (arith, room c.loop-p-test.true (c.loop-p.invariant.1 c.requires.run_at) c.loop-p.invariant.0 c.requires.room)

pub overflow_add-nodes : goal.overflow_add-nodes
overflow_add-nodes c = omega (arith, room c.loop-p-test.true (c.loop-p.invariant.1 c.requires.run_at) c.loop-p.invariant.0 c.requires.room)

pub offset_bounds-nodes-q-in-loop-p : goal.offset_bounds-nodes-q-in-loop-p
offset_bounds-nodes-q-in-loop-p c = omega (arith, room c.loop-p-test.true (c.loop-p.invariant.1 c.requires.run_at) c.loop-p.invariant.0 c.requires.room)

pub bounds-nodes-q-in-loop-p : goal.bounds-nodes-q-in-loop-p
bounds-nodes-q-in-loop-p c = omega (arith, room c.loop-p-test.true (c.loop-p.invariant.1 c.requires.run_at) c.loop-p.invariant.0 c.requires.room, length-set c.loop-p.nodes c.loop-p.q c.name_word.result)

pub overflow_add-q : goal.overflow_add-q
overflow_add-q c = omega (arith, room c.loop-p-test.true (c.loop-p.invariant.1 c.requires.run_at) c.loop-p.invariant.0 c.requires.room)

pub loop-p-preserved : goal.loop-p-preserved
loop-p-preserved c = (
  length_two c.loop-p.nodes c.args.nodes.now c.loop-p.q c.name_word.result (c.loop-p.q + 1) c.two_of_three.result c.loop-p.invariant.0,
  λ w. (turn _ _ _ _ _ _ _ _ _ c.loop-p-test.true (c.loop-p.invariant.1 w)).next c.name_word.result c.two_of_three.result c.name_word.ensures c.two_of_three.ensures,
)

pub returns : goal.returns
returns c = λ w. run_end _ _ _ _ _ _ _ _ _ c.loop-p-test.false (c.loop-p.invariant.1 w)

-- behind the last node
pub returns-2 : goal.returns-2
returns-2 c = λ w. run_end _ _ _ _ _ _ _ _ _ (omega arith)
    ((turn _ _ _ _ _ _ _ _ _ c.loop-p-test.true (c.loop-p.invariant.1 w)).next c.name_word.result c.two_of_three.result c.name_word.ensures c.two_of_three.ensures)
