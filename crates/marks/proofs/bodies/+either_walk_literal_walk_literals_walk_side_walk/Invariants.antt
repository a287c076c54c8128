-- The four functions of `marks::bodies` that walk along literals meet their contracts. Each is measured by the words from its place on. Assumes nothing.
use Prim.Native.Nat.{◌≤◌, ◌+◌, ◌-◌, ◌*◌}
use lib.ListN.{length}
use Rattle.syntax.specs.Terms.{literals_of}
use Rattle.syntax.specs.Words.{body_words}
use Rattle.mode_rules.specs.Modes.{body_fault}
use Rattle.marks.specs.InTables.{DeclarationsIn, BodyIn}
use Rattle.marks.proofs.Walking.{Ahead}
use Rattle.marks.proofs.bodies.+either_walk_literal_walk_literals_walk_side_walk.Given as goal

abbrev pub decreases-either_walk : goal.decreases-either_walk
decreases-either_walk l = 4 * (length l.check.read.table.now - l.p) + 1

abbrev pub decreases-literal_walk : goal.decreases-literal_walk
decreases-literal_walk l = 4 * (length l.check.read.table.now - l.p) + 2

abbrev pub decreases-literals_walk : goal.decreases-literals_walk
decreases-literals_walk l = 4 * (length l.check.read.table.now - l.p) + 3

abbrev pub decreases-side_walk : goal.decreases-side_walk
decreases-side_walk l = 4 * (length l.check.read.table.now - l.p)

abbrev pub invariant-literals_walk-loop-i : goal.invariant-literals_walk-loop-i
invariant-literals_walk-loop-i l =
    (l.i ≤ l.items) × (l.p ≤ l.at) × (l.number ≤ l.at + 1) × ((d : DeclarationsIn l.check.declarations) (w : BodyIn l.check.read l.p l.items)
    → Ahead d.list l.check.clause l.check.read.text.now l.check.read.table.now l.at l.i l.items l.number l.flags (body_fault d.list l.check.clause l.literal l.initial.flags w.body) (l.p + length (body_words w.body)) (literals_of w.body + l.literal))

abbrev pub decreases-literals_walk-loop-i : goal.decreases-literals_walk-loop-i
decreases-literals_walk-loop-i l =
    l.items - l.i
