-- `marks::undeclared::undeclared_body` meets its contract. The invariant: what is left of the items gives the answer of the whole (`Left`). Assumes nothing.
use Prim.Native.Nat.{◌+◌, ◌≤◌}
use Rattle.mode_rules.specs.Modes.{undeclared_body}
use Rattle.marks.specs.InTables.{DeclarationsIn, BodyIn}
use Rattle.marks.proofs.Items.{Left}
use Rattle.marks.proofs.undeclared.undeclared_body.Given as goal

abbrev pub invariant-loop-item : goal.invariant-loop-item
invariant-loop-item l =
    (l.literal ≤ l.at + 1) × ((d : DeclarationsIn l.check.declarations) (w : BodyIn l.check.read l.p l.items) → Left d.list l.check.clause l.check.read.text.now l.check.read.table.now l.at l._item l.items l.literal (undeclared_body d.list l.check.clause 1 w.body))
