-- `formatter::bodies::append_body` meets its contract. The invariant: what is appended is the body but for the items ahead. Assumes nothing.
use Prim.Native.Nat.{◌+◌, ◌-◌, ◌*◌, ◌≤◌}
use lib.ListN.{length}
use Rattle.marks.specs.InTables.{BodyIn}
use Rattle.formatter.specs.Tables.{word_room}
use Rattle.formatter.proofs.BodyLaws.{ItemsAhead, BodyWritten}
use Rattle.formatter.proofs.bodies.append_body.Given as goal

abbrev pub invariant-loop : goal.invariant-loop
invariant-loop l =
    (l.written.at + word_room * (length l.read.table.now - l.place) ≤ l.at + word_room * (length l.read.table.now - l.p))
    × ((w : BodyIn l.read l.p l.items)
    → (a : ItemsAhead l.read.text.now l.read.table.now l.place l.counter l.items) × BodyWritten a w.body l.written.started l.fn.out l.at l.out l.written.at)
