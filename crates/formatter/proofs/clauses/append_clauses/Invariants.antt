-- `formatter::clauses::append_clauses` meets its contract. The invariant: what is appended are the clauses but for those ahead. Assumes nothing.
use Prim.Native.Nat.{◌+◌, ◌-◌, ◌*◌, ◌≤◌}
use lib.ListN.{length}
use Rattle.formatter.specs.Tables.{ClausesIn, word_room}
use Rattle.formatter.proofs.ClauseLaws.{ClausesAhead, ClausesWritten}
use Rattle.formatter.proofs.clauses.append_clauses.Given as goal

abbrev pub invariant-loop : goal.invariant-loop
invariant-loop l =
    (l.written + word_room * (length l.read.table.now - l.place) ≤ l.at + word_room * length l.read.table.now)
    × ((w : ClausesIn l.read l.clauses)
    → (a : ClausesAhead l.read.text.now l.read.table.now l.place l.counter l.clauses) × ClausesWritten a w.list l.fn.out l.at l.out l.written)
