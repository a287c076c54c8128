-- `formatter::declarations::append_marks` meets its contract. The invariant: what is appended are the marks but for those ahead. Assumes nothing.
use Prim.Native.Nat.{◌+◌, ◌*◌, ◌≤◌}
use mathlib.Core.Path.{◌≡◌}
use mathlib.Core.List.{List}
use lib.ListN.{length}
use Rattle.syntax.specs.Terms.{Mark}
use Rattle.syntax.specs.Words.{marks_number}
use Rattle.formatter.proofs.DeclarationLaws.{MarksAhead, MarksWritten}
use Rattle.formatter.proofs.declarations.append_marks.Given as goal

abbrev pub invariant-loop : goal.invariant-loop
invariant-loop l =
    (l.written ≤ l.at + 2 * l.counter)
    × ((l.counter ≤ l.count)
    × ((ms : List Mark) → l.marks ≡ marks_number ms → l.count ≡ length ms
    → (a : MarksAhead l.left l.counter l.count) × MarksWritten a ms l.fn.out l.at l.out l.written))
