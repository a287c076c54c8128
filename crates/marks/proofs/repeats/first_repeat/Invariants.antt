-- `marks::repeats::first_repeat` meets its contract: each way out is a law of `RepeatsLaws`. Assumes nothing.
use mathlib.Core.Path.{◌≡◌}
use mathlib.Core.List.{[]}
use lib.ListN.{take, drop}
use Rattle.syntax.specs.Reading.{first_repeat}
use Rattle.marks.specs.InTables.{DeclarationsIn}
use Rattle.marks.proofs.repeats.first_repeat.Given as goal

abbrev pub invariant-loop-i : goal.invariant-loop-i
invariant-loop-i l =
    (w : DeclarationsIn l.declarations) → first_repeat [] w.list ≡ first_repeat (take l.i w.list) (drop l.i w.list)
