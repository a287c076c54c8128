-- `marks::sheets::first_unwritten` meets its contract: each way out is a law of `SheetsLaws`. Assumes nothing.
use Rattle.marks.specs.Flags.{StandOnce}
use Rattle.marks.proofs.SheetsLaws.{Decides}
use Rattle.marks.proofs.sheets.first_unwritten.Given as goal

abbrev pub invariant-loop-i : goal.invariant-loop-i
invariant-loop-i l =
    (w : StandOnce l.declarations l.table l.clauses) → Decides w l.i
