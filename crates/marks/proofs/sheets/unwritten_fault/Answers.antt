-- `marks::sheets::unwritten_fault` meets its contract: each way out is a law of `SheetsLaws`. Assumes nothing.
use Rattle.marks.proofs.SheetsLaws.{passed_over, asked}
use Rattle.marks.proofs.sheets.unwritten_fault.Goals as goal

pub returns-then-stored : goal.returns-then-stored
returns-then-stored c = λ w. passed_over c.if-stored.true w.stands.sheet

pub returns : goal.returns
returns c = λ w. asked c.if-stored.false w.stands.sheet (c.first_unwritten.ensures w)
