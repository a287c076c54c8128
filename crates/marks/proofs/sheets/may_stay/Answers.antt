-- `marks::sheets::may_stay` meets its contract: each way out is a law of `SheetsLaws`. Assumes nothing.
use Rattle.marks.proofs.SheetsLaws.{has-clause, stands_by}
use Rattle.marks.proofs.sheets.may_stay.Goals as goal

pub returns-then-written : goal.returns-then-written
returns-then-written c = λ d. has-clause _ c.if-written.true

pub is_seen-requires : goal.is_seen-requires
is_seen-requires c = c.requires

pub returns-else-written : goal.returns-else-written
returns-else-written c = λ d. stands_by c.if-written.false (c.is_seen.ensures d)
