-- `marks::arguments::marked_test` meets its contract. Assumes nothing.
use Rattle.marks.proofs.ArgumentsMarking.{other-passes, same-tested}
use Rattle.marks.proofs.arguments.marked_test.Goals as goal

pub returns-then-first_mark-mark : goal.returns-then-first_mark-mark
returns-then-first_mark-mark c = other-passes c.args.known c.args.marks c.first_mark.ensures c.if-first_mark-mark.true

pub returns : goal.returns
returns c = same-tested c.args.known c.args.marks c.first_mark.ensures c.if-first_mark-mark.false c.ground_test.ensures
