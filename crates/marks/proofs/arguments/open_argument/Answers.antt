-- `marks::arguments::open_argument` meets its contract. Assumes nothing.
use native.Mathlib.Omega.{arith}
use Rattle.marks.proofs.Places.{node-inside, past-ends}
use Rattle.marks.proofs.Judging.{judged-term, judged-room, judged-number, mark-judged, first-judged}
use Rattle.marks.proofs.arguments.open_argument.Goals as goal

pub overflow_add-from : goal.overflow_add-from
overflow_add-from c = omega (arith, judged-room c.requires.judged_at)

pub past-stop-requires : goal.past-stop-requires
past-stop-requires c = node-inside (judged-term c.requires.judged_at)

pub first_open-requires : goal.first_open-requires
first_open-requires c = let args = c.args in record {
  marked_at = mark-judged args.table.now args.p args.marks c.past-stop.result (past-ends c.past-stop.ensures) c.requires.mark_is.0 c.requires.mark_is.1 c.requires.judged_at;
  stop_in_bounds = judged-number args.table.now args.p args.marks c.past-stop.result (past-ends c.past-stop.ensures) c.requires.judged_at;
}

pub returns : goal.returns
returns c = let args = c.args in first-judged args.table.now args.p args.marks c.past-stop.result (past-ends c.past-stop.ensures) args.known c.first_open.ensures
