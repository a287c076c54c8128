-- `parse::sheets::items::read_goal` meets its contract: each way out is a law of `SheetLaws`. Assumes nothing.
use Rattle.std.proofs.lemmas.Result.{err_from_is_err_and}
use Rattle.parse.proofs.Starts.{kind-eq, kind-not_eq}
use Rattle.parse.proofs.SheetLaws.{goal-ready, goal-fault, goal-end, goal-wrong}
use Rattle.parse.proofs.sheets.items.read_goal.Goals as goal

pub read_whole-requires : goal.read_whole-requires
read_whole-requires c = goal-ready _ _ _ c.start-st.ensures.is c.start-st.ensures.stands c.requires.variables_in_bounds.0 c.requires.variables_in_bounds.1

pub returns-in_err-r : goal.returns-in_err-r
returns-in_err-r c =
    let p = err_from_is_err_and c.from_residual.result c.from_residual.ensures.1 in
    rw (p.1, p.2) (goal-fault c.args.s.now c.args.table.now c.read_whole.new.table c.start-st.result c.start-st.ensures.is _ c.in_err-r.ensures)

pub returns-then-eq : goal.returns-then-eq
returns-then-eq c = goal-end c.args.s.now c.args.table.now c.read_whole.new.table c.start-st.result c.start-st.ensures.is _ c.in_ok-r.ensures (kind-eq c.if-eq.ensures)

pub returns : goal.returns
returns c = goal-wrong c.args.s.now c.args.table.now c.read_whole.new.table c.start-st.result c.start-st.ensures.is _ c.in_ok-r.ensures c.wrong.result (kind-not_eq c.if-eq.ensures) c.wrong.ensures
