-- `pilvaust::read_goal` meets its contract: each way out is a law of `ReadingEntries`. Assumes nothing.
use Rattle.std.proofs.Common.{ap, sym, ◌∙◌}
use Rattle.std.proofs.lemmas.Result.{err_from_is_err_and}
use Rattle.pilvaust.proofs.ReadingEntries.{verdict_of, goal-verdict}
use Rattle.pilvaust.proofs.read_goal.Goals as goal

pub returns-in_err-read_goal_text : goal.returns-in_err-read_goal_text
returns-in_err-read_goal_text c = let p = err_from_is_err_and c.from_residual.result c.from_residual.ensures.1 in
    rw (p.1, p.2)
    (sym (ap verdict_of c.in_err-read_goal_text.was)
    ∙ goal-verdict c.args.goal.now c.read_goal_text.new.table c.read_goal_text.result c.read_goal_text.ensures)

pub returns : goal.returns
returns c =
    sym (ap verdict_of c.in_ok-read_goal_text.was)
    ∙ goal-verdict c.args.goal.now c.read_goal_text.new.table c.read_goal_text.result c.read_goal_text.ensures
