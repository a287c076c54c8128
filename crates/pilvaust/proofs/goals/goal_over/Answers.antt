-- `pilvaust::goals::goal_over` meets its contract: each way out is a law of `Checking`. Assumes nothing.
use Rattle.std.proofs.lemmas.Result.{err_from_is_err_and}
use Rattle.pilvaust.proofs.Checking.{over-refused, goal-stands-at, over-fine, over-fault}
use Rattle.pilvaust.proofs.ReadingEntries.{goal-held}
use Rattle.pilvaust.proofs.goals.goal_over.Goals as goal

pub check_goal-requires : goal.check_goal-requires
check_goal-requires c = goal-stands-at c.args.declarations.text.now c.args.declarations.words.now c.args.declarations.count c.args.k c.args.goal.now c.read_goal_text.new.table c.in_ok-read.read c.in_ok-read.ensures c.requires.over

pub returns-in_err-read : goal.returns-in_err-read
returns-in_err-read c = let p = err_from_is_err_and c.from_residual.result c.from_residual.ensures.1 in
    rw (p.1, p.2) (record { is = λ w. over-refused c.args.declarations.text.now c.args.declarations.words.now c.args.declarations.count c.args.k c.args.goal.now c.read_goal_text.new.table _ c.in_err-read.ensures w; holds = goal-held c.args.goal.now c.read_goal_text.new.table c.read_goal_text.result c.read_goal_text.ensures })

pub returns-in-Ok : goal.returns-in-Ok
returns-in-Ok c = record { is = λ w. over-fine c.args.declarations.text.now c.args.declarations.words.now c.args.declarations.count c.args.k c.args.goal.now c.read_goal_text.new.table c.in_ok-read.read c.in_ok-read.ensures c.check_goal.result c.check_goal.ensures c.in-Ok.is w; holds = goal-held c.args.goal.now c.read_goal_text.new.table c.read_goal_text.result c.read_goal_text.ensures }

pub returns-in-Err : goal.returns-in-Err
returns-in-Err c = record { is = λ w. over-fault c.args.declarations.text.now c.args.declarations.words.now c.args.declarations.count c.args.k c.args.goal.now c.read_goal_text.new.table c.in_ok-read.read c.in_ok-read.ensures c.check_goal.result c.check_goal.ensures c.in-Err.refusal c.in-Err.is w; holds = goal-held c.args.goal.now c.read_goal_text.new.table c.read_goal_text.result c.read_goal_text.ensures }
