-- `pilvaust::running::read_goal_and_run` meets its contract: each way out is a law of `GoalLaws`. Assumes nothing.
use Rattle.pilvaust.proofs.GoalLaws.{goal-stops, goal-at, goal-programmed, fault-stops, goal-runs}
use native.Mathlib.Omega.{arith}
use mathlib.Core.Path.{refl}
use Rattle.std.proofs.lemmas.Result.{err_from_is_err_and}
use Rattle.pilvaust.proofs.running.read_goal_and_run.Goals as goal

pub check_goal-requires : goal.check_goal-requires
check_goal-requires c = goal-at c.args.declarations.text.now c.args.declarations.words.now c.args.declarations.count c.args.table.now c.args.k c.args.goal.now c.read_goal_text.new.table c.in_ok-read.read c.in_ok-read.ensures c.requires

pub check_goal_and_run-ran-requires : goal.check_goal_and_run-ran-requires
check_goal_and_run-ran-requires c = record { variables_in_bounds = omega (arith, c.read_goal_text.auto.table); programmed = goal-programmed c.args.declarations.text.now c.args.declarations.words.now c.args.declarations.count c.args.table.now c.args.k c.args.goal.now c.read_goal_text.new.table c.in_ok-read.read c.in_ok-read.ensures (omega (arith, c.read_goal_text.auto.table)) c.requires }

pub returns-in_err-read : goal.returns-in_err-read
returns-in_err-read c = let p = err_from_is_err_and c.from_residual.result c.from_residual.ensures.1 in
    rw (p.1, p.2) (λ w. goal-stops c.args.declarations.text.now c.args.declarations.words.now c.args.declarations.count c.args.table.now c.args.k c.args.goal.now c.read_goal_text.new.table c.args.asked.allowance c.args.asked.wanted _ c.in_err-read.ensures _ (refl, refl) c.args.text.now w)

pub returns-in-Ok : goal.returns-in-Ok
returns-in-Ok c = λ w. goal-runs c.args.declarations.text.now c.args.declarations.words.now c.args.declarations.count c.args.table.now c.args.k c.args.goal.now c.read_goal_text.new.table c.args.asked.allowance c.args.asked.wanted c.in_ok-read.read c.in_ok-read.ensures c.check_goal.result c.check_goal.ensures c.in-Ok.is (omega (arith, c.read_goal_text.auto.table)) c.check_goal_and_run-ran.result c.args.text.now c.check_goal_and_run-ran.new.text c.check_goal_and_run-ran.ensures c.run_ended.result c.run_ended.ensures w

pub returns-in-Err : goal.returns-in-Err
returns-in-Err c = λ w. fault-stops c.args.declarations.text.now c.args.declarations.words.now c.args.declarations.count c.args.table.now c.args.k c.args.goal.now c.read_goal_text.new.table c.args.asked.allowance c.args.asked.wanted c.in_ok-read.read c.in_ok-read.ensures c.check_goal.result c.check_goal.ensures c.in-Err.refusal c.in-Err.is c.goal_refused.result c.goal_refused.ensures c.args.text.now w
