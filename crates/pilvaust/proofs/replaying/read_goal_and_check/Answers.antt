use Rattle.pilvaust.proofs.GoalLaws.{goal-at, goal-programmed}
use Rattle.pilvaust.proofs.WorkingsLaws.{unread-told, unfit-told, goal-told}
use native.Mathlib.Omega.{arith}
use Rattle.std.proofs.lemmas.Result.{err_from_is_err_and}
use Rattle.pilvaust.proofs.replaying.read_goal_and_check.Goals as goal

pub check_goal-requires : goal.check_goal-requires
check_goal-requires c = goal-at c.args.declarations.text.now c.args.declarations.words.now c.args.declarations.count c.args.table.now c.args.k c.args.goal.now c.read_goal_text.new.table c.in_ok-read.read c.in_ok-read.ensures c.requires

pub check_goal_workings-requires : goal.check_goal_workings-requires
check_goal_workings-requires c =
    record {
      variables_in_bounds = omega (arith, c.read_goal_text.auto.table);
      programmed = goal-programmed c.args.declarations.text.now c.args.declarations.words.now c.args.declarations.count c.args.table.now c.args.k c.args.goal.now c.read_goal_text.new.table c.in_ok-read.read c.in_ok-read.ensures (omega (arith, c.read_goal_text.auto.table)) c.requires;
    }

pub returns-in_err-read : goal.returns-in_err-read
returns-in_err-read c = let p = err_from_is_err_and c.from_residual.result c.from_residual.ensures.1 in
    rw (p.1, p.2) (λ w. unread-told c.args.declarations.text.now c.args.declarations.words.now c.args.declarations.count c.args.table.now c.args.k c.args.goal.now c.read_goal_text.new.table c.args.workings.now _ c.in_err-read.ensures c.args.text.now w)

pub returns-in-Ok : goal.returns-in-Ok
returns-in-Ok c = λ w. goal-told c.args.declarations.text.now c.args.declarations.words.now c.args.declarations.count c.args.table.now c.args.k c.args.goal.now c.read_goal_text.new.table c.args.workings.now c.in_ok-read.read c.in_ok-read.ensures c.check_goal.result c.check_goal.ensures c.in-Ok.is (omega (arith, c.read_goal_text.auto.table)) c.args.text.now c.check_goal_workings.new.text c.check_goal_workings.result c.check_goal_workings.ensures w

pub returns-in-Err : goal.returns-in-Err
returns-in-Err c = λ w. unfit-told c.args.declarations.text.now c.args.declarations.words.now c.args.declarations.count c.args.table.now c.args.k c.args.goal.now c.read_goal_text.new.table c.args.workings.now c.in_ok-read.read c.in_ok-read.ensures c.check_goal.result c.check_goal.ensures c.in-Err.refusal c.in-Err.is c.args.text.now w
