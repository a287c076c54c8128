-- `pilvaust::check_workings` meets its contract: each way out is a law of `WorkingsLaws`. Assumes nothing.
use Rattle.pilvaust.proofs.SheetLaws.{sheet-declared}
use Rattle.pilvaust.proofs.WorkingsLaws.{sheet-refused-told, workings-ready, sheet-told}
use native.Mathlib.Omega.{arith}
use mathlib.Core.Bool.{false}
use Rattle.std.proofs.lemmas.Result.{err_from_is_err_and}
use Rattle.derivations.proofs.Outcomes.{answer-right}
use Rattle.pilvaust.proofs.check_workings.Goals as goal

pub invariant_of-declarations : goal.invariant_of-declarations
invariant_of-declarations c = record { stands = sheet-declared false c.args.sheet.now c.read_checked.new.declared c.read_checked.new.table c.read_checked.result c.read_checked.ensures.is c.read_checked.ensures.holds _ _ c.in_ok-read.was }

pub read_goal_and_check-requires : goal.read_goal_and_check-requires
read_goal_and_check-requires c = workings-ready c.args.sheet.now c.read_checked.new.declared c.read_checked.new.table c.args.goal.now c.args.workings.now c.read_checked.result c.read_checked.ensures.is c.read_checked.ensures.holds _ _ c.in_ok-read.was (omega (arith, c.read_checked.auto.table))

pub returns-in_err-read : goal.returns-in_err-read
returns-in_err-read c = let p = err_from_is_err_and c.from_residual.result c.from_residual.ensures.1 in
    let t = sheet-refused-told c.args.sheet.now c.read_checked.new.declared c.read_checked.new.table c.args.goal.now c.args.workings.now c.read_checked.result c.read_checked.ensures.is c.read_checked.ensures.holds _ _ c.in_err-read.was c.args.text.now in
    rw (p.1, p.2) (record { is = t.is; text = t.text_is; right = answer-right _ _ _ _ _ _ t.is t.text_is })

pub returns : goal.returns
returns c = let t = sheet-told c.args.sheet.now c.read_checked.new.declared c.read_checked.new.table c.args.goal.now c.args.workings.now c.read_checked.result c.read_checked.ensures.is c.read_checked.ensures.holds _ _ c.in_ok-read.was (omega (arith, c.read_checked.auto.table)) _ _ _ c.read_goal_and_check.ensures in record { is = t.is; text = t.text_is; right = answer-right _ _ _ _ _ _ t.is t.text_is }
