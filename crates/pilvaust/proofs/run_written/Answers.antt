-- `pilvaust::run_written` meets its contract: each way out is a law of `RunLaws`. Assumes nothing.
use Rattle.pilvaust.proofs.SheetLaws.{sheet-declared}
use Rattle.pilvaust.proofs.RunLaws.{out_of_range, sheet-stops, ready_at, sheet-runs}
use native.Mathlib.Omega.{arith}
use mathlib.Core.Bool.{not}
use mathlib.Core.Path.{ap, refl}
use Rattle.std.proofs.lemmas.Result.{err_from_is_err_and}
use Rattle.std.proofs.Common.{Err}
use Rattle.syntax.specs.declared.Text.TheVariants.{Neither}
use Rattle.syntax.specs.declared.Refusal.TheVariants.{Settings}
use Rattle.pilvaust.proofs.run_written.Goals as goal

pub returns-then-not-in_range : goal.returns-then-not-in_range
returns-then-not-in_range c = let both = out_of_range c.args.sheet.now c.args.goal.now c.args.asked c.in_range.result c.in_range.ensures (ap not c.if-not-in_range.true) (Err (record { text = Neither; refusal = Settings })) (refl, refl) c.args.text.now in record { is = both.0; bytes = both.1.0; text = both.1.1 }

pub invariant_of-declarations : goal.invariant_of-declarations
invariant_of-declarations c = record { stands = sheet-declared c.args.asked.stored c.args.sheet.now c.read_checked.new.declared c.read_checked.new.table c.read_checked.result c.read_checked.ensures.is c.read_checked.ensures.holds _ _ c.in_ok-counts.was }

pub read_goal_and_run-requires : goal.read_goal_and_run-requires
read_goal_and_run-requires c = ready_at c.args.sheet.now c.args.goal.now c.args.asked c.in_range.result c.in_range.ensures (ap not c.if-not-in_range.false) c.read_checked.new.declared c.read_checked.new.table c.read_checked.result c.read_checked.ensures.is c.read_checked.ensures.holds c.in_ok-counts.counts.declarations c.in_ok-counts.counts.clauses c.in_ok-counts.was (omega (arith, c.read_checked.auto.table))

pub returns-in_err-counts : goal.returns-in_err-counts
returns-in_err-counts c = let p = err_from_is_err_and c.from_residual.result c.from_residual.ensures.1 in
    let both = sheet-stops c.args.sheet.now c.args.goal.now c.args.asked c.in_range.result c.in_range.ensures (ap not c.if-not-in_range.false) c.read_checked.new.declared c.read_checked.new.table c.read_checked.result c.read_checked.ensures.is c.read_checked.ensures.holds _ _ c.in_err-counts.was (Err c.in_err-counts.field-0.0) (refl, refl) c.args.text.now in rw (p.1, p.2) (record { is = both.0; bytes = both.1.0; text = both.1.1 })

pub returns : goal.returns
returns c = let both = sheet-runs c.args.sheet.now c.args.goal.now c.args.asked c.in_range.result c.in_range.ensures (ap not c.if-not-in_range.false) c.read_checked.new.declared c.read_checked.new.table c.read_checked.result c.read_checked.ensures.is c.read_checked.ensures.holds c.in_ok-counts.counts.declarations c.in_ok-counts.counts.clauses c.in_ok-counts.was (omega (arith, c.read_checked.auto.table)) c.read_goal_and_run.result c.args.text.now c.read_goal_and_run.new.text c.read_goal_and_run.ensures in record { is = both.0; bytes = both.1.0; text = both.1.1 }
