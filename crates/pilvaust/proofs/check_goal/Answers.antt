-- `pilvaust::check_goal` meets its contract: each way out is a law of `Checking`. Assumes nothing.
use Rattle.pilvaust.proofs.Checking.{both-refused, over-at, over-declarations, both-answered}
use mathlib.Core.Path.{sym, ◌∙◌}
use Rattle.std.proofs.lemmas.Result.{err_from_is_err_and}
use native.Mathlib.Omega.{arith}
use Rattle.pilvaust.proofs.check_goal.Goals as goal

pub invariant_of-declarations : goal.invariant_of-declarations
invariant_of-declarations c = record { stands = over-declarations (over-at c.args.sheet.now c.read_checked.new.declared c.read_checked.new.table c.args.goal.now c.read_checked.result c.read_checked.ensures.is c.read_checked.ensures.holds c.in_ok-counts.counts.declarations c.in_ok-counts.counts.clauses c.in_ok-counts.was) }

pub goal_over-requires : goal.goal_over-requires
goal_over-requires c = record { over = over-at c.args.sheet.now c.read_checked.new.declared c.read_checked.new.table c.args.goal.now c.read_checked.result c.read_checked.ensures.is c.read_checked.ensures.holds c.in_ok-counts.counts.declarations c.in_ok-counts.counts.clauses c.in_ok-counts.was; sheet_words_in_bounds = omega (arith, c.read_checked.auto.table) }

pub returns-in_err-counts : goal.returns-in_err-counts
returns-in_err-counts c = let p = err_from_is_err_and c.from_residual.result c.from_residual.ensures.1 in
    rw (p.1, p.2) (sym c.in_err-counts.was ∙ both-refused c.args.sheet.now c.read_checked.new.declared c.read_checked.new.table c.args.goal.now c.read_checked.result c.read_checked.ensures.is c.read_checked.ensures.holds _ _ c.in_err-counts.was)

pub returns : goal.returns
returns c = both-answered c.args.sheet.now c.read_checked.new.declared c.read_checked.new.table c.args.goal.now c.read_checked.result c.read_checked.ensures.is c.read_checked.ensures.holds c.in_ok-counts.counts.declarations c.in_ok-counts.counts.clauses c.in_ok-counts.was c.goal_over.result c.goal_over.ensures.is
