-- What `run_written` gives, without the count of bytes.
use Rattle.std.proofs.Common.{ap, sym, ◌∙◌}
use Rattle.std.proofs.lemmas.Result.{err_from_is_err_and}
use Rattle.output.specs.Results.{run_of}
use Rattle.pilvaust.proofs.NothingOpen.{nothing-open-reported}
use Rattle.pilvaust.proofs.run.Goals as goal

pub returns : goal.returns
returns c = let e = sym (ap run_of c.in_ok-run_written.was) ∙ c.run_written.ensures.is in
    record { is = e; text = c.run_written.ensures.text; nothing_open = nothing-open-reported _ _ _ _ _ (sym e) }

pub returns-in_err-run_written : goal.returns-in_err-run_written
returns-in_err-run_written c = let p = err_from_is_err_and c.from_residual.result c.from_residual.ensures.1 in
    rw (p.1, p.2) (record { is = sym (ap run_of c.in_err-run_written.was) ∙ c.run_written.ensures.is; text = c.run_written.ensures.text; nothing_open = tt })
