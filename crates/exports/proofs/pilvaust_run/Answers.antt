use Prim.Native.Nat.{ℕ}
use mathlib.Core.Path.{◌≡◌, sym, ap, ap₂, ◌∙◌}
use mathlib.Core.List.{List}
use lib.ListN.{length}
use lib.Seq.{sets}
use Rattle.machine.specs.Runs.{RunSettings, RunOutcome, run_outcome, run_text}
use Rattle.output.specs.Numbers.{run_numbers}
use Rattle.output.specs.Numbers.{refusal_in}
use Rattle.output.specs.Results.{run_of, bytes_of}
use Rattle.exports.specs.Runs.{asking, outcome_numbers}
use Rattle.exports.proofs.pilvaust_run.Goals as goal

pub returns : goal.returns
returns c = let a = c.args in
    let asks : RunSettings = asking a.allowance a.wanted a.stored in
    let same = ap (λ (x : RunSettings). run_outcome a.sheet.now a.goal.now x (length a.text.now)) c.settings-asked.ensures in
    let ns : List ℕ = outcome_numbers (run_outcome a.sheet.now a.goal.now asks (length a.text.now)) in
    let e : ns ≡ run_numbers (run_of c.run_written.result) (bytes_of c.run_written.result) =
    sym (ap₂ run_numbers c.run_written.ensures.is c.run_written.ensures.bytes ∙ ap outcome_numbers same) in
    record { is = c.put_run.ensures.is ∙ ap refusal_in (sym e); text = c.run_written.ensures.text ∙ ap (λ (x : RunOutcome). sets a.text.now 0 (run_text x)) same; numbers = c.put_run.ensures.numbers ∙ ap (sets a.numbers.now 0) (sym e) }
