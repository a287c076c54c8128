use Prim.Native.Nat.{ℕ}
use mathlib.Core.Path.{◌≡◌, sym, ap, ap₂, ◌∙◌}
use mathlib.Core.List.{List}
use lib.ListN.{length}
use lib.Seq.{sets}
use Rattle.machine.specs.Runs.{RunSettings, RunOutcome, run_text}
use Rattle.machine.specs.Traces.{traced_outcome}
use Rattle.output.specs.Numbers.{run_numbers}
use Rattle.output.specs.Numbers.{refusal_in}
use Rattle.output.specs.Results.{run_of, bytes_of}
use Rattle.exports.specs.Runs.{asking, outcome_numbers}
use Rattle.exports.proofs.pilvaust_run_traced.Goals as goal

pub returns : goal.returns
returns c = let a = c.args in
    let asks : RunSettings = asking a.allowance a.wanted a.stored in
    let same = ap (λ (x : RunSettings). traced_outcome a.sheet.now a.goal.now a.trace.now x (length a.text.now)) c.settings-asked.ensures in
    let ns : List ℕ = outcome_numbers (traced_outcome a.sheet.now a.goal.now a.trace.now asks (length a.text.now)) in
    let e : ns ≡ run_numbers (run_of c.run_traced.result) (bytes_of c.run_traced.result) =
    sym (ap₂ run_numbers c.run_traced.ensures.is c.run_traced.ensures.bytes ∙ ap outcome_numbers same) in
    record { is = c.put_run.ensures.is ∙ ap refusal_in (sym e); text = c.run_traced.ensures.text ∙ ap (λ (x : RunOutcome). sets a.text.now 0 (run_text x)) same; numbers = c.put_run.ensures.numbers ∙ ap (sets a.numbers.now 0) (sym e) }
