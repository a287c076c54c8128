-- No argument is left open in what `run` and `run_traced` answer: both counts are zero in the run that they report. Assumes nothing.
use Prim.Native.Nat.{ℕ}
use native.Mathlib.Omega.{arith}
use mathlib.Core.Path.{◌≡◌, refl, sym, ap, ◌∙◌}
use mathlib.Core.List.{List}
use Rattle.syntax.specs.declared.Report.{Report}
use Rattle.syntax.specs.Verdicts.{Ended}
use Rattle.machine.specs.Runs.{RunSettings, RunOutcome, stopped, ran, run_outcome, run_answer, run_text}
use Rattle.machine.specs.Traces.{traced_outcome}
use Rattle.machine.specs.Claims.{RunOver, TracedOver}
use Rattle.machine_theorems.proofs.EveryRun.{nothing-open-in-runs}
use Rattle.machine_theorems.proofs.Traces.{nothing-open-traced}
use Rattle.std.proofs.Common.{Result, Ok, Err, IfOk}
use Rattle.syntax.specs.declared.Fault.{Fault}
use Rattle.output.specs.declared.results.Written.{Written}
use Rattle.output.specs.Results.{run_of}

module _ (sheet goal : List ℕ) (asked : RunSettings) (room : ℕ) (r : Report) where
  reported : (o : RunOutcome) → run_outcome sheet goal asked room ≡ o → run_answer o ≡ Ended r → RunOver sheet goal asked room r (run_text o)
  unfolding run_answer run_text
  reported (stopped text refusal) e q = absurd (let z : ◌≡◌ {A = ℕ} 0 1 = cc in omega arith)
  reported (ran report text) e q =
      let same : report ≡ r = cc in
      nothing-open-in-runs sheet goal asked room r text (e ∙ ap (λ (x : Report). ran x text) same)

  -- `pilvaust::run` returns `run_answer` of `run_outcome` and writes `run_text` of it
  pub nothing-open-reported : run_answer (run_outcome sheet goal asked room) ≡ Ended r → RunOver sheet goal asked room r (run_text (run_outcome sheet goal asked room))
  nothing-open-reported q = reported (run_outcome sheet goal asked room) refl q

module _ (sheet goal trace : List ℕ) (asked : RunSettings) (room : ℕ) where
  traced-reported : (r : Report) (o : RunOutcome) → traced_outcome sheet goal trace asked room ≡ o → run_answer o ≡ Ended r
      → TracedOver sheet goal trace asked room r (run_text o)
  unfolding run_answer run_text
  traced-reported r (stopped text refusal) e q = absurd (let z : ◌≡◌ {A = ℕ} 0 1 = cc in omega arith)
  traced-reported r (ran report text) e q =
      let same : report ≡ r = cc in
      nothing-open-traced sheet goal trace asked room r text (e ∙ ap (λ (x : Report). ran x text) same)

  -- `pilvaust::run_traced` answers with the bytes written
  pub nothing-open-played : (answer : Result Written Fault) → run_of answer ≡ run_answer (traced_outcome sheet goal trace asked room)
      → IfOk answer (λ written. TracedOver sheet goal trace asked room written.report (run_text (traced_outcome sheet goal trace asked room)))
  nothing-open-played (Ok written) e = traced-reported written.report (traced_outcome sheet goal trace asked room) refl (sym e)
  nothing-open-played (Err fault) e = tt
