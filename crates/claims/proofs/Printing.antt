-- What a program prints of a run that it was answered is what the definition of its output says. Assumes nothing.
use Rattle.std.proofs.Common.{◌≡◌, ℕ, ◌+◌, ◌≤◌, List, ◌++◌, Ok, Err, Result, arith, refl, sym, ap, ◌∙◌, length, take, drop}
use Rattle.std.proofs.Math.Seq.{take-append_seam}
use Rattle.std.proofs.lemmas.List.Edits.{sets, sets-eq}
use Rattle.syntax.specs.declared.Fault.{Fault}
use Rattle.syntax.specs.declared.Report.{Report}
use Rattle.syntax.specs.Verdicts.{Verdict}
use Rattle.mode_rules.specs.Checking.{fault_name}
use Rattle.machine.specs.Runs.{RunOutcome, stopped, ran, run_answer, run_text}
use Rattle.machine.specs.Traces.{traced_outcome}
use Rattle.output.specs.declared.results.Written.{Written}
use Rattle.output.specs.Lines.{line_of}
use Rattle.output.specs.Reports.{report_line}
use Rattle.output.specs.Results.{run_of, bytes_of}
use Rattle.output.specs.Prints.{printed_run}
use Rattle.starred_cases.specs.Programs.{verdict_line, run_lines, runner, runner_settings, runner_text}
use Rattle.claims.proofs.Rooms.{text-fits}

module _ (sheet goal old : List ℕ) where
  abbrev line : Fault → List ℕ
  line fault = line_of (Err fault) (fault_name sheet goal (Err fault))

  abbrev report : Report → List ℕ
  report r = report_line r.kind r.answers r.steps

  written : (text : List ℕ) → length text ≤ length old → take (length text) (sets old 0 text) ≡ text
  written text fits =
      let within : 0 + length text ≤ length old = omega (arith, fits) in
      ap (take (length text)) (sets-eq text old 0 within) ∙ take-append_seam text (drop (0 + length text) old)

  by : (o : RunOutcome) (answer : Result Written Fault) → length (run_text o) ≤ length old → run_of answer ≡ run_answer o
      → bytes_of answer ≡ length (run_text o)
      → printed_run sheet goal answer (sets old 0 (run_text o)) ≡ run_lines sheet goal o
  unfolding run_text run_answer run_lines verdict_line
  by (stopped text refusal) (Ok w) fits e n = absurd (let z : ◌≡◌ {A = ℕ} 0 1 = cc in omega arith)
  by (stopped text refusal) (Err fault) fits e n = let same : fault ≡ record { text = text; refusal = refusal } = cc in ap line same
  by (ran r text) (Ok w) fits e n =
      let same : w.report ≡ r = cc in
      ap (λ (k : ℕ). take k (sets old 0 text) ++ report w.report) n ∙ ap (λ (l : List ℕ). l ++ report w.report) (written text fits)
      ∙ ap (λ (x : Report). text ++ report x) same
  by (ran r text) (Err fault) fits e n = absurd (let z : ◌≡◌ {A = ℕ} 0 1 = cc in omega arith)

-- The runner lends so much room for the text, and prints of it what `run_traced` says it has written.
pub runner-prints : (sheet goal trace old : List ℕ) (answer : Result Written Fault) → length old ≡ runner_text
    → run_of answer ≡ run_answer (traced_outcome sheet goal trace runner_settings runner_text)
    → bytes_of answer ≡ length (run_text (traced_outcome sheet goal trace runner_settings runner_text))
    → printed_run sheet goal answer (sets old 0 (run_text (traced_outcome sheet goal trace runner_settings runner_text))) ≡ runner sheet goal trace
unfolding runner
runner-prints sheet goal trace old answer long e n =
    let fits : length (run_text (traced_outcome sheet goal trace runner_settings runner_text)) ≤ length old = omega (arith, text-fits sheet goal trace runner_settings runner_text, long) in
    by sheet goal old (traced_outcome sheet goal trace runner_settings runner_text) answer fits e n
