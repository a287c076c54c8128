-- What the two programs print (RULES, "Two programs and what they print").
use Rattle.std.specs.Prelude.{ℕ, false, List, [], ◌++◌}
use Rattle.syntax.specs.Limits.{most_steps}
use Rattle.syntax.specs.Verdicts.{Verdict}
use Rattle.syntax.specs.Verdicts.{Refused}
use Rattle.output.specs.Lines.{line_of}
use Rattle.output.specs.Reports.{report_line}
use Rattle.mode_rules.specs.Checking.{check_verdict, fault_name}
use Rattle.machine.specs.Runs.{RunSettings, RunOutcome, stopped, ran}
use Rattle.machine.specs.Traces.{traced_outcome}

-- a verdict, with the name that it hands back of the two texts
unfoldable pub verdict_line : List ℕ → List ℕ → Verdict → List ℕ
verdict_line sheet goal v = line_of v (fault_name sheet goal v)

-- the checker's output for a sheet
unfoldable pub checker : List ℕ → List ℕ
checker sheet = verdict_line sheet [] (check_verdict sheet)

-- the answer lines and the report, or the refusal
unfoldable pub run_lines : List ℕ → List ℕ → RunOutcome → List ℕ
run_lines sheet goal (stopped text refusal) = verdict_line sheet goal (Refused text refusal)
run_lines sheet goal (ran report text) = text ++ report_line report.kind report.answers report.steps

-- the answers that the runner wants, and the bytes that it has for them
abbrev pub runner_answers : ℕ
runner_answers = 16

abbrev pub runner_text : ℕ
runner_text = 4096

-- the most steps, and no mark: "the runner gives none" (REQUESTS (x))
abbrev pub runner_settings : RunSettings
runner_settings = record { allowance = most_steps; wanted = runner_answers; stored = false }

-- the runner's output for three files: sheet, goal and trace
unfoldable pub runner : List ℕ → List ℕ → List ℕ → List ℕ
runner sheet goal trace = run_lines sheet goal (traced_outcome sheet goal trace runner_settings runner_text)
