-- What a run over two texts is asked for, and its numbers.
use Rattle.std.specs.Prelude.{ℕ, Bool, List, length}
use Rattle.machine.specs.Runs.{RunSettings, RunOutcome, run_answer, run_text}
use Rattle.output.specs.Numbers.{run_numbers}

-- the most steps, the most answers, and the mark for a sheet stored earlier
abbrev pub asking : ℕ → ℕ → Bool → RunSettings
asking allowance wanted stored = record { allowance = allowance; wanted = wanted; stored = stored }

-- its answer, and how many bytes it writes
abbrev pub outcome_numbers : RunOutcome → List ℕ
outcome_numbers outcome = run_numbers (run_answer outcome) (length (run_text outcome))
