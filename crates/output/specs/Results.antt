-- What a run's result is, where it was refused and where it ended.
use Rattle.std.specs.Prelude.{ℕ, ◌≡◌, Result, Ok, Err}
use Rattle.syntax.specs.declared.Text.{Text}
use Rattle.syntax.specs.declared.Fault.{Fault}
use Rattle.syntax.specs.declared.Refusal.{Refusal}
use Rattle.syntax.specs.declared.Report.{Report}
use Rattle.syntax.specs.Verdicts.{Run, Ended as Ended-by, Refused as refused-by}
use Rattle.output.specs.declared.results.Written.{Written}

-- the answer to a run
abbrev pub run_of : Result Written Fault → Run
run_of (Ok written) = Ok written.report
run_of (Err fault) = Err fault

-- how many bytes it has written
abbrev pub bytes_of : Result Written Fault → ℕ
bytes_of (Ok written) = written.bytes
bytes_of (Err fault) = 0

-- a refusal, with nothing written
abbrev pub RunRefused : Text → Refusal → Result Written Fault → Type 0
RunRefused t q u = (run_of u ≡ refused-by t q) × (bytes_of u ≡ 0)

-- a report, with so many bytes written
abbrev pub RunEnded : Report → ℕ → Result Written Fault → Type 0
RunEnded x n u = (run_of u ≡ Ended-by x) × (bytes_of u ≡ n)
