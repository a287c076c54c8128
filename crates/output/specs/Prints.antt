-- What is printed of a run, as a list of bytes; of a verdict it is `line_of`.
use Rattle.std.specs.Prelude.{ℕ, List, ◌++◌, take, Result, Ok, Err}
use Rattle.mode_rules.specs.Checking.{fault_name}
use Rattle.syntax.specs.declared.Fault.{Fault}
use Rattle.output.specs.declared.results.Written.{Written}
use Rattle.output.specs.Lines.{line_of}
use Rattle.output.specs.Reports.{report_line}

-- what a run over a sheet and a goal gave: what it has written of the text, which is the lines of its answers, and its report; or the line of its refusal
abbrev pub printed_run : List ℕ → List ℕ → Result Written Fault → List ℕ → List ℕ
printed_run sheet goal (Ok written) text = take written.bytes text ++ report_line written.report.kind written.report.answers written.report.steps
printed_run sheet goal (Err fault) text = line_of (Err fault) (fault_name sheet goal (Err fault))
