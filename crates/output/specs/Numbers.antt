-- The answers of reading, checking and running as lists of numbers, for callers in other languages. Unused places are 0, as in RULES.
use Rattle.std.specs.Prelude.{ℕ, List, [], ◌∷◌, ◌++◌, get_or, Result, Ok, Err}
use Rattle.syntax.specs.declared.Fault.{Fault}
use Rattle.syntax.specs.Verdicts.{Run}
use Rattle.syntax.specs.Verdicts.{Verdict}
use Rattle.output.specs.Reports.{kind_number}
use Rattle.output.specs.FaultsNumbers.{fault_numbers}

-- the numbers of a fault where there is none
abbrev pub no_fault : List ℕ
no_fault = 0 ∷ 0 ∷ 0 ∷ 0 ∷ 0 ∷ 0 ∷ 0 ∷ 0 ∷ []

-- a verdict: its fault, then the counts of declarations and clauses
unfoldable pub verdict_numbers : Verdict → List ℕ
verdict_numbers (Ok counts) = no_fault ++ (counts.declarations ∷ counts.clauses ∷ [])
verdict_numbers (Err fault) = fault_numbers fault.text fault.refusal ++ (0 ∷ 0 ∷ [])

-- the answer to a run that has written so many bytes: its fault, then the kind of its end, the answers, the steps and the bytes
unfoldable pub run_numbers : Run → ℕ → List ℕ
run_numbers (Ok report) bytes = no_fault ++ (kind_number report.kind ∷ report.answers ∷ report.steps ∷ bytes ∷ [])
run_numbers (Err fault) bytes = fault_numbers fault.text fault.refusal ++ (0 ∷ 0 ∷ 0 ∷ 0 ∷ [])

-- the answer to a call that writes bytes: its fault, then how many it has written
unfoldable pub bytes_numbers : Result ℕ Fault → List ℕ
bytes_numbers (Ok bytes) = no_fault ++ (bytes ∷ [])
bytes_numbers (Err fault) = fault_numbers fault.text fault.refusal ++ (0 ∷ [])

-- the refusal's number in either list, 0 where there is none
abbrev pub refusal_in : List ℕ → ℕ
refusal_in numbers = get_or numbers 1 0
