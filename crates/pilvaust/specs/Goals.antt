-- What a goal needs of a sheet's tables, and what its run promises.
use Rattle.std.specs.Prelude.{ℕ, ◌≤◌, ◌≡◌, List, length, Result}
use Rattle.std.proofs.lemmas.List.Edits.{sets}
use Rattle.syntax.specs.Words.{program_bytes, program_words}
use Rattle.marks.specs.Tables.{SheetAt}
use Rattle.machine.specs.Runs.{RunOutcome, run_answer, run_text}
use Rattle.run_layout.specs.Limits.{ProgramLimited}
use Rattle.syntax.specs.declared.Fault.{Fault}
use Rattle.output.specs.declared.results.Written.{Written}
use Rattle.output.specs.Results.{run_of, bytes_of}

-- A sheet, with the facts of a trace behind its own clauses or without, of which the n declarations and k clauses stand in tables: within the limits of a
-- program.
pub record ProgramReady (s declared : List ℕ) (n : ℕ) (table : List ℕ) (k : ℕ) : Type 0 where
  pub stands : SheetAt s declared n table k
  pub limits : ProgramLimited stands.sheet
  pub short : length s ≤ program_bytes
  pub table_short : length table ≤ program_words

-- what a run gives, how many bytes it writes, and what it writes over a text
pub record OutcomeWritten (o : RunOutcome) (old new : List ℕ) (r : Result Written Fault) : Type 0 where
  pub is : run_of r ≡ run_answer o
  pub bytes_is : bytes_of r ≡ length (run_text o)
  pub text_is : new ≡ sets old 0 (run_text o)
