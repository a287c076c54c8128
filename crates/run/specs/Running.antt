-- What a run over loaded words is given, and what it promises.
use Rattle.std.specs.Prelude.{ℕ, ◌≤◌, ◌≡◌, List, length}
use Rattle.std.proofs.lemmas.List.Edits.{sets}
use Rattle.syntax.specs.Terms.{Sheet, Goal}
use Rattle.syntax.specs.declared.Report.{Report}
use Rattle.machine.specs.Runs.{Ended, run}
use Rattle.run_layout.specs.Regions.{state_words}
use Rattle.run_layout.specs.Nodes.{Symbol}
use Rattle.run_layout.specs.Program.{Program}
use Rattle.run_layout.specs.Rooms.{Clean}
use Rattle.run.specs.declared.telling.LoadedProgram.{LoadedProgram}
use Rattle.run.specs.Telling.{Spelt, LentScratch}
use Rattle.output.specs.declared.results.Written.{Written}

-- the report of a run
abbrev pub report_of : Ended → Report
report_of e = record { kind = e.kind; answers = e.at.answers; steps = e.at.steps }

-- what a run gives and writes: the report, and how many bytes of the text are its lines
pub record RunWritten (sh : Sheet) (g : Goal) (allowance wanted : ℕ) (old new : List ℕ) (r : Written) : Type 0 where
  pub is : r.report ≡ report_of (run sh g allowance wanted (length old))
  pub bytes_is : r.bytes ≡ length (run sh g allowance wanted (length old)).at.text
  pub text_is : new ≡ sets old 0 (run sh g allowance wanted (length old)).at.text

-- a loaded program, a state in which no cell is bound, and what is lent
pub record Runnable (loaded : LoadedProgram) (state scratch text : List ℕ) : Type 0 where
  pub ss : List Symbol
  pub sh : Sheet
  pub g : Goal
  pub spelt : Spelt ss g loaded
  pub program : Program ss sh g loaded.nodes.now loaded.code.now
  pub long : state_words ≤ length state
  pub clean : Clean state
  pub lent : LentScratch scratch (length text)
