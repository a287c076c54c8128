-- Workings checked over a loaded program: what the functions ask and promise.
use Rattle.std.specs.Prelude.{ℕ, ◌≡◌, List, length, Result}
use Rattle.std.proofs.lemmas.List.Edits.{sets}
use Rattle.syntax.specs.declared.Fault.{Fault}
use Rattle.run.specs.Programs.{ProgramLinked}
use Rattle.run.specs.Running.{Runnable}
use Rattle.run.specs.declared.telling.LoadedProgram.{LoadedProgram}
use Rattle.derivations.specs.Workings.{WorkingsOutcome, workings_answer, workings_text}

-- what a check gives, and what it writes over a text
pub record OutcomeTold (o : WorkingsOutcome) (old new : List ℕ) (r : Result ℕ Fault) : Type 0 where
  pub is : r ≡ workings_answer o
  pub text_is : new ≡ sets old 0 (workings_text o)

-- a loaded and linked program over a sheet of so many clauses
pub record LinkedOver (loaded : LoadedProgram) (clauses : ℕ) : Type 0 where
  pub linked : ProgramLinked loaded
  pub count : clauses ≡ length linked.sh.clauses

-- the same, with a state in which no cell is bound, and with scratch words for unification and for the answer
pub record Checkable (loaded : LoadedProgram) (clauses : ℕ) (state scratch text : List ℕ) : Type 0 where
  pub runnable : Runnable loaded state scratch text
  pub count : clauses ≡ length runnable.sh.clauses
