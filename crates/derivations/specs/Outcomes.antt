-- What the outcome of a check of workings says of derivations: the theorems over texts.
use Rattle.std.specs.Prelude.{ℕ, ◌≤◌, ◌<◌, ◌≡◌, false, List, length, Result, Ok}
use Rattle.std.proofs.lemmas.List.Edits.{sets}
use Rattle.syntax.specs.Terms.{Sheet, Goal}
use Rattle.syntax.specs.Verdicts.{accepted, Refused}
use Rattle.syntax.specs.declared.Fault.{Fault}
use Rattle.syntax.specs.declared.Text.TheVariants.{Workings as in_workings, Neither}
use Rattle.syntax.specs.declared.Refusal.TheVariants.{BadWorkings, LineTooLong}
use Rattle.mode_rules.specs.Checking.{checked_sheet, checked_goal}
use Rattle.machine.specs.Substitution.{Binding}
use Rattle.machine.specs.Unifiers.{Substitution}
use Rattle.machine.specs.Answers.{line}
use Rattle.machine.specs.Runs.{RunSettings, Report, ran, run_outcome}
use Rattle.derivations.specs.Workings.{Choice, Records, records_of, replay, begun, WorkingsOutcome, rejected, told, workings_outcome}
use Rattle.derivations.specs.Derivations.{recorded, GoalDerivation, MostGeneralAnswer, ReplaysExactly, BytesUsedUp, ByteIsRight, LinesHaveWorkings}

-- "from an accepted goal over an accepted sheet without a trace"
pub record AcceptedTexts (sheet goal : List ℕ) : Type 0 where
  pub sh : Sheet
  pub g : Goal
  pub sheet_accepted : checked_sheet sheet ≡ accepted sh
  pub goal_accepted : checked_goal sh goal ≡ accepted g

-- The workings are the records of a derivation of the goal, and the line is that of its most general answer.
pub record DerivesLine (sheet goal workings l : List ℕ) : Type 0 where
  pub texts : AcceptedTexts sheet goal
  pub choices : List Choice
  pub records_are : records_of workings ≡ recorded choices
  pub bindings : List Binding
  pub answer : MostGeneralAnswer texts.sh texts.g choices bindings
  pub line_is : l ≡ line texts.g bindings

-- The workings are the records of no derivation of the goal, and so many bytes are of the most records that are used up.
pub record DerivesNothing (sheet goal workings : List ℕ) (byte : ℕ) : Type 0 where
  pub texts : AcceptedTexts sheet goal
  pub none : (choices : List Choice) (σ : Substitution) → records_of workings ≡ recorded choices → GoalDerivation texts.sh texts.g σ choices → ⊥
  pub byte_is : BytesUsedUp texts.sh texts.g (records_of workings) byte

-- what each outcome says but for the refusals of sheet and goal
pub record RightOutcome (sheet goal workings : List ℕ) (room : ℕ) (o : WorkingsOutcome) : Type 0 where
  pub line : (l : List ℕ) → o ≡ told l → DerivesLine sheet goal workings l × (length l ≤ room)
  pub not_accepted : (byte : ℕ) → o ≡ rejected in_workings (BadWorkings byte) → DerivesNothing sheet goal workings byte
  pub too_long : o ≡ rejected Neither LineTooLong → (l : List ℕ) × DerivesLine sheet goal workings l × (room < length l)

-- The same of what a check answers and what it leaves of a text.
pub record RightAnswer (sheet goal workings old new : List ℕ) (r : Result ℕ Fault) : Type 0 where
  pub line : (n : ℕ) → r ≡ Ok n → (l : List ℕ) × DerivesLine sheet goal workings l × (n ≡ length l) × (length l ≤ length old) × (new ≡ sets old 0 l)
  pub not_accepted : (byte : ℕ) → r ≡ Refused in_workings (BadWorkings byte) → DerivesNothing sheet goal workings byte
  pub too_long : r ≡ Refused Neither LineTooLong → (l : List ℕ) × DerivesLine sheet goal workings l × (length old < length l)

-- ---- the theorems

-- Where a line is told or does not fit, the workings are those of a derivation by leftmost resolution, whose most general answer gives the line. Where 17
-- is given they are those of none, and its byte is right. That a replay has no other outcome is `ReplaysExactly`.
abbrev pub EveryOutcomeIsRight : Type 0
EveryOutcomeIsRight = (sheet goal workings : List ℕ) (room : ℕ) → RightOutcome sheet goal workings room (workings_outcome sheet goal workings room)

-- "Every answer of our own run without a trace or (x)'s mark has workings that are accepted with the same line, given room for it."
abbrev pub EveryAnswerHasWorkings : Type 0
EveryAnswerHasWorkings =
    (sheet goal : List ℕ) (asked : RunSettings) (room : ℕ) (r : Report) (text : List ℕ) → asked.stored ≡ false → run_outcome sheet goal asked room ≡ ran r text
    → LinesHaveWorkings sheet goal r.answers text
