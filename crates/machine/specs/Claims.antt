-- What the theorems about runs and counts say.
use Rattle.std.specs.Prelude.{ℕ, ◌+◌, ◌≤◌, ◌<◌, ◌≡◌, Bool, List, length}
use Rattle.std.proofs.Math.Option.{none, some}
use Rattle.syntax.specs.Terms.{Sheet, Goal}
use Rattle.syntax.specs.Verdicts.{accepted}
use Rattle.mode_rules.specs.Checking.{checked_with, checked_goal}
use Rattle.machine.specs.Machine.{pile_after}
use Rattle.machine.specs.Runs.{Progress, endings, first_end, advanced, Ended, run, Report, RunSettings, ran, reported}
use Rattle.machine.specs.Traces.{trace_fault, traced_sheet}
use Rattle.machine.specs.Counts.{tally}

-- After n steps from the goal alone the count of open inputs is zero, and so is the count of open outputs.
pub record BothZero (sh : Sheet) (g : Goal) (n : ℕ) : Type 0 where
  pub inputs : (tally sh g n).inputs ≡ 0
  pub outputs : (tally sh g n).outputs ≡ 0

-- A run is the step repeated, up to where an end applies: it takes k steps and has so many left, an end applies then, and before each of the
-- k none applied.
pub record EndsAfter (sh : Sheet) (g : Goal) (allowance wanted room : ℕ) (p : Progress) (e : Ended) : Type 0 where
  pub taken : ℕ
  pub left : ℕ
  pub within : taken + left ≡ allowance
  pub state : e.at ≡ advanced sh g taken p
  pub applies : first_end (endings sh g wanted room left e.at) ≡ some e.kind
  pub none_before : (k l : ℕ) → k + l ≡ allowance → k < taken → first_end (endings sh g wanted room l (advanced sh g k p)) ≡ none

-- The steps of a run are the beginning of the list of steps from the goal alone: the pile where it ends is the one after so many steps, which are no
-- more than the allowance.
pub record Beginning (sh : Sheet) (g : Goal) (allowance : ℕ) (e : Ended) : Type 0 where
  pub pile : e.at.pile ≡ pile_after sh g e.at.steps
  pub steps : e.at.steps ≤ allowance

-- A sheet, marked as stored earlier or not, and a goal over it that are both accepted as texts, and both counts zero after any number of steps.
pub record ZeroOver (stored : Bool) (sheet goal : List ℕ) : Type 0 where
  pub sh : Sheet
  pub g : Goal
  pub sheet_accepted : checked_with stored sheet ≡ accepted sh
  pub goal_accepted : checked_goal sh goal ≡ accepted g
  pub zero : (n : ℕ) → BothZero sh g n

-- A run over two texts that is not refused: its report and text are those of the run, whose steps are the beginning of a list with both counts zero:
-- the piles that were tallied are those of that list.
pub record RunOver (sheet goal : List ℕ) (asked : RunSettings) (room : ℕ) (report : Report) (text : List ℕ) : Type 0 where
  pub texts : ZeroOver asked.stored sheet goal
  pub reports : reported (run texts.sh texts.g asked.allowance asked.wanted room) ≡ ran report text
  pub beginning : Beginning texts.sh texts.g asked.allowance (run texts.sh texts.g asked.allowance asked.wanted room)
  pub tallied : (n : ℕ) → (tally texts.sh texts.g n).pile ≡ pile_after texts.sh texts.g n

-- The same with a trace: a sheet, a trace and a goal that are accepted, and "the zero counts hold over sheet and facts together" (REQUESTS (ix)).
pub record ZeroTraced (stored : Bool) (sheet goal trace : List ℕ) : Type 0 where
  pub sh : Sheet
  pub g : Goal
  pub sheet_accepted : checked_with stored sheet ≡ accepted sh
  pub trace_accepted : trace_fault sh.declarations trace ≡ none
  pub goal_accepted : checked_goal sh goal ≡ accepted g
  pub zero : (n : ℕ) → BothZero (traced_sheet (length sheet) trace sh) g n

-- A run with a trace that is not refused, as `RunOver`.
pub record TracedOver (sheet goal trace : List ℕ) (asked : RunSettings) (room : ℕ) (report : Report) (text : List ℕ) : Type 0 where
  pub texts : ZeroTraced asked.stored sheet goal trace
  -- the sheet and its facts
  pub whole : Sheet
  pub whole_is : whole ≡ traced_sheet (length sheet) trace texts.sh
  pub reports : reported (run whole texts.g asked.allowance asked.wanted room) ≡ ran report text
  pub beginning : Beginning whole texts.g asked.allowance (run whole texts.g asked.allowance asked.wanted room)
  pub tallied : (n : ℕ) → (tally whole texts.g n).pile ≡ pile_after whole texts.g n
