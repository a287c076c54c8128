-- The answers to a sheet and to a goal over it, refusals 2 to 10 and 16 in their order, and the name handed back.
use Rattle.std.specs.Prelude.{ℕ, Bool, false, List, [], Ok, Err}
use Rattle.std.proofs.Math.Option.{Option, none, some}
use Rattle.syntax.specs.Terms.{Sheet, Goal}
use Rattle.syntax.specs.Tokens.{spelling}
use Rattle.syntax.specs.Verdicts.{Outcome, refused, accepted, sheet_of, goal_outcome, sheet_verdict}
use Rattle.syntax.specs.declared.Text.{Text}
use Rattle.syntax.specs.declared.Text.TheVariants.{Sheet as in_sheet, Goal as in_goal, Trace as in_trace, Workings as in_workings, Neither}
use Rattle.syntax.specs.declared.Refusal.{Refusal}
use Rattle.syntax.specs.declared.Refusal.TheVariants.{Settings, TooLong, NoToken, Overlong, Misplaced, OverLimit, Repeated, Undeclared, OpenInput, OpenOutput}
use Rattle.syntax.specs.declared.Refusal.TheVariants.{BadTrace, TraceOverLimit, SeenUndeclared, Unwritten}
use Rattle.syntax.specs.declared.Refusal.TheVariants.{OutputTooLong, WardSettings, BadWorkings, LineTooLong}
use Rattle.syntax.specs.Verdicts.{Verdict}
use Rattle.syntax.specs.Verdicts.{Refused}
use Rattle.mode_rules.specs.Modes.{sheet_fault, goal_fault}

-- what was read, or the fault found in it
unfoldable pub faultless : {A : Type 0} → A → Option Refusal → Outcome A
faultless x none = accepted x
faultless x (some r) = refused r

-- a refusal of reading stands
unfoldable pub checked_from : Bool → Outcome Sheet → Outcome Sheet
checked_from stored (refused r) = refused r
checked_from stored (accepted sh) = faultless sh (sheet_fault stored sh)

-- "Reading alone stops after 7; checking goes on to 10", with 16 unless the sheet is marked as stored earlier (REQUESTS (x))
unfoldable pub checked_with : Bool → List ℕ → Outcome Sheet
checked_with stored s = checked_from stored (sheet_of s)

-- checking gives no mark
abbrev pub checked_sheet : List ℕ → Outcome Sheet
checked_sheet s = checked_with false s

-- the answer to a sheet by the mark, and to one that is checked
unfoldable pub verdict_with : Bool → List ℕ → Verdict
verdict_with stored s = sheet_verdict (checked_with stored s)

abbrev pub check_verdict : List ℕ → Verdict
check_verdict s = verdict_with false s

-- the same of a goal over a sheet
unfoldable pub checked_goal_from : Sheet → Outcome Goal → Outcome Goal
checked_goal_from sh (refused r) = refused r
checked_goal_from sh (accepted g) = faultless g (goal_fault sh g)

-- "then the goal for 2 to 6, 8, 9"
unfoldable pub checked_goal : Sheet → List ℕ → Outcome Goal
checked_goal sh g = checked_goal_from sh (goal_outcome g)

-- "it also says which of the two texts was at fault"; accepted counts the sheet's declarations and clauses
unfoldable pub goal_answer : Sheet → Outcome Goal → Verdict
goal_answer sh (refused r) = Refused in_goal r
goal_answer sh (accepted g) = sheet_verdict (accepted sh)

-- a sheet that is refused is the answer, whatever the goal
unfoldable pub check_goal_from : List ℕ → Outcome Sheet → Verdict
check_goal_from g (refused r) = Refused in_sheet r
check_goal_from g (accepted sh) = goal_answer sh (checked_goal sh g)

-- the answer to two texts: "then the sheet, then the goal"
unfoldable pub check_goal_verdict : List ℕ → List ℕ → Verdict
check_goal_verdict s g = check_goal_from g (checked_sheet s)

-- "For 8 to 10 the predicate's name is handed back …; otherwise that part is empty": its place and length.
abbrev pub name_span : Refusal → ℕ × ℕ
name_span Settings = (0, 0)
name_span TooLong = (0, 0)
name_span (NoToken byte) = (0, 0)
name_span (Overlong byte) = (0, 0)
name_span (Misplaced byte) = (0, 0)
name_span (OverLimit byte) = (0, 0)
name_span (Repeated byte) = (0, 0)
name_span (Undeclared clause literal at len) = (at, len)
name_span (OpenInput byte clause literal argument at len) = (at, len)
name_span (OpenOutput byte clause argument at len) = (at, len)
name_span (BadTrace byte) = (0, 0)
name_span TraceOverLimit = (0, 0)
name_span SeenUndeclared = (0, 0)
name_span (Unwritten byte) = (0, 0)
name_span OutputTooLong = (0, 0)
name_span WardSettings = (0, 0)
name_span (BadWorkings byte) = (0, 0)
name_span LineTooLong = (0, 0)

-- the text that a refusal speaks of, as far as a name can stand in it: a trace or workings have none
abbrev pub text_at_fault : List ℕ → List ℕ → Text → List ℕ
text_at_fault sheet goal in_sheet = sheet
text_at_fault sheet goal in_goal = goal
text_at_fault sheet goal in_trace = []
text_at_fault sheet goal in_workings = []
text_at_fault sheet goal Neither = []

-- "as the part of the sheet or goal where it stands"
unfoldable pub fault_name : List ℕ → List ℕ → Verdict → List ℕ
fault_name sheet goal (Ok counts) = []
fault_name sheet goal (Err fault) = spelling (text_at_fault sheet goal fault.text) (name_span fault.refusal).0 (name_span fault.refusal).1
