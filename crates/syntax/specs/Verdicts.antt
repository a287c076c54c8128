-- The answer to a text that is read and not checked further: refusals 2 to 7, in the order of RULES.
use Rattle.std.specs.Prelude.{ℕ, zero, suc, true, false, cond, List, [], ◌∷◌, leb, eqb, length, Result, Ok, Err, Some, None}
use Rattle.std.specs.Prelude.{Option as OptionOf}
use Rattle.std.proofs.Math.Option.{Option, none, some}
use Rattle.syntax.specs.Terms.{Sheet, Goal, Declaration}
use Rattle.syntax.specs.Limits.{sheet_bytes, goal_bytes}
use Rattle.syntax.specs.Reading.{Read, fault, ok, read_sheet, read_goal, first_repeat}
use Rattle.syntax.specs.declared.Text.TheVariants.{Sheet as in_sheet, Goal as in_goal}
use Rattle.syntax.specs.declared.Refusal.{Refusal}
use Rattle.syntax.specs.declared.Refusal.TheVariants.{TooLong, NoToken, Overlong, Misplaced, OverLimit, Repeated}
use Rattle.syntax.specs.declared.Text.{Text}
use Rattle.syntax.specs.declared.Fault.{Fault}
use Rattle.syntax.specs.declared.Counts.{Counts}
use Rattle.syntax.specs.declared.Report.{Report}
use Rattle.syntax.specs.declared.Entry.{Entry}

-- the answer to a text: accepted, with the counts of declarations and clauses, or the fault
abbrev pub Verdict : Type 0
Verdict = Result Counts Fault

-- the answer to a run: its report, or the fault of a text
abbrev pub Run : Type 0
Run = Result Report Fault

abbrev pub Accepted : ℕ → ℕ → Verdict
Accepted n k = Ok (record { declarations = n; clauses = k })

abbrev pub Ended : Report → Run
Ended report = Ok report

abbrev pub Refused : {A : Type 0} → Text → Refusal → Result A Fault
Refused t r = Err (record { text = t; refusal = r })

-- a fault of reading, 3 to 6, as a refusal
abbrev pub fault_of : ℕ → ℕ → Refusal
fault_of n b = cond (eqb n 3) (NoToken b) (cond (eqb n 4) (Overlong b) (cond (eqb n 5) (Misplaced b) (OverLimit b)))

-- what reading gives of a text: a refusal, 2 to 7, or the sheet or goal
pub data Outcome (A : Type 0) : Type 0 where
  refused : Refusal → Outcome A
  accepted : A → Outcome A

unfoldable pub without_repeats : Sheet → Option ℕ → Outcome Sheet
without_repeats sh none = accepted sh
without_repeats sh (some b) = refused (Repeated b)

unfoldable pub sheet_from : Read Sheet → Outcome Sheet
sheet_from (fault n b) = refused (fault_of n b)
sheet_from (ok sh st) = without_repeats sh (first_repeat [] sh.declarations)

unfoldable pub goal_from : Read Goal → Outcome Goal
goal_from (fault n b) = refused (fault_of n b)
goal_from (ok g st) = accepted g

-- 2 before everything, then 3 to 6, then 7
unfoldable pub sheet_of : List ℕ → Outcome Sheet
sheet_of s = elim (leb (length s) sheet_bytes) [ true ↦ sheet_from (read_sheet s) | false ↦ refused TooLong ]

unfoldable pub goal_outcome : List ℕ → Outcome Goal
goal_outcome s = elim (leb (length s) goal_bytes) [ true ↦ goal_from (read_goal s) | false ↦ refused TooLong ]

unfoldable pub sheet_verdict : Outcome Sheet → Verdict
sheet_verdict (refused r) = Refused in_sheet r
sheet_verdict (accepted sh) = Accepted (length sh.declarations) (length sh.clauses)

unfoldable pub goal_verdict : Outcome Goal → Verdict
goal_verdict (refused r) = Refused in_goal r
goal_verdict (accepted g) = Accepted 0 0

-- the answer to a sheet that is read
unfoldable pub read_verdict : List ℕ → Verdict
read_verdict s = sheet_verdict (sheet_of s)

-- the answer to a goal that is read: accepted counts no declaration and no clause
unfoldable pub read_goal_verdict : List ℕ → Verdict
read_goal_verdict s = goal_verdict (goal_outcome s)

abbrev pub entry_of : Declaration → Entry
entry_of d = record { at = d.at; len = length d.name; arguments = length d.marks }

-- the i-th of some declarations, as an entry
unfoldable pub nth_entry : List Declaration → ℕ → OptionOf Entry
nth_entry [] i = None
nth_entry (d ∷ ds) zero = Some (entry_of d)
nth_entry (d ∷ ds) (suc i) = nth_entry ds i

unfoldable pub outcome_entry : Outcome Sheet → ℕ → OptionOf Entry
outcome_entry (refused r) i = None
outcome_entry (accepted sh) i = nth_entry sh.declarations i

-- the i-th declaration of a text that reading accepts
unfoldable pub entry_at : List ℕ → ℕ → OptionOf Entry
entry_at s i = outcome_entry (sheet_of s) i
