-- Runs: the ends, the report and the text (RULES, "The run" and "The ten numbers").
use Rattle.std.specs.Prelude.{ℕ, zero, suc, ◌+◌, Bool, true, false, ◌&&◌, List, [], ◌∷◌, ◌++◌, leb, ltb, eqb, length}
use Rattle.std.proofs.Math.Option.{Option, none, some}
use Rattle.syntax.specs.Limits.{longest_path, most_steps, most_answers}
use Rattle.syntax.specs.Terms.{Literal, call, equation, truth, falsity, either, Clause, Sheet, Goal}
use Rattle.syntax.specs.Verdicts.{Outcome, refused, accepted}
use Rattle.syntax.specs.declared.Text.{Text}
use Rattle.syntax.specs.declared.Text.TheVariants.{Sheet as in_sheet, Goal as in_goal, Neither}
pub use Rattle.syntax.specs.declared.RunEnd.{RunEnd}
pub use Rattle.syntax.specs.declared.RunEnd.TheVariants.{Wanted, Done, Steps, Full, Deep}
pub use Rattle.syntax.specs.declared.Report.{Report}
use Rattle.syntax.specs.Verdicts.{Run}
pub use Rattle.syntax.specs.declared.RunSettings.{RunSettings}
use Rattle.syntax.specs.Verdicts.{Ended as Ended-by, Refused as refused-by}
use Rattle.syntax.specs.declared.Refusal.{Refusal}
use Rattle.syntax.specs.declared.Refusal.TheVariants.{Settings}
use Rattle.mode_rules.specs.Checking.{checked_with, checked_goal}
use Rattle.machine.specs.Machine.{Pending, Alternative, path, clause_at, step, start}
use Rattle.machine.specs.Answers.{line}

-- a run under way: the pile, the answers written, the steps taken, the text so far
pub record Progress : Type 0 where
  pub pile : List Alternative
  pub answers : ℕ
  pub steps : ℕ
  pub text : List ℕ

-- ---- what the next step would be

unfoldable pub is_empty : {A : Type 0} → List A → Bool
is_empty [] = true
is_empty (x ∷ xs) = false

-- an answer
unfoldable pub is_answer : List Alternative → Bool
is_answer [] = false
is_answer (a ∷ below) = is_empty a.literals

-- the line that it would write; nothing where it is no answer
unfoldable pub line_with : Goal → Alternative → List Pending → List ℕ
line_with g a [] = line g a.bindings
line_with g a (p ∷ ps) = []

unfoldable pub next_line : Goal → List Alternative → List ℕ
next_line g [] = []
next_line g (a ∷ below) = line_with g a a.literals

-- a try of a clause
unfoldable pub is_there : Option Clause → Bool
is_there none = false
is_there (some cl) = true

unfoldable pub tries_with : Sheet → Alternative → Literal → Bool
tries_with sh a (call at) = is_there (clause_at sh a.next)
tries_with sh a (equation t u) = false
tries_with sh a truth = false
tries_with sh a falsity = false
tries_with sh a (either y z) = false

unfoldable pub tries_first : Sheet → Alternative → List Pending → Bool
tries_first sh a [] = false
tries_first sh a (p ∷ ps) = tries_with sh a p.literal

-- "this step would try a clause at path 255"
unfoldable pub goes_deeper : Sheet → List Alternative → Bool
goes_deeper sh [] = false
goes_deeper sh (a ∷ below) = tries_first sh a a.literals && leb longest_path (path a)

-- ---- the ends

-- a kind of end and whether it applies
pub record Ending : Type 0 where
  pub kind : RunEnd
  pub applies : Bool

-- The tests before each step, in their order; `left` is what is left of the allowance (the word of RULES for the most steps). REQUESTS (vii): "Both
-- rules apply there; `done` now comes first." The order before it stands in `Earlier`.
abbrev pub endings : Sheet → Goal → ℕ → ℕ → ℕ → Progress → List Ending
endings sh g wanted room left p =
    record { kind = Done; applies = is_empty p.pile } ∷
    record { kind = Wanted; applies = leb wanted p.answers } ∷
    record { kind = Steps; applies = eqb left 0 } ∷
    record { kind = Full; applies = is_answer p.pile && ltb room (length p.text + length (next_line g p.pile)) } ∷
    record { kind = Deep; applies = goes_deeper sh p.pile } ∷ []

-- the first that applies
unfoldable pub first_end : List Ending → Option RunEnd
first_end [] = none
first_end (e ∷ es) = elim e.applies [ true ↦ some e.kind | false ↦ first_end es ]

-- ---- the run

unfoldable pub one_if : Bool → ℕ
one_if true = 1
one_if false = 0

-- one step of a run: an answer's line is written, with its line feed
unfoldable pub advance : Sheet → Goal → Progress → Progress
advance sh g p =
    record { pile = step sh p.pile; answers = p.answers + one_if (is_answer p.pile); steps = suc p.steps; text = p.text ++ next_line g p.pile }

-- k steps of a run, whatever ends it
unfoldable pub advanced : Sheet → Goal → ℕ → Progress → Progress
advanced sh g zero p = p
advanced sh g (suc k) p = advanced sh g k (advance sh g p)

-- where a run ended, and how
pub record Ended : Type 0 where
  pub kind : RunEnd
  pub at : Progress

-- an end, or else on
unfoldable pub end_or : Progress → Option RunEnd → (Unit {0} → Ended) → Ended
end_or p (some k) on = record { kind = k; at = p }
end_or p none on = on tt

-- the step repeated, until an end applies
unfoldable pub run_from : Sheet → Goal → ℕ → ℕ → ℕ → Progress → Ended
run_from sh g wanted room zero p = end_or p (first_end (endings sh g wanted room 0 p)) (λ _. record { kind = Steps; at = p })
run_from sh g wanted room (suc left) p =
    end_or p (first_end (endings sh g wanted room (suc left) p)) (λ _. run_from sh g wanted room left (advance sh g p))

-- the goal alone on the pile, nothing written
unfoldable pub begun : Sheet → Goal → Progress
begun sh g = record { pile = start sh g; answers = 0; steps = 0; text = [] }

-- a run: allowance, wanted answers, room for text
unfoldable pub run : Sheet → Goal → ℕ → ℕ → ℕ → Ended
run sh g allowance wanted room = run_from sh g wanted room allowance (begun sh g)

-- ---- a run in turns

-- how a run that ended so goes on if it is given n steps more: only one that had used up its steps does
unfoldable pub resumed : Sheet → Goal → ℕ → ℕ → ℕ → Ended → Ended
resumed sh g wanted room n e = elim e.kind [ Wanted ↦ e | Done ↦ e | Steps ↦ run_from sh g wanted room n e.at | Full ↦ e | Deep ↦ e ]

-- ---- over texts

-- a refusal with the text at fault, or the report ("the kind, the answers written and the steps") and the answer text
pub data RunOutcome : Type 0 where
  stopped : Text → Refusal → RunOutcome
  ran : Report → List ℕ → RunOutcome

-- what a run answers
unfoldable pub reported : Ended → RunOutcome
reported e = ran (record { kind = e.kind; answers = e.at.answers; steps = e.at.steps }) e.at.text

-- the goal, then the run
unfoldable pub over_goal : Sheet → ℕ → ℕ → ℕ → Outcome Goal → RunOutcome
over_goal sh allowance wanted room (refused r) = stopped in_goal r
over_goal sh allowance wanted room (accepted g) = reported (run sh g allowance wanted room)

-- the sheet, then the goal
unfoldable pub over_sheet : List ℕ → ℕ → ℕ → ℕ → Outcome Sheet → RunOutcome
over_sheet goal allowance wanted room (refused r) = stopped in_sheet r
over_sheet goal allowance wanted room (accepted sh) = over_goal sh allowance wanted room (checked_goal sh goal)

-- 1 to 65,536 steps, 1 to 64 answers
unfoldable pub in_range : ℕ → ℕ → Bool
in_range allowance wanted = (leb 1 allowance && leb allowance most_steps) && (leb 1 wanted && leb wanted most_answers)

-- "A run tests 1, then the sheet, then the goal": sheet, goal, settings, room for text. "Sheets stored earlier still run: a run … takes a mark for
-- them" (REQUESTS (x)).
unfoldable pub run_outcome : List ℕ → List ℕ → RunSettings → ℕ → RunOutcome
run_outcome sheet goal asked room =
    elim (in_range asked.allowance asked.wanted)
    [ true ↦ over_sheet goal asked.allowance asked.wanted room (checked_with asked.stored sheet) | false ↦ stopped Neither Settings ]

-- what a run gives back, and what it writes: a refusal writes nothing
unfoldable pub run_answer : RunOutcome → Run
run_answer (stopped text refusal) = refused-by text refusal
run_answer (ran report text) = Ended-by report

unfoldable pub run_text : RunOutcome → List ℕ
run_text (stopped text refusal) = []
run_text (ran report text) = text
