-- Checking as it was before REQUESTS (ii), and as it was before (xiv): one definition, over what each of them changed, with 16 of (x) in both.
-- Theorems say that nothing else changed, and how (xiv) moves a verdict.
use Rattle.std.specs.Prelude.{ℕ, suc, ◌+◌, ◌≤◌, ◌<◌, ◌≡◌, Bool, false, List, [], ◌∷◌, Ok, Err}
use Rattle.std.proofs.Math.Option.{Option, none, some}
use Rattle.syntax.specs.Terms.{Term, Atom, Literal, Body, call, equation, truth, falsity, either, done, also, literals_in, literals_of, Mark, input, output}
use Rattle.syntax.specs.Terms.{Declaration, Clause, Sheet, Goal}
use Rattle.syntax.specs.Refusals.{numbers_of}
use Rattle.syntax.specs.Verdicts.{Outcome, refused, accepted, sheet_of, goal_outcome, sheet_verdict}
use Rattle.syntax.specs.declared.Five.{Five}
use Rattle.syntax.specs.declared.Text.{Text}
use Rattle.syntax.specs.declared.Text.TheVariants.{Sheet as in_sheet, Goal as in_goal}
use Rattle.syntax.specs.declared.Refusal.{Refusal}
use Rattle.syntax.specs.declared.Refusal.TheVariants.{Settings, TooLong, NoToken, Overlong, Misplaced, OverLimit, Repeated, Undeclared, OpenInput, OpenOutput}
use Rattle.syntax.specs.declared.Refusal.TheVariants.{BadTrace, TraceOverLimit, SeenUndeclared, Unwritten}
use Rattle.syntax.specs.declared.Refusal.TheVariants.{OutputTooLong, WardSettings, BadWorkings, LineTooLong}
use Rattle.syntax.specs.Verdicts.{Verdict}
use Rattle.syntax.specs.Verdicts.{Accepted, Refused}
use Rattle.mode_rules.specs.Modes.{Known, none_ground, everything, is_ground, open_unless, open_byte, equate, settle, marks_for, same_mark, list_of, if_marked}
use Rattle.mode_rules.specs.Modes.{OpenArgument, ground_marked, undeclared_in_sheet, undeclared_in_goal, open_input, open_output, Walk, faulted, known}
use Rattle.mode_rules.specs.Modes.{unless_fault}
use Rattle.mode_rules.specs.Modes.{walk_on, in_both, start_known, first_of, walk_fault}
use Rattle.mode_rules.specs.Written.{unwritten}
use Rattle.mode_rules.specs.Checking.{faultless, goal_answer}

-- The ground test: none, or the byte that is told of a term that is not ground; and what an equation makes known ground.
pub record Ways : Type 0 where
  pub test : Known → Term → Option ℕ
  pub effect : Term → Term → Known → Known

-- before (ii): the ground test "gave yes or no", and the byte of 9 and 10 "was 0"
abbrev pub without_bytes : Ways
without_bytes = record { test = λ τ t. open_unless (is_ground τ t) 0; effect = settle }

-- before (xiv): "the lecture's single pass"
abbrev pub single_pass : Ways
single_pass = record { test = open_byte; effect = equate }

-- ---- checking in such ways, each definition as in `Modes` and `Checking`

unfoldable pub first_open : Ways → Mark → Known → List Mark → List Term → ℕ → Option OpenArgument
first_open way m τ [] ts n = none
first_open way m τ (k ∷ ks) [] n = none
first_open way m τ (k ∷ ks) (t ∷ ts) n =
    elim (if_marked (same_mark m k) (way.test τ t)) [ none ↦ first_open way m τ ks ts (suc n) | some b ↦ some (record { argument = n; byte = b }) ]

unfoldable pub call_walk : Ways → List Declaration → ℕ → ℕ → Known → Atom → Walk
call_walk way ds c l τ a =
    unless_fault (open_input c l a (first_open way input τ (marks_for ds a) (list_of a.args) 1)) (ground_marked output (marks_for ds a) (list_of a.args) τ)

unfoldable mutual
  pub literal_walk : Ways → List Declaration → ℕ → ℕ → Known → Literal → Walk
  literal_walk way ds c l τ (call a) = call_walk way ds c l τ a
  literal_walk way ds c l τ (equation t u) = known (way.effect t u τ)
  literal_walk way ds c l τ truth = known τ
  literal_walk way ds c l τ falsity = known everything
  literal_walk way ds c l τ (either y z) =
      walk_on (body_fault way ds c l τ y) (λ σ. walk_on (body_fault way ds c (literals_of y + l) τ z) (λ ρ. known (in_both σ ρ)))

  pub body_fault : Ways → List Declaration → ℕ → ℕ → Known → Body → Walk
  body_fault way ds c l τ done = known τ
  body_fault way ds c l τ (also lit b) = walk_on (literal_walk way ds c l τ lit) (λ σ. body_fault way ds c (literals_in lit + l) σ b)

unfoldable pub head_fault : Ways → List Declaration → ℕ → Atom → Walk → Option Refusal
head_fault way ds c h (faulted r) = some r
head_fault way ds c h (known σ) = open_output c h (first_open way output σ (marks_for ds h) (list_of h.args) 1)

unfoldable pub clause_fault : Ways → List Declaration → ℕ → Clause → Option Refusal
clause_fault way ds c cl = head_fault way ds c cl.head (body_fault way ds c 1 (start_known ds cl.head) cl.body)

unfoldable pub clauses_fault : Ways → List Declaration → ℕ → List Clause → Option Refusal
clauses_fault way ds c [] = none
clauses_fault way ds c (cl ∷ cls) = elim (clause_fault way ds c cl) [ none ↦ clauses_fault way ds (suc c) cls | some r ↦ some r ]

unfoldable pub sheet_fault : Ways → Bool → Sheet → Option Refusal
sheet_fault way stored sh = first_of (undeclared_in_sheet sh) (first_of (unwritten stored sh) (clauses_fault way sh.declarations 1 sh.clauses))

unfoldable pub goal_fault : Ways → Sheet → Goal → Option Refusal
goal_fault way sh g = elim (undeclared_in_goal sh g) [ none ↦ walk_fault (body_fault way sh.declarations 0 1 none_ground g.body) | some r ↦ some r ]

unfoldable pub checked_from : Ways → Bool → Outcome Sheet → Outcome Sheet
checked_from way stored (refused r) = refused r
checked_from way stored (accepted sh) = faultless sh (sheet_fault way stored sh)

unfoldable pub checked_with : Ways → Bool → List ℕ → Outcome Sheet
checked_with way stored s = checked_from way stored (sheet_of s)

-- the answer to a sheet
unfoldable pub check_verdict : Ways → List ℕ → Verdict
check_verdict way s = sheet_verdict (checked_with way false s)

unfoldable pub checked_goal_from : Ways → Sheet → Outcome Goal → Outcome Goal
checked_goal_from way sh (refused r) = refused r
checked_goal_from way sh (accepted g) = faultless g (goal_fault way sh g)

unfoldable pub checked_goal : Ways → Sheet → List ℕ → Outcome Goal
checked_goal way sh g = checked_goal_from way sh (goal_outcome g)

unfoldable pub check_goal_from : Ways → List ℕ → Outcome Sheet → Verdict
check_goal_from way g (refused r) = Refused in_sheet r
check_goal_from way g (accepted sh) = goal_answer sh (checked_goal way sh g)

-- the answer to a sheet and a goal
unfoldable pub check_goal_verdict : Ways → List ℕ → List ℕ → Verdict
check_goal_verdict way s g = check_goal_from way g (checked_with way false s)

-- ---- (ii): this byte set to 0

-- of refusals 9 and 10
abbrev pub without_byte : Refusal → Refusal
without_byte Settings = Settings
without_byte TooLong = TooLong
without_byte (NoToken byte) = NoToken byte
without_byte (Overlong byte) = Overlong byte
without_byte (Misplaced byte) = Misplaced byte
without_byte (OverLimit byte) = OverLimit byte
without_byte (Repeated byte) = Repeated byte
without_byte (Undeclared clause literal at len) = Undeclared clause literal at len
without_byte (OpenInput byte clause literal argument at len) = OpenInput 0 clause literal argument at len
without_byte (OpenOutput byte clause argument at len) = OpenOutput 0 clause argument at len
without_byte (BadTrace byte) = BadTrace byte
without_byte TraceOverLimit = TraceOverLimit
without_byte SeenUndeclared = SeenUndeclared
without_byte (Unwritten byte) = Unwritten byte
without_byte OutputTooLong = OutputTooLong
without_byte WardSettings = WardSettings
without_byte (BadWorkings byte) = BadWorkings byte
without_byte LineTooLong = LineTooLong

abbrev pub fault_without : Option Refusal → Option Refusal
fault_without none = none
fault_without (some r) = some (without_byte r)

abbrev pub walk_without : Walk → Walk
walk_without (faulted r) = faulted (without_byte r)
walk_without (known σ) = known σ

abbrev pub outcome_without : {A : Type 0} → Outcome A → Outcome A
outcome_without (refused r) = refused (without_byte r)
outcome_without (accepted x) = accepted x

abbrev pub verdict_without : Verdict → Verdict
verdict_without (Ok counts) = Ok counts
verdict_without (Err fault) = Refused fault.text (without_byte fault.refusal)

-- ---- (xiv): what it does to a verdict

-- refused with 9 or 10
abbrev pub ByMarks : Refusal → Type 0
ByMarks r = (9 ≤ (numbers_of r).number) × ((numbers_of r).number ≤ 10)

-- The same place or a later one, or a later test, of 9 and 10: "each clause in turn is taken through 9 along its body and then 10", "and in it the
-- lowest argument".
pub data NotBefore (a b : Five) : Type 0 where
  later_clause : a.clause < b.clause → NotBefore a b
  later_test : a.clause ≡ b.clause → a.number < b.number → NotBefore a b
  later_literal : a.clause ≡ b.clause → a.number ≡ b.number → a.literal < b.literal → NotBefore a b
  later_argument : a.clause ≡ b.clause → a.number ≡ b.number → a.literal ≡ b.literal → a.argument ≤ b.argument → NotBefore a b

-- from a verdict of the single pass to the verdict now
pub data VerdictMoved : Verdict → Verdict → Type 0 where
  -- "Sheets and goals accepted so far are accepted still."; "no other number moves"
  stays : {v : Verdict} → VerdictMoved v v
  -- "Of those refused with 9 or 10 some are now accepted"
  now_accepted : {text : Text} {r : Refusal} {declarations clauses : ℕ} → ByMarks r → VerdictMoved (Refused text r) (Accepted declarations clauses)
  -- "and some name a later place or meet a later test": 9 or 10 of the same text
  later : {text : Text} {r q : Refusal} → ByMarks r → ByMarks q → NotBefore (numbers_of r) (numbers_of q) → VerdictMoved (Refused text r) (Refused text q)
  -- or, the sheet being accepted now, a test of the goal
  goal_tested : {r q : Refusal} → ByMarks r → VerdictMoved (Refused in_sheet r) (Refused in_goal q)
