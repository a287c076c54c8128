-- Laws of a goal over a sheet that stands in its tables: one for each way out of `pilvaust::running::read_goal_and_run`. Assumes nothing.
use Prim.Native.Nat.{ℕ, ◌-◌, ◌≤◌}
use native.Mathlib.Omega.{arith}
use mathlib.Core.Path.{◌≡◌, refl, sym, ap, ◌∙◌, subst⁻¹}
use mathlib.Core.Bool.{Bool, true, false}
use mathlib.Core.List.{List}
use lib.Dec.{leb}
use lib.ListN.{length, take, drop, length-drop}
use lib.Seq.{sets, take_all}
use borrow.Author.Tests.{leb-true}
use Rattle.syntax.specs.Words.{goal_words}
use Rattle.syntax.specs.Spans.{names_from, met}
use Rattle.syntax.specs.Limits.{goal_bytes, variables}
use Rattle.answers.specs.Words.{Named}
use Rattle.syntax.specs.Terms.{Goal}
use Rattle.syntax.specs.Reading.{read_goal}
use Rattle.syntax.specs.Verdicts.{Outcome, refused, accepted, goal_from, goal_outcome}
use Rattle.syntax.specs.declared.Text.{Text}
use Rattle.syntax.specs.declared.Text.TheVariants.{Goal as in_goal}
use Rattle.syntax.specs.declared.Refusal.{Refusal}
use Rattle.syntax.specs.declared.Refusal.TheVariants.{TooLong}
use Rattle.syntax.specs.Verdicts.{Ended as Ended-by}
use Rattle.mode_rules.specs.Modes.{goal_fault}
use Rattle.mode_rules.specs.Checking.{faultless, checked_goal_from, checked_goal}
use Rattle.machine.specs.Runs.{RunOutcome, stopped, reported, run, over_goal, run_answer, run_text}
use Rattle.marks.specs.Tables.{GoalAt, DeclarationsAt}
use Rattle.marks.proofs.ClausesSheets.{sheet-declarations}
use Rattle.std.specs.Prelude.{Result, Ok, Err}
use Rattle.syntax.specs.declared.Fault.{Fault}
use Rattle.marks.specs.Answers.{Checked, checked_of}
use Rattle.run_layout.proofs.Limits.{goal-limited}
use Rattle.run.specs.Running.{RunWritten}
use Rattle.run.specs.Programs.{Programmed}
use Rattle.pilvaust.specs.Tables.{GoalInTable, GoalTabled, SheetTabled}
use Rattle.pilvaust.specs.Goals.{ProgramReady, OutcomeWritten}
use Rattle.output.specs.declared.results.Written.{Written}
use Rattle.pilvaust.specs.declared.reading.GoalRead.{GoalRead}
use Rattle.pilvaust.proofs.ReadingLaws.{never}
use Rattle.pilvaust.proofs.Checking.{goal-of, standing, fine-none, fault-some, goal-refused-by, goal-stands-at, checked-over}
use Rattle.output.specs.Results.{RunRefused, RunEnded}

-- ---- the words of a goal's variables

-- as a part of the goal's table
abbrev pub last-words : List ℕ → List ℕ
last-words goals = take (length goals - (length goals - variables)) (drop (length goals - variables) goals)

pub last-met : (goals : List ℕ) → last-words goals ≡ met goals
last-met goals = take_all (length goals - (length goals - variables)) (met goals) (simp length-drop (omega arith))

module _ {sheet table : List ℕ} {k : ℕ} {goal goals : List ℕ} {literals count : ℕ} where
  unfoldable pub part-programmed : Programmed sheet table k goal goals literals (met goals) count → Programmed sheet table k goal goals literals (last-words goals) count
  part-programmed w = record {
    tables = w.tables;
    limits = w.limits;
    goal_limits = w.goal_limits;
    named = subst⁻¹ (λ (l : List ℕ). Named goal l count) (last-met goals) w.named;
    names_are = w.names_are ∙ ap (λ (l : List ℕ). names_from goal l 0 count) (sym (last-met goals));
  }

  pub part-runs : {allowance wanted : ℕ} {old new : List ℕ} {r : Written} → ((w : Programmed sheet table k goal goals literals (last-words goals) count) → RunWritten w.tables.sh w.tables.g allowance wanted old new r)
      → (w : Programmed sheet table k goal goals literals (met goals) count) → RunWritten w.tables.sh w.tables.g allowance wanted old new r
  unfolding part-programmed
  part-runs f w = f (part-programmed w)

-- ---- the length of a goal that is accepted

pub goal_short : (s : List ℕ) (g : Goal) → goal_outcome s ≡ accepted g → length s ≤ goal_bytes
unfolding goal_outcome
goal_short s g e = by (leb (length s) goal_bytes) refl e
  where
    by : (b : Bool) → leb (length s) goal_bytes ≡ b → elim b as (λ _. Outcome Goal) [ true ↦ goal_from (read_goal s) | false ↦ refused TooLong ] ≡ accepted g → length s ≤ goal_bytes
    by true t e1 = leb-true (length s) goal_bytes t
    by false t e1 = absurd (never TooLong g e1)

-- a refusal writes nothing
pub stopped-answers : (o : RunOutcome) (t : Text) (q : Refusal) → o ≡ stopped t q → (u : Result Written Fault) → RunRefused t q u → (old : List ℕ) → OutcomeWritten o old old u
unfolding run_answer run_text
stopped-answers o t q e u eu old =
    record {
      is = eu.0 ∙ sym (ap run_answer e);
      bytes_is = eu.1 ∙ sym (ap (λ (x : RunOutcome). length (run_text x)) e);
      text_is = sym (ap (λ (x : RunOutcome). sets old 0 (run_text x)) e);
    }

module _ (s declared : List ℕ) (n : ℕ) (table : List ℕ) (k : ℕ) where
  abbrev pub over-of : ProgramReady s declared n table k → SheetTabled s declared n k
  over-of w = record { sheet = w.stands.sheet; has = w.stands.has_declarations; count = w.stands.declarations_count; clauses = w.stands.clauses_count; stand = w.stands.stands.declarations }

  pub ready-declarations : ProgramReady s declared n table k → DeclarationsAt s declared n
  ready-declarations w = sheet-declarations w.stands

  module _ (g goals : List ℕ) (r : GoalRead) (t : GoalTabled g goals (Ok r)) where
    abbrev pub the-goal : Goal
    the-goal = (goal-of s declared n k g goals r t).0

    pub goal-at : ProgramReady s declared n table k → GoalAt s declared n g goals r.literals
    goal-at w = goal-stands-at s declared n k g goals r t (over-of w)

    unfoldable pub goal-programmed : length goals ≤ goal_words → ProgramReady s declared n table k → Programmed s table k g goals r.literals (met goals) r.count
    goal-programmed short w =
        let x : GoalInTable g goals r.literals r.count the-goal = standing s declared n k g goals r t in
        let y : goal_outcome g ≡ accepted the-goal = (goal-of s declared n k g goals r t).1 in
        record {
          tables = record {
            sh = w.stands.sheet;
            g = the-goal;
            has_clauses = w.stands.has_clauses;
            clauses_count = w.stands.clauses_count;
            clauses_stand = w.stands.stands.clauses;
            has_goal = x.has;
            literals_count = x.count;
            goal_stands = x.stands;
            sheet_short = w.short;
            goal_short = goal_short g the-goal y;
            table_short = w.table_short;
            goals_short = short;
          };
          limits = w.limits;
          goal_limits = goal-limited g the-goal y;
          named = x.named;
          names_are = x.names_are;
        }

  module _ (g goals : List ℕ) (allowance wanted : ℕ) where
    -- the run of the goal, with room for so much text
    abbrev outcome : ProgramReady s declared n table k → List ℕ → RunOutcome
    outcome w old = over_goal w.stands.sheet allowance wanted (length old) (checked_goal w.stands.sheet g)

    pub goal-stops : (f : Fault) → GoalTabled g goals (Err f) → (u : Result Written Fault) → RunRefused f.text f.refusal u → (old : List ℕ) (w : ProgramReady s declared n table k)
        → OutcomeWritten (outcome w old) old old u
    unfolding checked_goal checked_goal_from over_goal
    goal-stops f t u eu old w =
        let o : (goal_outcome g ≡ refused f.refusal) × (f.text ≡ in_goal) = goal-refused-by (goal_outcome g) f.text f.refusal (sym t) in
        let c : outcome w old ≡ stopped in_goal f.refusal = ap (λ (y : Outcome Goal). over_goal w.stands.sheet allowance wanted (length old) (checked_goal_from w.stands.sheet y)) o.0 in
        stopped-answers (outcome w old) f.text f.refusal (c ∙ ap (λ (y : Text). stopped y f.refusal) (sym o.1)) u eu old

    module _ (r : GoalRead) (t : GoalTabled g goals (Ok r)) where
      module _ (ck : Checked) (ec : (w : GoalAt s declared n g goals r.literals) → ck ≡ checked_of (goal_fault w.sheet w.goal)) where
        goal-checked : (w : ProgramReady s declared n table k) → ck ≡ checked_of (goal_fault w.stands.sheet (the-goal g goals r t))
        goal-checked w = checked-over s declared n k g goals r t ck ec (over-of w)

        pub fault-stops : (q : Refusal) → ck ≡ Err q → (u : Result Written Fault) → RunRefused in_goal q u → (old : List ℕ) (w : ProgramReady s declared n table k)
            → OutcomeWritten (outcome w old) old old u
        unfolding checked_goal checked_goal_from faultless over_goal
        fault-stops q h u eu old w =
            let o : checked_goal w.stands.sheet g ≡ refused q = ap (checked_goal_from w.stands.sheet) (goal-of s declared n k g goals r t).1 ∙ ap (faultless (the-goal g goals r t)) (fault-some (goal_fault w.stands.sheet (the-goal g goals r t)) q (sym h ∙ goal-checked w)) in
            stopped-answers (outcome w old) in_goal q (ap (over_goal w.stands.sheet allowance wanted (length old)) o) u eu old

        pub goal-runs : ck ≡ Ok tt → length goals ≤ goal_words → (x : Written) (old new : List ℕ)
            → ((p : Programmed s table k g goals r.literals (met goals) r.count) → RunWritten p.tables.sh p.tables.g allowance wanted old new x)
            → (v : Result Written Fault) → RunEnded x.report x.bytes v → (w : ProgramReady s declared n table k) → OutcomeWritten (outcome w old) old new v
        unfolding checked_goal checked_goal_from faultless over_goal reported run_answer run_text goal-programmed
        goal-runs h short x old new f v ev w =
            let o : checked_goal w.stands.sheet g ≡ accepted (the-goal g goals r t) = ap (checked_goal_from w.stands.sheet) (goal-of s declared n k g goals r t).1 ∙ ap (faultless (the-goal g goals r t)) (fine-none (goal_fault w.stands.sheet (the-goal g goals r t)) (sym h ∙ goal-checked w)) in
            let c : outcome w old ≡ reported (run w.stands.sheet (the-goal g goals r t) allowance wanted (length old)) = ap (over_goal w.stands.sheet allowance wanted (length old)) o in
            let u : RunWritten w.stands.sheet (the-goal g goals r t) allowance wanted old new x = f (goal-programmed g goals r t short w) in
            record {
              is = ev.0 ∙ (ap Ended-by u.is ∙ sym (ap run_answer c));
              bytes_is = ev.1 ∙ (u.bytes_is ∙ sym (ap (λ (y : RunOutcome). length (run_text y)) c));
              text_is = u.text_is ∙ sym (ap (λ (y : RunOutcome). sets old 0 (run_text y)) c);
            }
