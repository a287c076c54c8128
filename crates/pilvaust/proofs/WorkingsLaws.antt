-- Workings checked over two texts: one law for each way out. Assumes nothing.
use Prim.Native.Nat.{ℕ, ◌≤◌}
use native.Mathlib.Omega.{arith}
use mathlib.Core.Path.{◌≡◌, refl, sym, ap, ◌∙◌, subst⁻¹}
use mathlib.Core.Bool.{false}
use mathlib.Core.List.{List}
use lib.ListN.{length}
use Rattle.std.specs.Prelude.{Result, Ok, Err}
use Rattle.syntax.specs.Words.{goal_words, sheet_words}
use Rattle.syntax.specs.Spans.{met}
use Rattle.syntax.specs.Terms.{Sheet, Goal}
use Rattle.syntax.specs.Verdicts.{Outcome, refused, accepted, goal_outcome, Verdict, Accepted, Refused}
use Rattle.syntax.specs.declared.Fault.{Fault}
use Rattle.syntax.specs.declared.Text.{Text}
use Rattle.syntax.specs.declared.Text.TheVariants.{Sheet as in_sheet, Goal as in_goal}
use Rattle.syntax.specs.declared.Refusal.{Refusal}
use Rattle.mode_rules.specs.Modes.{goal_fault}
use Rattle.mode_rules.specs.Checking.{checked_with, verdict_with, faultless, checked_goal_from, checked_goal}
use Rattle.marks.specs.Tables.{GoalAt}
use Rattle.marks.specs.Answers.{Checked, checked_of}
use Rattle.run_layout.proofs.Limits.{checked-sheet-limited, program-limited}
use Rattle.run.specs.Programs.{Programmed}
use Rattle.derivations.specs.Workings.{records_of, replay, begun, WorkingsOutcome, rejected, over_replay, over_goal, over_sheet, workings_outcome, workings_answer, workings_text}
use Rattle.workings.specs.Checks.{OutcomeTold}
use Rattle.pilvaust.specs.Tables.{Tabled, GoalTabled}
use Rattle.pilvaust.specs.Goals.{ProgramReady}
use Rattle.pilvaust.specs.declared.reading.GoalRead.{GoalRead}
use Rattle.pilvaust.proofs.Checking.{goal-of, fine-none, fault-some, goal-refused-by, checked-over}
use Rattle.pilvaust.proofs.GoalLaws.{last-words, part-programmed, over-of, the-goal, goal-programmed}
use Rattle.pilvaust.proofs.ReadingEntries.{refused-by}
use Rattle.pilvaust.proofs.SheetLaws.{sheet_short, accepted-sheet, sheet-at}

-- a refusal writes nothing
refusal-told : (o : WorkingsOutcome) (t : Text) (q : Refusal) → o ≡ rejected t q → (old : List ℕ) → OutcomeTold o old old (Err (record { text = t; refusal = q }))
unfolding workings_answer workings_text
refusal-told o t q e old = subst⁻¹ (λ (x : WorkingsOutcome). OutcomeTold x old old (Err (record { text = t; refusal = q }))) e (record { is = refl; text_is = refl })

-- ---- a goal

module _ {sheet table : List ℕ} {k : ℕ} {goal goals : List ℕ} {literals count : ℕ} (workings old new : List ℕ) (x : Result ℕ Fault) where
  pub part-told : ((w : Programmed sheet table k goal goals literals (last-words goals) count)
      → OutcomeTold (over_replay w.tables.g (length old) (replay w.tables.sh (records_of workings) (begun w.tables.g))) old new x)
      → (w : Programmed sheet table k goal goals literals (met goals) count)
      → OutcomeTold (over_replay w.tables.g (length old) (replay w.tables.sh (records_of workings) (begun w.tables.g))) old new x
  unfolding part-programmed
  part-told f w = f (part-programmed w)

module _ (s declared : List ℕ) (n : ℕ) (table : List ℕ) (k : ℕ) (g goals workings : List ℕ) where
  abbrev outcome : ProgramReady s declared n table k → List ℕ → WorkingsOutcome
  outcome w old = over_goal workings (length old) w.stands.sheet (checked_goal w.stands.sheet g)

  pub unread-told : (f : Fault) → GoalTabled g goals (Err f) → (old : List ℕ) (w : ProgramReady s declared n table k) → OutcomeTold (outcome w old) old old (Err f)
  unfolding checked_goal checked_goal_from over_goal
  unread-told f t old w =
      let o : (goal_outcome g ≡ refused f.refusal) × (f.text ≡ in_goal) = goal-refused-by (goal_outcome g) f.text f.refusal (sym t) in
      let c : outcome w old ≡ rejected in_goal f.refusal = ap (λ (y : Outcome Goal). over_goal workings (length old) w.stands.sheet (checked_goal_from w.stands.sheet y)) o.0 in
      refusal-told (outcome w old) f.text f.refusal (c ∙ ap (λ (y : Text). rejected y f.refusal) (sym o.1)) old

  module _ (r : GoalRead) (t : GoalTabled g goals (Ok r)) (ck : Checked) (ec : (w : GoalAt s declared n g goals r.literals) → ck ≡ checked_of (goal_fault w.sheet w.goal)) where
    abbrev goal-here : Goal
    goal-here = the-goal s declared n table k g goals r t

    goal-checked : (w : ProgramReady s declared n table k) → ck ≡ checked_of (goal_fault w.stands.sheet goal-here)
    goal-checked w = checked-over s declared n k g goals r t ck ec (over-of s declared n table k w)

    pub unfit-told : (q : Refusal) → ck ≡ Err q → (old : List ℕ) (w : ProgramReady s declared n table k)
        → OutcomeTold (outcome w old) old old (Err (record { text = in_goal; refusal = q }))
    unfolding checked_goal checked_goal_from faultless over_goal
    unfit-told q h old w =
        let o : checked_goal w.stands.sheet g ≡ refused q = ap (checked_goal_from w.stands.sheet) (goal-of s declared n k g goals r t).1 ∙ ap (faultless goal-here) (fault-some (goal_fault w.stands.sheet goal-here) q (sym h ∙ goal-checked w)) in
        refusal-told (outcome w old) in_goal q (ap (over_goal workings (length old) w.stands.sheet) o) old

    pub goal-told : ck ≡ Ok tt → (short : length goals ≤ goal_words) (old new : List ℕ) (x : Result ℕ Fault)
        → ((p : Programmed s table k g goals r.literals (met goals) r.count)
        → OutcomeTold (over_replay p.tables.g (length old) (replay p.tables.sh (records_of workings) (begun p.tables.g))) old new x)
        → (w : ProgramReady s declared n table k) → OutcomeTold (outcome w old) old new x
    unfolding checked_goal checked_goal_from faultless over_goal goal-programmed
    goal-told h short old new x f w =
        let o : checked_goal w.stands.sheet g ≡ accepted goal-here = ap (checked_goal_from w.stands.sheet) (goal-of s declared n k g goals r t).1 ∙ ap (faultless goal-here) (fine-none (goal_fault w.stands.sheet goal-here) (sym h ∙ goal-checked w)) in
        let c : outcome w old ≡ over_replay goal-here (length old) (replay w.stands.sheet (records_of workings) (begun goal-here)) = ap (over_goal workings (length old) w.stands.sheet) o in
        subst⁻¹ (λ (y : WorkingsOutcome). OutcomeTold y old new x) c (f (goal-programmed s declared n table k g goals r t short w))

-- ---- a sheet

module _ (s declared table : List ℕ) (g workings : List ℕ) (v : Verdict) (ev : v ≡ verdict_with false s)
    (holds : (sh : Sheet) → checked_with false s ≡ accepted sh → Tabled s declared table sh) where
  pub sheet-refused-told : (x : Text) (q : Refusal) → v ≡ Refused x q → (old : List ℕ) → OutcomeTold (workings_outcome s g workings (length old)) old old (Err (record { text = x; refusal = q }))
  unfolding verdict_with workings_outcome over_sheet
  sheet-refused-told x q h old =
      let o : (checked_with false s ≡ refused q) × (x ≡ in_sheet) = refused-by (checked_with false s) x q (sym ev ∙ h) in
      refusal-told (workings_outcome s g workings (length old)) x q
      (ap (over_sheet g workings (length old)) o.0 ∙ ap (λ (y : Text). rejected y q) (sym o.1)) old

  module _ (n k : ℕ) (h : v ≡ Accepted n k) (short : length table ≤ sheet_words) where
    abbrev of : (sh : Sheet) × (checked_with false s ≡ accepted sh) × (n ≡ length sh.declarations) × (k ≡ length sh.clauses)
    of = accepted-sheet false s declared table v ev holds n k h

    pub workings-ready : ProgramReady s declared n table k
    unfolding sheet-at
    workings-ready =
        record {
          stands = sheet-at false s declared table v ev holds n k h;
          limits = program-limited (checked-sheet-limited false s of.0 of.1);
          short = omega (arith, sheet_short false s of.0 of.1);
          table_short = omega (arith, short);
        }

    pub sheet-told : (old new : List ℕ) (x : Result ℕ Fault)
        → ((w : ProgramReady s declared n table k) → OutcomeTold (over_goal workings (length old) w.stands.sheet (checked_goal w.stands.sheet g)) old new x)
        → OutcomeTold (workings_outcome s g workings (length old)) old new x
    unfolding workings_outcome over_sheet workings-ready sheet-at
    sheet-told old new x p =
        subst⁻¹ (λ (y : WorkingsOutcome). OutcomeTold y old new x) (ap (over_sheet g workings (length old)) of.1) (p workings-ready)
