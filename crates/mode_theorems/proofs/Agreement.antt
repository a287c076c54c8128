-- The refusals 8 to 10 and Pfenning's judgment agree: a sheet, or a goal over it, is free of them exactly where it is well-moded.
-- The judgment has no rule for an undeclared predicate, so this holds with refusal 8 among them and for every sheet; a sheet or goal free of
-- 8 is refused by 9 or 10 exactly where the judgment has no derivation. `stored` is REQUESTS (x)'s mark: with it that is all (`Written true` asks
-- nothing), and without it a sheet is free of 16 too exactly where every declared predicate is written or exempt.
use Prim.Native.Nat.{ℕ}
use mathlib.Core.Path.{◌≡◌, refl}
use mathlib.Core.Logic.{◌↔◌}
use mathlib.Core.Bool.{Bool, true, false}
use mathlib.Core.List.{List}
use mathlib.Core.Option.{Option, none, some}
use native.Mathlib.Omega.{arith}
use lib.ListN.{length}
use Rattle.syntax.specs.Terms.{Sheet, Goal}
use Rattle.syntax.specs.Verdicts.{accepted, sheet_of, goal_outcome, sheet_verdict}
use Rattle.syntax.specs.declared.Refusal.{Refusal}
use Rattle.syntax.specs.Verdicts.{Accepted}
use Rattle.mode_rules.specs.Modes.{none_ground, Walk, faulted, known, body_fault, undeclared_in_sheet, undeclared_in_goal, clauses_fault, first_of, sheet_fault, walk_fault, goal_fault}
use Rattle.mode_rules.specs.Written.{unwritten, WrittenOrStored}
use Rattle.mode_rules.specs.Checking.{faultless, checked_from, checked_with, verdict_with, checked_goal_from, checked_goal, goal_answer, check_goal_from, check_goal_verdict}
use Rattle.mode_rules.specs.Judgment.{WellModed, WellModedGoal}
use Rattle.mode_theorems.proofs.Bodies.{first-none, second_none, both-none, nothing-wide, body-declared, body-holds, body-derived, clauses-declared, clauses-hold, clauses-derived}
use Rattle.mode_theorems.proofs.Written.{written-accepted, written-derived}

-- ---- sheets

sheet_accepted : (stored : Bool) (sh : Sheet) → WellModed sh → WrittenOrStored stored sh → sheet_fault stored sh ≡ none
unfolding sheet_fault undeclared_in_sheet
sheet_accepted stored sh m w =
    both-none (undeclared_in_sheet sh) (first_of (unwritten stored sh) (clauses_fault sh.declarations 1 sh.clauses)) (clauses-declared m 1)
    (both-none (unwritten stored sh) (clauses_fault sh.declarations 1 sh.clauses) (written-accepted stored sh w) (clauses-hold m 1))

module _ (stored : Bool) (sh : Sheet) (e : sheet_fault stored sh ≡ none) where
  -- free of 8; of 16 unless it is marked; of 9 and 10
  pub sheet-declared : undeclared_in_sheet sh ≡ none
  unfolding sheet_fault
  sheet-declared = first-none (undeclared_in_sheet sh) (first_of (unwritten stored sh) (clauses_fault sh.declarations 1 sh.clauses)) e

  after-declared : first_of (unwritten stored sh) (clauses_fault sh.declarations 1 sh.clauses) ≡ none
  unfolding sheet_fault
  after-declared = second_none (undeclared_in_sheet sh) (first_of (unwritten stored sh) (clauses_fault sh.declarations 1 sh.clauses)) e

  pub sheet-written : unwritten stored sh ≡ none
  sheet-written = first-none (unwritten stored sh) (clauses_fault sh.declarations 1 sh.clauses) after-declared

  pub sheet-marks : clauses_fault sh.declarations 1 sh.clauses ≡ none
  sheet-marks = second_none (unwritten stored sh) (clauses_fault sh.declarations 1 sh.clauses) after-declared

sheet-derived : (stored : Bool) (sh : Sheet) → sheet_fault stored sh ≡ none → WellModed sh × WrittenOrStored stored sh
unfolding undeclared_in_sheet
sheet-derived stored sh e =
    (clauses-derived sh.declarations sh.clauses 1 (sheet-declared stored sh e) (sheet-marks stored sh e), written-derived stored sh (sheet-written stored sh e))

-- A sheet has no fault, 8 to 10 or 16, if and only if the judgment has a derivation for it and every declared predicate is written, which is not asked
-- with the mark.
pub sheet-agrees : (stored : Bool) (sh : Sheet) → (sheet_fault stored sh ≡ none) ↔ (WellModed sh × WrittenOrStored stored sh)
sheet-agrees stored sh = (sheet-derived stored sh, λ w. sheet_accepted stored sh w.0 w.1)

-- With the mark: if and only if the judgment has a derivation for it.
pub stored-agrees : (sh : Sheet) → (sheet_fault true sh ≡ none) ↔ WellModed sh
stored-agrees sh = ((λ e. (sheet-derived true sh e).0), (λ m. sheet_accepted true sh m tt))

never_both : {A : Type 0} (o : Option A) (r : A) → o ≡ some r → o ≡ none → ⊥
never_both o r p q = let z : ◌≡◌ {A = ℕ} 0 1 = cc in omega arith

-- A sheet that is refused has no derivation, if it is marked or every declared predicate is written.
pub sheet-refused : (stored : Bool) (sh : Sheet) (r : Refusal) → sheet_fault stored sh ≡ some r → WrittenOrStored stored sh → ¬ WellModed sh
sheet-refused stored sh r e w m = never_both (sheet_fault stored sh) r e (sheet_accepted stored sh m w)

-- ---- goals

goal_accepted : (sh : Sheet) (g : Goal) → WellModedGoal sh g → goal_fault sh g ≡ none
unfolding goal_fault undeclared_in_goal walk_fault
goal_accepted sh g m =
    both-none (undeclared_in_goal sh g) (walk_fault (body_fault sh.declarations 0 1 none_ground g.body)) (body-declared g.body m.1 0 1)
    (rw (body-holds g.body m.1 nothing-wide 0 1))

goal-derived : (sh : Sheet) (g : Goal) → goal_fault sh g ≡ none → WellModedGoal sh g
unfolding goal_fault undeclared_in_goal walk_fault
goal-derived sh g e =
    go (body_fault sh.declarations 0 1 none_ground g.body) refl
    (second_none (undeclared_in_goal sh g) (walk_fault (body_fault sh.declarations 0 1 none_ground g.body)) e)
  where
    go : (w : Walk) → body_fault sh.declarations 0 1 none_ground g.body ≡ w → walk_fault w ≡ none → WellModedGoal sh g
    go (faulted r) p h = absurd (let z : ◌≡◌ {A = ℕ} 0 1 = cc in omega arith)
    go (known σ) p h =
        (σ, body-derived sh.declarations 0 g.body 1 none_ground σ nothing-wide (first-none (undeclared_in_goal sh g) (walk_fault (body_fault sh.declarations 0 1 none_ground g.body)) e) p)

-- A goal over a sheet has no fault, 8 or 9, if and only if the judgment has a derivation for it.
pub goal-agrees : (sh : Sheet) (g : Goal) → (goal_fault sh g ≡ none) ↔ WellModedGoal sh g
goal-agrees sh g = (goal-derived sh g, goal_accepted sh g)

-- A goal that is refused has no derivation.
pub goal-refused : (sh : Sheet) (g : Goal) (r : Refusal) → goal_fault sh g ≡ some r → ¬ WellModedGoal sh g
goal-refused sh g r e m = never_both (goal_fault sh g) r e (goal_accepted sh g m)

-- ---- texts

module _ {A : Type 0} where
  faultless-none : (x : A) (o : Option Refusal) (y : A) → faultless x o ≡ accepted y → o ≡ none
  unfolding faultless
  faultless-none x none y e = refl
  faultless-none x (some r) y e = absurd (let z : ◌≡◌ {A = ℕ} 0 1 = cc in omega arith)

-- Of a text that is read as a sheet: it is accepted if and only if the judgment has a derivation for the sheet and every declared predicate is
-- written, which is not asked with the mark.
pub text-agrees : (stored : Bool) (s : List ℕ) (sh : Sheet) → sheet_of s ≡ accepted sh → (checked_with stored s ≡ accepted sh) ↔ (WellModed sh × WrittenOrStored stored sh)
unfolding checked_with checked_from faultless
text-agrees stored s sh e =
    ((λ h. sheet-derived stored sh (faultless-none sh (sheet_fault stored sh) sh (rw e at h))), (λ w. rw (e, sheet_accepted stored sh w.0 w.1)))

-- The same of the answer, with its counts.
pub verdict-agrees : (stored : Bool) (s : List ℕ) (sh : Sheet)
    → sheet_of s ≡ accepted sh
    → (verdict_with stored s ≡ Accepted (length sh.declarations) (length sh.clauses)) ↔ (WellModed sh × WrittenOrStored stored sh)
unfolding verdict_with checked_with checked_from sheet_verdict faultless
verdict-agrees stored s sh e =
    ((λ h. sheet-derived stored sh (go (sheet_fault stored sh) (rw e at h))), (λ w. rw (e, sheet_accepted stored sh w.0 w.1)))
  where
    go : (o : Option Refusal) → sheet_verdict (faultless sh o) ≡ Accepted (length sh.declarations) (length sh.clauses) → o ≡ none
    go none h = refl
    go (some r) h = absurd (let z : ◌≡◌ {A = ℕ} 0 1 = cc in omega arith)

-- Of a text that is read as a goal, over a sheet.
pub goal-text-agrees : (sh : Sheet) (t : List ℕ) (g : Goal) → goal_outcome t ≡ accepted g → (checked_goal sh t ≡ accepted g) ↔ WellModedGoal sh g
unfolding checked_goal checked_goal_from faultless
goal-text-agrees sh t g e =
    ((λ h. goal-derived sh g (faultless-none g (goal_fault sh g) g (rw e at h))), (λ m. rw (e, goal_accepted sh g m)))

module _ (t : List ℕ) (sh : Sheet) (g : Goal) (n m : ℕ) where
  sheet-first : (o : Option Refusal) → check_goal_from t (faultless sh o) ≡ Accepted n m → o ≡ none
  unfolding check_goal_from faultless
  sheet-first none h = refl
  sheet-first (some r) h = absurd (let z : ◌≡◌ {A = ℕ} 0 1 = cc in omega arith)

  goal-then : (o : Option Refusal) → check_goal_from t (faultless sh o) ≡ Accepted n m → goal_answer sh (checked_goal sh t) ≡ Accepted n m
  unfolding check_goal_from faultless
  goal-then none h = h
  goal-then (some r) h = absurd (let z : ◌≡◌ {A = ℕ} 0 1 = cc in omega arith)

  goal-faultless : (o : Option Refusal) → goal_answer sh (faultless g o) ≡ Accepted n m → o ≡ none
  unfolding goal_answer faultless
  goal-faultless none h = refl
  goal-faultless (some r) h = absurd (let z : ◌≡◌ {A = ℕ} 0 1 = cc in omega arith)

-- Of two texts that are read as a sheet and a goal, by checking, which gives no mark: both are accepted if and only if the judgment has a derivation
-- for each and every declared predicate is written.
pub both-agree : (s t : List ℕ) (sh : Sheet) (g : Goal)
    → sheet_of s ≡ accepted sh
    → goal_outcome t ≡ accepted g
    → (check_goal_verdict s t ≡ Accepted (length sh.declarations) (length sh.clauses)) ↔ (WellModed sh × WrittenOrStored false sh × WellModedGoal sh g)
unfolding check_goal_verdict check_goal_from goal_answer checked_with checked_from checked_goal checked_goal_from sheet_verdict faultless
both-agree s t sh g e d = (over, (λ w. rw (e, sheet_accepted false sh w.0 w.1) (rw (d, goal_accepted sh g w.2))))
  where
    n : ℕ
    n = length sh.declarations

    m : ℕ
    m = length sh.clauses

    over : check_goal_verdict s t ≡ Accepted n m → WellModed sh × WrittenOrStored false sh × WellModedGoal sh g
    over h =
        let o : WellModed sh × WrittenOrStored false sh = sheet-derived false sh (sheet-first t sh g n m (sheet_fault false sh) (rw e at h)) in
        (o.0, o.1, goal-derived sh g (goal-faultless t sh g n m (goal_fault sh g) (rw d at (goal-then t sh g n m (sheet_fault false sh) (rw e at h)))))
