-- Every run is the step repeated until the first end that applies, so its steps are the beginning of the list that the counts speak of; and no
-- argument is left open over texts, whatever the allowance, the wanted answers and the room.
use Prim.Native.Nat.{ℕ, zero, suc, ◌+◌, ◌≤◌, ◌<◌}
use native.Mathlib.Omega.{arith}
use native.Mathlib.Nat.{not-suc-le-zero}
use mathlib.Core.Path.{◌≡◌, refl, sym, ap, ◌∙◌, subst}
use mathlib.Core.Bool.{Bool, true, false}
use mathlib.Core.List.{List, [], ◌∷◌}
use mathlib.Core.Option.{Option, none, some}
use lib.Dec.{leb}
use Rattle.syntax.specs.Terms.{Sheet, Goal}
use Rattle.syntax.specs.Verdicts.{Outcome, refused, accepted, sheet_of, goal_outcome}
use Rattle.syntax.specs.declared.Refusal.{Refusal}
use Rattle.syntax.specs.declared.Refusal.TheVariants.{Settings}
use Rattle.syntax.specs.declared.Text.{Text}
use Rattle.syntax.specs.declared.Text.TheVariants.{Sheet as in_sheet, Goal as in_goal, Neither}
use Rattle.syntax.specs.Verdicts.{Accepted, Refused}
use Rattle.mode_rules.specs.Modes.{sheet_fault, goal_fault}
use Rattle.mode_rules.specs.Checking.{faultless, checked_from, checked_with, checked_sheet, checked_goal_from, checked_goal, goal_answer, check_goal_from, check_goal_verdict}
use Rattle.machine.specs.Machine.{Alternative, step, pile_after}
use Rattle.machine.specs.Runs.{RunEnd, Wanted, Done, Steps, Progress, is_empty, endings, first_end, advance, advanced, end_or, run_from, begun, run, Report, RunSettings, RunOutcome, stopped, ran, over_goal, over_sheet, in_range, run_outcome}
use Rattle.machine.specs.Counts.{counted_on, counted_step, tally}
use Rattle.machine.specs.Claims.{BothZero, EndsAfter, Beginning, ZeroOver, RunOver}
use Rattle.machine_theorems.proofs.NothingOpen.{nothing-open}

-- ---- a run is the step repeated

module _ (sh : Sheet) (g : Goal) (wanted room : ℕ) where
  -- with nothing left of the allowance an end applies
  used-up : (p : Progress) → first_end (endings sh g wanted room 0 p) ≡ none → ⊥
  unfolding first_end
  used-up p e = go (leb wanted p.answers) (is_empty p.pile) e
    where
      never : (k : RunEnd) → some k ≡ none → ⊥
      never k q = let z : ◌≡◌ {A = ℕ} 0 1 = cc in omega arith

      go : (a b : Bool) → ◌≡◌ {A = Option RunEnd} (elim b [ true ↦ some Done | false ↦ elim a [ true ↦ some Wanted | false ↦ some Steps ] ]) none → ⊥
      go a true q = never Done q
      go true false q = never Wanted q
      go false false q = never Steps q

  run_ends : (n : ℕ) (p : Progress) → EndsAfter sh g n wanted room p (run_from sh g wanted room n p)
  unfolding run_from end_or advanced
  run_ends zero p = go (first_end (endings sh g wanted room 0 p)) refl
    where
      go : (o : Option RunEnd) → first_end (endings sh g wanted room 0 p) ≡ o → EndsAfter sh g 0 wanted room p (end_or p o (λ _. record { kind = Steps; at = p }))
      go none e = absurd (used-up p e)
      go (some k) e = record { taken = 0; left = 0; within = refl; state = refl; applies = e; none_before = λ j l q h. absurd (not-suc-le-zero h) }
  run_ends (suc n) p = go (first_end (endings sh g wanted room (suc n) p)) refl (run_ends n (advance sh g p))
    where
      before : (m : ℕ) → first_end (endings sh g wanted room (suc n) p) ≡ none
          → ((k l : ℕ) → k + l ≡ n → k < m → first_end (endings sh g wanted room l (advanced sh g k (advance sh g p))) ≡ none)
          → (k l : ℕ) → k + l ≡ suc n → k < suc m → first_end (endings sh g wanted room l (advanced sh g k p)) ≡ none
      before m e h zero l q r = subst (λ (x : ℕ). first_end (endings sh g wanted room x p) ≡ none) (let z : suc n ≡ l = omega arith in z) e
      before m e h (suc k) l q r = h k l (omega arith) (omega arith)

      go : (o : Option RunEnd) → first_end (endings sh g wanted room (suc n) p) ≡ o → EndsAfter sh g n wanted room (advance sh g p) (run_from sh g wanted room n (advance sh g p))
          → EndsAfter sh g (suc n) wanted room p (end_or p o (λ _. run_from sh g wanted room n (advance sh g p)))
      go none e i =
          let w : i.taken + i.left ≡ n = i.within in
          record { taken = suc i.taken; left = i.left; within = omega arith; state = i.state; applies = i.applies; none_before = before i.taken e i.none_before }
      go (some k) e i = record { taken = 0; left = suc n; within = omega arith; state = refl; applies = e; none_before = λ j l q h. absurd (not-suc-le-zero h) }

-- "the run is this step repeated", up to where RULES ends it
pub run_spec : (sh : Sheet) (g : Goal) (allowance wanted room : ℕ) → EndsAfter sh g allowance wanted room (begun sh g) (run sh g allowance wanted room)
unfolding run
run_spec sh g allowance wanted room = run_ends sh g wanted room allowance (begun sh g)

-- ---- the steps of a run are a beginning of the list of steps

step_after : (sh : Sheet) (g : Goal) (n : ℕ) → step sh (pile_after sh g n) ≡ pile_after sh g (suc n)
unfolding pile_after
step_after sh g n = refl

-- the state of a run after k more steps, from one after n
record At (sh : Sheet) (g : Goal) (n : ℕ) (p : Progress) : Type 0 where
  pile : p.pile ≡ pile_after sh g n
  steps : p.steps ≡ n

at-advanced : (sh : Sheet) (g : Goal) (k n : ℕ) (p : Progress) → At sh g n p → At sh g (k + n) (advanced sh g k p)
unfolding advanced advance
at-advanced sh g zero n p h = subst (λ (x : ℕ). At sh g x p) (let z : n ≡ 0 + n = omega arith in z) h
at-advanced sh g (suc k) n p h =
    subst (λ (x : ℕ). At sh g x (advanced sh g k (advance sh g p))) (let z : k + suc n ≡ suc k + n = omega arith in z)
    (at-advanced sh g k (suc n) (advance sh g p) (record { pile = ap (step sh) h.pile ∙ step_after sh g n; steps = ap suc h.steps }))

pub run-begins : (sh : Sheet) (g : Goal) (allowance wanted room : ℕ) → Beginning sh g allowance (run sh g allowance wanted room)
unfolding begun pile_after
run-begins sh g allowance wanted room =
    record { pile = there.pile ∙ ap (pile_after sh g) (sym there.steps); steps = no_more }
  where
    spec : EndsAfter sh g allowance wanted room (begun sh g) (run sh g allowance wanted room)
    spec = run_spec sh g allowance wanted room

    taken : ℕ
    taken = spec.taken

    there : At sh g (taken + 0) (run sh g allowance wanted room).at
    there = subst (At sh g (taken + 0)) (sym spec.state) (at-advanced sh g taken 0 (begun sh g) (record { pile = refl; steps = refl }))

    no_more : (run sh g allowance wanted room).at.steps ≤ allowance
    no_more =
        let w : taken + spec.left ≡ allowance = spec.within in
        let q : (run sh g allowance wanted room).at.steps ≡ taken + 0 = there.steps in
        omega arith

-- the tally goes over the same piles
pub tally-pile : (sh : Sheet) (g : Goal) (n : ℕ) → (tally sh g n).pile ≡ pile_after sh g n
unfolding tally pile_after counted_step counted_on step
tally-pile sh g zero = refl
tally-pile sh g (suc n) = go (tally sh g n).pile refl ∙ ap (step sh) (tally-pile sh g n)
  where
    go : (pile : List Alternative) → (tally sh g n).pile ≡ pile → (counted_on sh (tally sh g n) pile).pile ≡ step sh pile
    go [] e = e
    go (a ∷ below) e = refl

-- ---- no argument left open in every run

-- In every run: whatever its settings, its steps are those that the tally went over, and the counts are zero.
pub nothing-open-in-run : (stored : Bool) (sh : Sheet) (g : Goal) → sheet_fault stored sh ≡ none → goal_fault sh g ≡ none → (allowance wanted room : ℕ)
    → ((tally sh g (run sh g allowance wanted room).at.steps).pile ≡ (run sh g allowance wanted room).at.pile) × BothZero sh g (run sh g allowance wanted room).at.steps
nothing-open-in-run stored sh g s e allowance wanted room =
    (tally-pile sh g n ∙ sym (run-begins sh g allowance wanted room).pile, nothing-open stored sh g s e n)
  where
    n : ℕ
    n = (run sh g allowance wanted room).at.steps

-- ---- no argument left open over texts

pub accepted-eq : {A : Type 0} (x y : A) → accepted x ≡ accepted y → x ≡ y
accepted-eq x y e = cc

pub refused-accepted : {A : Type 0} (r : Refusal) (x : A) → refused r ≡ accepted x → ⊥
refused-accepted r x e = let z : ◌≡◌ {A = ℕ} 0 1 = cc in omega arith

pub faultless-none : {A : Type 0} (x y : A) (o : Option Refusal) → faultless x o ≡ accepted y → (o ≡ none) × (x ≡ y)
unfolding faultless
faultless-none x y none e = (refl, accepted-eq x y e)
faultless-none x y (some r) e = absurd (refused-accepted r y e)

pub sheet-passes : (stored : Bool) (s : List ℕ) (sh : Sheet) → checked_with stored s ≡ accepted sh → sheet_fault stored sh ≡ none
unfolding checked_with checked_from
sheet-passes stored s sh e = go (sheet_of s) e
  where
    go : (o : Outcome Sheet) → checked_from stored o ≡ accepted sh → sheet_fault stored sh ≡ none
    go (refused r) q = absurd (refused-accepted r sh q)
    go (accepted x) q =
        let f : (sheet_fault stored x ≡ none) × (x ≡ sh) = faultless-none x sh (sheet_fault stored x) q in
        subst (λ (y : Sheet). sheet_fault stored y ≡ none) f.1 f.0

pub goal-passes : (sh : Sheet) (s : List ℕ) (g : Goal) → checked_goal sh s ≡ accepted g → goal_fault sh g ≡ none
unfolding checked_goal checked_goal_from
goal-passes sh s g e = go (goal_outcome s) e
  where
    go : (o : Outcome Goal) → checked_goal_from sh o ≡ accepted g → goal_fault sh g ≡ none
    go (refused r) q = absurd (refused-accepted r g q)
    go (accepted x) q = subst (λ (y : Goal). goal_fault sh y ≡ none) (faultless-none x g (goal_fault sh x) q).1 (faultless-none x g (goal_fault sh x) q).0

-- NO ARGUMENT LEFT OPEN over texts: a sheet, marked as stored earlier or not, and a goal that checking accepts, and any number of steps.
pub nothing-open-over-texts : (stored : Bool) (sheet goal : List ℕ) (sh : Sheet) (g : Goal) → checked_with stored sheet ≡ accepted sh → checked_goal sh goal ≡ accepted g
    → (n : ℕ) → BothZero sh g n
nothing-open-over-texts stored sheet goal sh g s e n = nothing-open stored sh g (sheet-passes stored sheet sh s) (goal-passes sh goal g e) n

zero-over : (stored : Bool) (sheet goal : List ℕ) (sh : Sheet) (g : Goal) → checked_with stored sheet ≡ accepted sh → checked_goal sh goal ≡ accepted g
    → ZeroOver stored sheet goal
zero-over stored sheet goal sh g s e =
    record { sh = sh; g = g; sheet_accepted = s; goal_accepted = e; zero = nothing-open-over-texts stored sheet goal sh g s e }

-- The same from the verdict that checking gives of two texts, which is without the mark.
pub nothing-open-accepted : (sheet goal : List ℕ) (declarations clauses : ℕ) → check_goal_verdict sheet goal ≡ Accepted declarations clauses → ZeroOver false sheet goal
unfolding check_goal_verdict check_goal_from goal_answer
nothing-open-accepted sheet goal d c e = over-sheet (checked_sheet sheet) refl e
  where
    refused-verdict : (t : Text) (r : Refusal) → Refused t r ≡ Accepted d c → ⊥
    refused-verdict t r q = let z : ◌≡◌ {A = ℕ} 0 1 = cc in omega arith

    over-goal : (sh : Sheet) → checked_sheet sheet ≡ accepted sh → (o : Outcome Goal) → checked_goal sh goal ≡ o → goal_answer sh o ≡ Accepted d c
        → ZeroOver false sheet goal
    over-goal sh s (refused r) h q = absurd (refused-verdict in_goal r q)
    over-goal sh s (accepted g) h q = zero-over false sheet goal sh g s h

    over-sheet : (o : Outcome Sheet) → checked_sheet sheet ≡ o → check_goal_from goal o ≡ Accepted d c → ZeroOver false sheet goal
    over-sheet (refused r) h q = absurd (refused-verdict in_sheet r q)
    over-sheet (accepted sh) h q = over-goal sh h (checked_goal sh goal) refl q

-- NO ARGUMENT LEFT OPEN in every run over texts, whatever the allowance, the wanted answers, the mark and the room.
pub nothing-open-in-runs : (sheet goal : List ℕ) (asked : RunSettings) (room : ℕ) (r : Report) (text : List ℕ) → run_outcome sheet goal asked room ≡ ran r text
    → RunOver sheet goal asked room r text
unfolding run_outcome over_sheet over_goal zero-over
nothing-open-in-runs sheet goal asked room r text e = ranged (in_range asked.allowance asked.wanted) e
  where
    stopped-ran : (t : Text) (x : Refusal) → stopped t x ≡ ran r text → ⊥
    stopped-ran t x q = let z : ◌≡◌ {A = ℕ} 0 1 = cc in omega arith

    over-goal : (sh : Sheet) → checked_with asked.stored sheet ≡ accepted sh → (o : Outcome Goal) → checked_goal sh goal ≡ o
        → over_goal sh asked.allowance asked.wanted room o ≡ ran r text → RunOver sheet goal asked room r text
    over-goal sh s (refused x) h q = absurd (stopped-ran in_goal x q)
    over-goal sh s (accepted g) h q =
        record {
          texts = zero-over asked.stored sheet goal sh g s h;
          reports = q;
          beginning = run-begins sh g asked.allowance asked.wanted room;
          tallied = tally-pile sh g;
        }

    over-sheet : (o : Outcome Sheet) → checked_with asked.stored sheet ≡ o → over_sheet goal asked.allowance asked.wanted room o ≡ ran r text
        → RunOver sheet goal asked room r text
    over-sheet (refused x) h q = absurd (stopped-ran in_sheet x q)
    over-sheet (accepted sh) h q = over-goal sh h (checked_goal sh goal) refl q

    ranged : (b : Bool)
        → ◌≡◌ {A = RunOutcome} (elim b [ true ↦ over_sheet goal asked.allowance asked.wanted room (checked_with asked.stored sheet) | false ↦ stopped Neither Settings ]) (ran r text)
        → RunOver sheet goal asked room r text
    ranged true q = over-sheet (checked_with asked.stored sheet) refl q
    ranged false q = absurd (stopped-ran Neither Settings q)
