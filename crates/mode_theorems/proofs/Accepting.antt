-- What checking accepts is what reading gave: whatever holds of all that is read holds of it. Assumes nothing.
use Prim.Native.Nat.{ℕ}
use mathlib.Core.Path.{◌≡◌, refl, subst}
use mathlib.Core.Bool.{Bool, true, false}
use mathlib.Core.List.{List, []}
use mathlib.Core.Option.{Option, none, some}
use lib.Dec.{leb}
use lib.ListN.{length}
use Rattle.syntax.specs.Limits.{sheet_bytes, goal_bytes}
use Rattle.syntax.specs.Terms.{Sheet, Goal}
use Rattle.syntax.specs.Reading.{Cursor, Read, fault, ok, read_sheet, read_goal, first_repeat}
use Rattle.syntax.specs.Verdicts.{Outcome, refused, accepted, without_repeats, sheet_from, goal_from, sheet_of, goal_outcome}
use Rattle.syntax.specs.declared.Refusal.{Refusal}
use Rattle.syntax.specs.declared.Refusal.TheVariants.{TooLong}
use Rattle.mode_rules.specs.Modes.{sheet_fault, goal_fault}
use Rattle.mode_rules.specs.Checking.{faultless, checked_from, checked_with, checked_goal_from, checked_goal}

-- on a refusal nothing; else what was accepted has a property
abbrev Fine : {A : Type 0} → (A → Type 0) → Outcome A → Type 0
Fine P (refused r) = Unit
Fine P (accepted a) = P a

accepted-fine : {A : Type 0} (P : A → Type 0) (o : Outcome A) (a : A) → Fine P o → o ≡ accepted a → P a
accepted-fine P o a h e = subst (Fine P) e h

faultless-fine : {A : Type 0} (P : A → Type 0) (a : A) (o : Option Refusal) → P a → Fine P (faultless a o)
unfolding faultless
faultless-fine P a none h = h
faultless-fine P a (some r) h = tt

module _ (s : List ℕ) (P : Sheet → Type 0) (read : (sh : Sheet) (st : Cursor) → read_sheet s ≡ ok sh st → P sh) where
  without-fine : (sh : Sheet) (o : Option ℕ) → P sh → Fine P (without_repeats sh o)
  unfolding without_repeats
  without-fine sh none h = h
  without-fine sh (some b) h = tt

  sheet-from : (r : Read Sheet) → read_sheet s ≡ r → Fine P (sheet_from r)
  unfolding sheet_from
  sheet-from (fault n b) e = tt
  sheet-from (ok sh st) e = without-fine sh (first_repeat [] sh.declarations) (read sh st e)

  sheet-fine : Fine P (sheet_of s)
  unfolding sheet_of
  sheet-fine = by (leb (length s) sheet_bytes)
    where
      by : (b : Bool) → Fine P (elim b as (λ _. Outcome Sheet) [ true ↦ sheet_from (read_sheet s) | false ↦ refused TooLong ])
      by true = sheet-from (read_sheet s) refl
      by false = tt

  checked-fine : (stored : Bool) (o : Outcome Sheet) → Fine P o → Fine P (checked_from stored o)
  unfolding checked_from
  checked-fine stored (refused r) h = tt
  checked-fine stored (accepted sh) h = faultless-fine P sh (sheet_fault stored sh) h

  -- a sheet that checking accepts, with the mark or without it
  pub checked-sheet : (stored : Bool) (sh : Sheet) → checked_with stored s ≡ accepted sh → P sh
  unfolding checked_with
  checked-sheet stored sh e = accepted-fine P (checked_from stored (sheet_of s)) sh (checked-fine stored (sheet_of s) sheet-fine) e

module _ (s : List ℕ) (P : Goal → Type 0) (read : (g : Goal) (st : Cursor) → read_goal s ≡ ok g st → P g) where
  goal-from : (r : Read Goal) → read_goal s ≡ r → Fine P (goal_from r)
  unfolding goal_from
  goal-from (fault n b) e = tt
  goal-from (ok g st) e = read g st e

  goal-fine : Fine P (goal_outcome s)
  unfolding goal_outcome
  goal-fine = by (leb (length s) goal_bytes)
    where
      by : (b : Bool) → Fine P (elim b as (λ _. Outcome Goal) [ true ↦ goal_from (read_goal s) | false ↦ refused TooLong ])
      by true = goal-from (read_goal s) refl
      by false = tt

  -- a goal that reading accepts
  pub read-goal : (g : Goal) → goal_outcome s ≡ accepted g → P g
  read-goal g e = accepted-fine P (goal_outcome s) g goal-fine e

  over-fine : (sh : Sheet) (o : Outcome Goal) → Fine P o → Fine P (checked_goal_from sh o)
  unfolding checked_goal_from
  over-fine sh (refused r) h = tt
  over-fine sh (accepted g) h = faultless-fine P g (goal_fault sh g) h

  -- a goal that checking accepts
  pub checked-goal : (sh : Sheet) (g : Goal) → checked_goal sh s ≡ accepted g → P g
  unfolding checked_goal
  checked-goal sh g e = accepted-fine P (checked_goal_from sh (goal_outcome s)) g (over-fine sh (goal_outcome s) goal-fine) e
