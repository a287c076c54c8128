-- A run's text has no more bytes than there was room for: an answer whose line does not fit ends it by `full`. Assumes nothing.
use Prim.Native.Nat.{ℕ, zero, suc, ◌+◌, ◌≤◌}
use native.Mathlib.Omega.{arith}
use mathlib.Core.Path.{◌≡◌, refl}
use mathlib.Core.Bool.{Bool, true, false, ◌&&◌}
use mathlib.Core.List.{List, [], ◌∷◌, ◌++◌}
use mathlib.Core.Option.{Option, none, some}
use lib.Dec.{leb, ltb, eqb}
use lib.ListN.{length, length-append}
use borrow.Author.Tests.{ltb-false}
use Rattle.syntax.specs.Terms.{Sheet, Goal}
use Rattle.syntax.specs.Verdicts.{Outcome, refused, accepted}
use Rattle.syntax.specs.declared.Text.TheVariants.{Neither}
use Rattle.syntax.specs.declared.Refusal.{Refusal}
use Rattle.syntax.specs.declared.Refusal.TheVariants.{Settings}
use Rattle.mode_rules.specs.Checking.{checked_with, checked_goal}
use Rattle.machine.specs.Machine.{Alternative, Pending}
use Rattle.machine.specs.Runs.{RunEnd, Wanted, Done, Steps, Full, Deep, Progress, Ended, is_empty, is_answer, line_with, next_line, goes_deeper, endings, first_end, advance, end_or, run_from, begun, run, RunSettings, RunOutcome, stopped, ran, reported, over_goal, in_range, run_text}
use Rattle.machine.specs.Traces.{trace_fault, traced_sheet, over_trace, over_traced, traced_outcome}

module _ (sh : Sheet) (g : Goal) (wanted room : ℕ) where
  abbrev Fits : Progress → Type 0
  Fits p = length p.text ≤ room

  -- what is no answer writes nothing
  no_line : (pile : List Alternative) → is_answer pile ≡ false → length (next_line g pile) ≡ 0
  unfolding is_answer next_line line_with is_empty
  no_line [] e = refl
  no_line (a ∷ below) e = by a.literals e
    where
      by : (ps : List Pending) → is_empty ps ≡ false → length (line_with g a ps) ≡ 0
      by [] q = absurd (let z : ◌≡◌ {A = Bool} true false = q in let n : ◌≡◌ {A = ℕ} 1 0 = cc in omega arith)
      by (x ∷ xs) q = refl

  -- where `full` does not apply, the line fits
  line-fits : (p : Progress) (answer : Bool) → is_answer p.pile ≡ answer → (over : Bool) → ltb room (length p.text + length (next_line g p.pile)) ≡ over
      → (answer && over) ≡ false → Fits p → length (p.text ++ next_line g p.pile) ≤ room
  line-fits p false a over l h f = omega (arith, length-append p.text (next_line g p.pile), no_line p.pile a, f)
  line-fits p true a true l h f = absurd (let n : ◌≡◌ {A = ℕ} 1 0 = cc in omega arith)
  line-fits p true a false l h f =
      let few = ltb-false room (length p.text + length (next_line g p.pile)) l in
      omega (arith, length-append p.text (next_line g p.pile), few)

  none-full : (done wanted-met used full deep : Bool)
      → ◌≡◌ {A = Option RunEnd} (elim done [ true ↦ some Done | false ↦ elim wanted-met [ true ↦ some Wanted | false ↦ elim used [ true ↦ some Steps | false ↦ elim full [ true ↦ some Full | false ↦ elim deep [ true ↦ some Deep | false ↦ none ] ] ] ] ]) none
      → full ≡ false
  none-full true w u f d e = absurd (let z : ◌≡◌ {A = ℕ} 0 1 = cc in omega arith)
  none-full false true u f d e = absurd (let z : ◌≡◌ {A = ℕ} 0 1 = cc in omega arith)
  none-full false false true f d e = absurd (let z : ◌≡◌ {A = ℕ} 0 1 = cc in omega arith)
  none-full false false false true d e = absurd (let z : ◌≡◌ {A = ℕ} 0 1 = cc in omega arith)
  none-full false false false false d e = refl

  on-fits : (left : ℕ) (p : Progress) → first_end (endings sh g wanted room left p) ≡ none → Fits p → Fits (advance sh g p)
  unfolding first_end advance
  on-fits left p e f =
      line-fits p (is_answer p.pile) refl (ltb room (length p.text + length (next_line g p.pile))) refl
      (none-full (is_empty p.pile) (leb wanted p.answers) (eqb left 0) (is_answer p.pile && ltb room (length p.text + length (next_line g p.pile))) (goes_deeper sh p.pile) e) f

  run-fits : (left : ℕ) (p : Progress) → Fits p → Fits (run_from sh g wanted room left p).at
  unfolding run_from end_or
  run-fits zero p f = go (first_end (endings sh g wanted room 0 p))
    where
      go : (o : Option RunEnd) → Fits (end_or p o (λ _. record { kind = Steps; at = p })).at
      go none = f
      go (some k) = f
  run-fits (suc left) p f = go (first_end (endings sh g wanted room (suc left) p)) refl (run-fits left (advance sh g p))
    where
      go : (o : Option RunEnd) → first_end (endings sh g wanted room (suc left) p) ≡ o
          → (Fits (advance sh g p) → Fits (run_from sh g wanted room left (advance sh g p)).at)
          → Fits (end_or p o (λ _. run_from sh g wanted room left (advance sh g p))).at
      go none e r = r (on-fits (suc left) p e f)
      go (some k) e r = f

module _ (sheet goal trace : List ℕ) (asked : RunSettings) (room : ℕ) where
  abbrev TextFits : RunOutcome → Type 0
  TextFits o = length (run_text o) ≤ room

  goal-fits : (sh : Sheet) (o : Outcome Goal) → TextFits (over_goal sh asked.allowance asked.wanted room o)
  unfolding over_goal reported run_text run begun
  goal-fits sh (refused r) = omega arith
  goal-fits sh (accepted g) = run-fits sh g asked.wanted room asked.allowance (begun sh g) (omega arith)

  trace-fits : (sh : Sheet) (o : Option Refusal) → TextFits (over_trace goal asked.allowance asked.wanted room sh o)
  unfolding over_trace run_text
  trace-fits sh (some r) = omega arith
  trace-fits sh none = goal-fits sh (checked_goal sh goal)

  sheet-fits : (o : Outcome Sheet) → TextFits (over_traced (length sheet) goal trace asked.allowance asked.wanted room o)
  unfolding over_traced run_text
  sheet-fits (refused r) = omega arith
  sheet-fits (accepted sh) = trace-fits (traced_sheet (length sheet) trace sh) (trace_fault sh.declarations trace)

  ranged-fits : (b : Bool)
      → TextFits (elim b as (λ _. RunOutcome) [ true ↦ over_traced (length sheet) goal trace asked.allowance asked.wanted room (checked_with asked.stored sheet) | false ↦ stopped Neither Settings ])
  unfolding run_text
  ranged-fits true = sheet-fits (checked_with asked.stored sheet)
  ranged-fits false = omega arith

  pub text-fits : TextFits (traced_outcome sheet goal trace asked room)
  unfolding traced_outcome
  text-fits = ranged-fits (in_range asked.allowance asked.wanted)
