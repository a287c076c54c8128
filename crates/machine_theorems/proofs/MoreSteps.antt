-- REQUESTS (xiii), "More steps, same beginning": for one sheet, goal, trace, mark, wanted count and room the text at a smaller allowance is the
-- beginning of the text at a larger one, and a run that ended otherwise than by `steps` is the same at every larger allowance. Assumes nothing: it holds
-- of every sheet, goal and trace, accepted or not.
use Prim.Native.Nat.{ℕ, zero, suc, ◌+◌, ◌-◌, ◌≤◌}
use native.Mathlib.Omega.{arith}
use mathlib.Core.Path.{◌≡◌, refl, sym, ap, ◌∙◌, subst}
use mathlib.Core.Bool.{Bool, true, false, ◌&&◌}
use mathlib.Core.List.{List, [], ◌++◌, append-nil, append_assoc}
use mathlib.Core.Option.{Option, none, some}
use lib.Dec.{T, leb, le→leb}
use lib.ListN.{length}
use Rattle.syntax.specs.Limits.{most_steps, most_answers}
use Rattle.syntax.specs.Terms.{Sheet, Goal}
use Rattle.syntax.specs.Verdicts.{Outcome, refused, accepted}
use Rattle.syntax.specs.declared.Text.TheVariants.{Sheet as in_sheet, Goal as in_goal, Trace as in_trace, Neither}
use Rattle.syntax.specs.declared.Refusal.{Refusal}
use Rattle.syntax.specs.declared.Refusal.TheVariants.{Settings}
use Rattle.mode_rules.specs.Checking.{checked_with, checked_goal}
use Rattle.machine.specs.Runs.{RunEnd, Wanted, Done, Steps, Full, Deep, Progress, Ended, next_line, endings, first_end, advance, end_or, run_from, begun, run, resumed, RunSettings, RunOutcome, stopped, ran, reported, over_goal, in_range, run_outcome, run_answer, run_text}
use Rattle.machine.specs.Traces.{trace_fault, traced_sheet, over_trace, over_traced, traced_outcome}
use Rattle.machine.specs.MoreSteps.{IsPrefix, MoreSteps, NotBySteps, MoreStepsOver, NotReportedSteps, MoreStepsPublic}
use Rattle.machine_theorems.proofs.Turns.{more-steps}
use Rattle.machine_theorems.proofs.Traces.{without-trace}

-- ---- beginnings

begins-itself : (text : List ℕ) → IsPrefix text text
begins-itself text = record { rest = []; whole = sym (append-nil text) }

begins-through : (text next last : List ℕ) → IsPrefix text next → IsPrefix next last → IsPrefix text last
begins-through text next last p q =
    record { rest = p.rest ++ q.rest; whole = q.whole ∙ ap (λ (x : List ℕ). x ++ q.rest) p.whole ∙ append_assoc text p.rest q.rest }

-- ---- runs

module _ (sh : Sheet) (g : Goal) (wanted room : ℕ) where
  -- a step only adds to the text
  advance-begins : (p : Progress) → IsPrefix p.text (advance sh g p).text
  unfolding advance
  advance-begins p = record { rest = next_line g p.pile; whole = refl }

  -- and so does a run, from wherever it stands
  run-begins : (left : ℕ) (p : Progress) → IsPrefix p.text (run_from sh g wanted room left p).at.text
  unfolding run_from end_or
  run-begins zero p = go (first_end (endings sh g wanted room 0 p))
    where
      go : (o : Option RunEnd) → IsPrefix p.text (end_or p o (λ _. record { kind = Steps; at = p })).at.text
      go none = begins-itself p.text
      go (some k) = begins-itself p.text
  run-begins (suc left) p = go (first_end (endings sh g wanted room (suc left) p)) (run-begins left (advance sh g p))
    where
      go : (o : Option RunEnd) → IsPrefix (advance sh g p).text (run_from sh g wanted room left (advance sh g p)).at.text
          → IsPrefix p.text (end_or p o (λ _. run_from sh g wanted room left (advance sh g p))).at.text
      go none i = begins-through p.text (advance sh g p).text (run_from sh g wanted room left (advance sh g p)).at.text (advance-begins p) i
      go (some k) i = begins-itself p.text

  -- a run given n steps more than it had
  onward-begins : (n : ℕ) (e : Ended) → MoreSteps e (resumed sh g wanted room n e)
  unfolding resumed
  onward-begins n e = go e.kind refl
    where
      same : MoreSteps e e
      same = record { beginning = begins-itself e.at.text; equal = λ h. refl }

      go : (k : RunEnd) → e.kind ≡ k
          → MoreSteps e (elim k as (λ _. Ended) [ Wanted ↦ e | Done ↦ e | Steps ↦ run_from sh g wanted room n e.at | Full ↦ e | Deep ↦ e ])
      go Wanted q = same
      go Done q = same
      go Steps q = record { beginning = run-begins n e.at; equal = λ h. absurd (h q) }
      go Full q = same
      go Deep q = same

  pub run-from-begins : (few many : ℕ) → few ≤ many → (p : Progress) → MoreSteps (run_from sh g wanted room few p) (run_from sh g wanted room many p)
  run-from-begins few many h p =
      let e : few + (many - few) ≡ many = omega arith in
      subst (λ (x : Ended). MoreSteps (run_from sh g wanted room few p) x)
      (sym (more-steps sh g wanted room few (many - few) p) ∙ ap (λ (n : ℕ). run_from sh g wanted room n p) e)
      (onward-begins (many - few) (run_from sh g wanted room few p))

-- MORE STEPS, SAME BEGINNING, over sheets and goals.
pub same-beginning : (sh : Sheet) (g : Goal) (wanted room few many : ℕ) → few ≤ many → MoreSteps (run sh g few wanted room) (run sh g many wanted room)
unfolding run
same-beginning sh g wanted room few many h = run-from-begins sh g wanted room few many h (begun sh g)

-- ---- over texts

report-kind : (e : Ended) → NotBySteps (reported e) → e.kind ≡ Steps → ⊥
unfolding NotBySteps reported
report-kind e n = n

over-reports : (few many : Ended) → MoreSteps few many → MoreStepsOver (reported few) (reported many)
unfolding reported run_text
over-reports few many m =
    record {
      beginning = m.beginning;
      equal = λ n. ap reported (m.equal (report-kind few n));
      refusals = λ t r q. absurd (let z : ◌≡◌ {A = ℕ} 0 1 = cc in let w : ⊥ = omega arith in w);
    }

over-itself : (o : RunOutcome) → MoreStepsOver o o
over-itself o = record { beginning = begins-itself (run_text o); equal = λ n. refl; refusals = λ t r q. q }

over-goals : (sh : Sheet) (wanted room few many : ℕ) → few ≤ many → (o : Outcome Goal) → MoreStepsOver (over_goal sh few wanted room o) (over_goal sh many wanted room o)
unfolding over_goal
over-goals sh wanted room few many h (refused r) = over-itself (stopped in_goal r)
over-goals sh wanted room few many h (accepted g) =
    over-reports (run sh g few wanted room) (run sh g many wanted room) (same-beginning sh g wanted room few many h)

module _ (sheet goal trace : List ℕ) (stored : Bool) (wanted room few many : ℕ) where
  abbrev with : ℕ → RunSettings
  with allowance = record { allowance = allowance; wanted = wanted; stored = stored }

  over-traces : few ≤ many → (sh : Sheet) (o : Option Refusal) → MoreStepsOver (over_trace goal few wanted room sh o) (over_trace goal many wanted room sh o)
  unfolding over_trace
  over-traces h sh (some r) = over-itself (stopped in_trace r)
  over-traces h sh none = over-goals sh wanted room few many h (checked_goal sh goal)

  over-sheets : few ≤ many → (o : Outcome Sheet)
      → MoreStepsOver (over_traced (length sheet) goal trace few wanted room o) (over_traced (length sheet) goal trace many wanted room o)
  unfolding over_traced
  over-sheets h (refused r) = over-itself (stopped in_sheet r)
  over-sheets h (accepted sh) = over-traces h (traced_sheet (length sheet) trace sh) (trace_fault sh.declarations trace)

  -- an allowance in range leaves the wanted count to be tested
  allowed : (n : ℕ) → 1 ≤ n → n ≤ most_steps → in_range n wanted ≡ (leb 1 wanted && leb wanted most_answers)
  unfolding in_range
  allowed n h k = go (leb 1 n) (leb n most_steps) (le→leb 1 n h) (le→leb n most_steps k)
    where
      go : (a b : Bool) → T a → T b → ((a && b) && (leb 1 wanted && leb wanted most_answers)) ≡ (leb 1 wanted && leb wanted most_answers)
      go true true s t = refl
      go true false s t = absurd t
      go false b s t = absurd s

  -- MORE STEPS, SAME BEGINNING, over texts, with one mark.
  pub same-beginning-texts : 1 ≤ few → few ≤ many → many ≤ most_steps
      → MoreStepsOver (traced_outcome sheet goal trace (with few) room) (traced_outcome sheet goal trace (with many) room)
  unfolding traced_outcome
  same-beginning-texts l h m =
      go (in_range few wanted) (in_range many wanted) (allowed few l (omega arith) ∙ sym (allowed many (omega arith) m))
    where
      ranged : ℕ → Bool → RunOutcome
      ranged n b =
          elim b as (λ _. RunOutcome) [ true ↦ over_traced (length sheet) goal trace n wanted room (checked_with stored sheet) | false ↦ stopped Neither Settings ]

      go : (a b : Bool) → a ≡ b → MoreStepsOver (ranged few a) (ranged many b)
      go true true q = over-sheets h (checked_with stored sheet)
      go true false q = absurd (let z : ◌≡◌ {A = ℕ} 0 1 = cc in omega arith)
      go false true q = absurd (let z : ◌≡◌ {A = ℕ} 0 1 = cc in omega arith)
      go false false q = over-itself (stopped Neither Settings)

  -- The same of what `pilvaust::run_traced` gives back and of the text that it writes.
  pub same-beginning-answers : 1 ≤ few → few ≤ many → many ≤ most_steps
      → MoreStepsPublic (traced_outcome sheet goal trace (with few) room) (traced_outcome sheet goal trace (with many) room)
  same-beginning-answers l h m =
      answered (traced_outcome sheet goal trace (with few) room) (traced_outcome sheet goal trace (with many) room) (same-beginning-texts l h m)
    where
      by_answer : (o : RunOutcome) → NotReportedSteps (run_answer o) → NotBySteps o
      by_answer (stopped t r) n = unfold NotBySteps in tt
      by_answer (ran report text) n = unfold NotBySteps in unfold NotReportedSteps in unfold run_answer in n

      answered : (o p : RunOutcome) → MoreStepsOver o p → MoreStepsPublic o p
      answered o p s = record { beginning = s.beginning; equal = λ n. (ap run_answer (s.equal (by_answer o n)), ap run_text (s.equal (by_answer o n))) }

-- And of `pilvaust::run`, which takes no trace.
pub same-beginning-untraced : (sheet goal : List ℕ) (stored : Bool) (wanted room few many : ℕ) → 1 ≤ few → few ≤ many → many ≤ most_steps
    → MoreStepsPublic (run_outcome sheet goal (record { allowance = few; wanted = wanted; stored = stored }) room) (run_outcome sheet goal (record { allowance = many; wanted = wanted; stored = stored }) room)
same-beginning-untraced sheet goal stored wanted room few many l h m =
    subst (λ (o : RunOutcome). MoreStepsPublic o (run_outcome sheet goal (asked many) room)) (without-trace sheet goal (asked few) room)
    (subst (λ (o : RunOutcome). MoreStepsPublic (traced_outcome sheet goal [] (asked few) room) o) (without-trace sheet goal (asked many) room)
    (same-beginning-answers sheet goal [] stored wanted room few many l h m))
  where
    asked : ℕ → RunSettings
    asked allowance = record { allowance = allowance; wanted = wanted; stored = stored }
