-- Facts of a trace behind a sheet's clauses (REQUESTS (ix)): a sheet that is accepted stays so, no argument is left open over both, in every run with a trace; the
-- sheet's own clauses keep their numbers; and an empty trace is none. Assumes nothing.
use Prim.Native.Nat.{ℕ, zero, suc, ◌+◌, ◌<◌}
use native.Mathlib.Omega.{arith}
use mathlib.Core.Path.{◌≡◌, refl, sym, ap, ◌∙◌}
use mathlib.Core.Bool.{Bool, true, false, ◌||◌}
use mathlib.Core.List.{List, [], ◌∷◌, ◌++◌, append-nil}
use mathlib.Core.Option.{Option, none, some}
use lib.ListN.{length}
use Rattle.syntax.specs.Limits.{most_facts, trace_bytes}
use Rattle.syntax.specs.Terms.{Term, Mark, output, Atom, Declaration, Clause, Sheet, Goal}
use Rattle.syntax.specs.Verdicts.{Outcome, refused, accepted, goal_outcome}
use Rattle.syntax.specs.declared.Refusal.{Refusal}
use Rattle.syntax.specs.declared.Refusal.TheVariants.{Settings, SeenUndeclared}
use Rattle.syntax.specs.declared.Text.{Text}
use Rattle.syntax.specs.declared.Text.TheVariants.{Sheet as in_sheet, Goal as in_goal, Trace as in_trace, Neither}
use Rattle.mode_rules.specs.Written.{is_exempt}
use Rattle.mode_rules.specs.Modes.{Known, open_byte, open_byte_of, if_marked, OpenArgument, first_open, same_mark, marks_of, marks_for, list_of, undeclared, undeclared_atom, undeclared_body, undeclared_clause, undeclared_clauses, undeclared_in_goal, open_output, body_fault, head_fault, clause_fault, clauses_fault, start_known, sheet_fault, goal_fault}
use Rattle.mode_rules.specs.Checking.{checked_with, checked_goal_from, checked_goal}
use Rattle.mode_theorems.proofs.Bodies.{second_none, both-none}
use Rattle.mode_theorems.proofs.Appended.{with-more}
use Rattle.machine.specs.Machine.{nth_clause, clause_at}
use Rattle.machine.specs.Runs.{Report, RunSettings, RunOutcome, stopped, ran, over_goal, over_sheet, in_range, run_outcome}
use Rattle.machine.specs.Traces.{Trace, broken, records, records_from, records_of, Fact, facts_of, facts_in, fact_clause, fact_text, fact_clauses, with_facts, if_over, declares_seen, unseen, records_fault, trace_fault, traced_sheet, over_trace, over_traced, traced_outcome}
use Rattle.machine.specs.Claims.{TracedOver}
use Rattle.machine_theorems.proofs.NothingOpen.{nothing-open}
use Rattle.machine_theorems.proofs.EveryRun.{sheet-passes, goal-passes, run-begins, tally-pile}

-- ---- facts by themselves have no fault

-- `seen` with three arguments has marks where it is declared
seen-marks : (ds : List Declaration) (at : ℕ) (f : Fact) → declares_seen ds ≡ true → (ms : List Mark) × (marks_of ds (fact_clause at f).head ≡ some ms)
unfolding declares_seen marks_of fact_clause
seen-marks [] at f e = absurd (let z : ◌≡◌ {A = ℕ} 0 1 = cc in omega arith)
seen-marks (d ∷ ds) at f e = by (is_exempt d) e (seen-marks ds at f)
  where
    by : (b : Bool) → (b || declares_seen ds) ≡ true → (declares_seen ds ≡ true → (ms : List Mark) × (marks_of ds (fact_clause at f).head ≡ some ms))
        → (ms : List Mark) × (◌≡◌ {A = Option (List Mark)} (elim b [ true ↦ some d.marks | false ↦ marks_of ds (fact_clause at f).head ]) (some ms))
    by true q h = (d.marks, refl)
    by false q h = h q

fact-declared : (ds : List Declaration) (at : ℕ) (f : Fact) (k : ℕ) → declares_seen ds ≡ true → undeclared_clause ds k (fact_clause at f) ≡ none
unfolding undeclared_clause undeclared_atom undeclared undeclared_body fact_clause
fact-declared ds at f k e =
    both-none (undeclared_atom ds k 0 (fact_clause at f).head) (undeclared_body ds k 1 (fact_clause at f).body)
    (ap (undeclared k 0 (fact_clause at f).head) (seen-marks ds at f e).1) refl

-- arguments without variables are ground, whatever their marks
abbrev AllClosed : Known → List Term → Type 0
AllClosed τ [] = Unit {0}
AllClosed τ (t ∷ ts) = (open_byte τ t ≡ none) × AllClosed τ ts

none_open : (m : Mark) (τ : Known) (ms : List Mark) (ts : List Term) (n : ℕ) → AllClosed τ ts → first_open m τ ms ts n ≡ none
unfolding first_open if_marked
none_open m τ [] ts n h = refl
none_open m τ (k ∷ ks) [] n h = refl
none_open m τ (k ∷ ks) (t ∷ ts) n h = by (same_mark m k) (open_byte τ t) h.0 (none_open m τ ks ts (suc n) h.1)
  where
    by : (b : Bool) (o : Option ℕ) → o ≡ none → first_open m τ ks ts (suc n) ≡ none
        → ◌≡◌ {A = Option OpenArgument} (elim (if_marked b o) [ none ↦ first_open m τ ks ts (suc n) | some x ↦ some (record { argument = n; byte = x }) ]) none
    by true none e r = r
    by true (some x) e r = absurd (let z : ◌≡◌ {A = ℕ} 0 1 = cc in omega arith)
    by false o e r = r

fact-moded : (ds : List Declaration) (at : ℕ) (f : Fact) (k : ℕ) → clause_fault ds k (fact_clause at f) ≡ none
unfolding clause_fault head_fault body_fault open_output fact_clause open_byte open_byte_of
fact-moded ds at f k =
    ap (open_output k head) (none_open output (start_known ds head) (marks_for ds head) (list_of head.args) 1 (refl, (refl, (refl, tt))))
  where
    head : Atom
    head = (fact_clause at f).head

facts-declared : (ds : List Declaration) (facts : List Fact) (at k : ℕ) → declares_seen ds ≡ true → undeclared_clauses ds k (fact_clauses at facts) ≡ none
unfolding undeclared_clauses fact_clauses
facts-declared ds [] at k e = refl
facts-declared ds (f ∷ fs) at k e =
    both-none (undeclared_clause ds k (fact_clause at f)) (undeclared_clauses ds (suc k) (fact_clauses (at + length (fact_text f)) fs)) (fact-declared ds at f k e)
    (facts-declared ds fs (at + length (fact_text f)) (suc k) e)

facts-moded : (ds : List Declaration) (facts : List Fact) (at k : ℕ) → clauses_fault ds k (fact_clauses at facts) ≡ none
unfolding clauses_fault fact_clauses
facts-moded ds [] at k = refl
facts-moded ds (f ∷ fs) at k =
    both-none (clause_fault ds k (fact_clause at f)) (clauses_fault ds (suc k) (fact_clauses (at + length (fact_text f)) fs)) (fact-moded ds at f k)
    (facts-moded ds fs (at + length (fact_text f)) (suc k))

-- ---- an accepted sheet with facts

-- A sheet that is accepted, with the mark of one stored earlier or without it, and declares `seen` with three arguments is accepted with any facts.
pub facts-accepted : (stored : Bool) (sh : Sheet) (at : ℕ) (facts : List Fact) → declares_seen sh.declarations ≡ true → sheet_fault stored sh ≡ none
    → sheet_fault stored (with_facts at sh facts) ≡ none
unfolding with_facts
facts-accepted stored sh at facts d e =
    with-more stored sh (fact_clauses at facts) e (λ k. facts-declared sh.declarations facts at k d) (λ k. facts-moded sh.declarations facts at k)

-- and one that does not, with none
none-accepted : (stored : Bool) (sh : Sheet) (at : ℕ) → sheet_fault stored sh ≡ none → sheet_fault stored (with_facts at sh []) ≡ none
unfolding with_facts fact_clauses undeclared_clauses clauses_fault
none-accepted stored sh at e = with-more stored sh [] e (λ k. refl) (λ k. refl)

seen-accepted : (stored : Bool) (sh : Sheet) (at : ℕ) (facts : List Fact) → unseen sh.declarations facts ≡ none → sheet_fault stored sh ≡ none
    → sheet_fault stored (with_facts at sh facts) ≡ none
unfolding unseen
seen-accepted stored sh at [] u e = none-accepted stored sh at e
seen-accepted stored sh at (f ∷ fs) u e = facts-accepted stored sh at (f ∷ fs) (by (declares_seen sh.declarations) u) e
  where
    by : (b : Bool) → ◌≡◌ {A = Option Refusal} (elim b [ true ↦ none | false ↦ some SeenUndeclared ]) none → b ≡ true
    by true q = refl
    by false q = absurd (let z : ◌≡◌ {A = ℕ} 0 1 = cc in omega arith)

-- a sheet that is accepted is accepted with the facts of a trace that is
pub trace_accepted : (stored : Bool) (sh : Sheet) (size : ℕ) (trace : List ℕ) → trace_fault sh.declarations trace ≡ none → sheet_fault stored sh ≡ none
    → sheet_fault stored (traced_sheet size trace sh) ≡ none
unfolding trace_fault records_fault facts_in
trace_accepted stored sh size trace u e =
    by (records_of trace) (second_none (if_over trace_bytes (length trace)) (records_fault sh.declarations (records_of trace)) u)
  where
    by : (t : Trace) → records_fault sh.declarations t ≡ none → sheet_fault stored (with_facts size sh (facts_in t)) ≡ none
    by (broken byte) q = none-accepted stored sh size e
    by (records rs) q =
        seen-accepted stored sh size (facts_of rs) (second_none (if_over most_facts (length (facts_of rs))) (unseen sh.declarations (facts_of rs)) q) e

-- ---- facts are tried like clauses, behind the sheet's own

nth-own : (cs more : List Clause) (k : ℕ) → k < length cs → nth_clause (cs ++ more) k ≡ nth_clause cs k
unfolding nth_clause
nth-own [] more k h = absurd (omega arith)
nth-own (c ∷ cs) more zero h = refl
nth-own (c ∷ cs) more (suc k) h = nth-own cs more k (omega arith)

nth-behind : (cs more : List Clause) (k : ℕ) → nth_clause (cs ++ more) (length cs + k) ≡ nth_clause more k
unfolding nth_clause
nth-behind [] more k = ap (nth_clause more) (let z : 0 + k ≡ k = omega arith in z)
nth-behind (c ∷ cs) more k =
    ap (nth_clause (c ∷ (cs ++ more))) (let z : suc (length cs) + k ≡ suc (length cs + k) = omega arith in z) ∙ nth-behind cs more k

-- "They come after the sheet's own clauses, in trace order.": a sheet's own clause has the number that it had, and the k-th fact, from 0 on, the k-th
-- number behind these
pub own-clauses : (at : ℕ) (sh : Sheet) (facts : List Fact) (k : ℕ) → k < length sh.clauses → clause_at (with_facts at sh facts) (suc k) ≡ clause_at sh (suc k)
unfolding with_facts clause_at
own-clauses at sh facts k h = nth-own sh.clauses (fact_clauses at facts) k h

pub facts-behind : (at : ℕ) (sh : Sheet) (facts : List Fact) (k : ℕ)
    → clause_at (with_facts at sh facts) (suc (length sh.clauses + k)) ≡ nth_clause (fact_clauses at facts) k
unfolding with_facts clause_at
facts-behind at sh facts k = nth-behind sh.clauses (fact_clauses at facts) k

-- ---- a run with a trace

-- facts declare nothing: a goal is checked over the sheet
pub goal-same : (at : ℕ) (sh : Sheet) (facts : List Fact) (goal : List ℕ) → checked_goal (with_facts at sh facts) goal ≡ checked_goal sh goal
unfolding checked_goal checked_goal_from goal_fault undeclared_in_goal with_facts
goal-same at sh facts goal = by (goal_outcome goal)
  where
    by : (o : Outcome Goal) → checked_goal_from (with_facts at sh facts) o ≡ checked_goal_from sh o
    by (refused r) = refl
    by (accepted g) = refl

no-facts : (at : ℕ) (sh : Sheet) → with_facts at sh [] ≡ sh
unfolding with_facts fact_clauses
no-facts at sh = ap (λ (cs : List Clause). record { declarations = sh.declarations; clauses = cs }) (append-nil sh.clauses)

-- "empty is none"
pub without-trace : (sheet goal : List ℕ) (asked : RunSettings) (room : ℕ) → traced_outcome sheet goal [] asked room ≡ run_outcome sheet goal asked room
unfolding traced_outcome run_outcome over_traced over_sheet over_trace trace_fault records_fault records_of records_from facts_in facts_of if_over unseen
without-trace sheet goal asked room =
    ap (λ (x : RunOutcome). elim (in_range asked.allowance asked.wanted) as (λ _. RunOutcome) [ true ↦ x | false ↦ stopped Neither Settings ])
    (by (checked_with asked.stored sheet))
  where
    by : (o : Outcome Sheet) → over_traced (length sheet) goal [] asked.allowance asked.wanted room o ≡ over_sheet goal asked.allowance asked.wanted room o
    by (refused r) = refl
    by (accepted sh) =
        ap (λ (x : Sheet). over_goal x asked.allowance asked.wanted room (checked_goal x goal)) (no-facts (length sheet) sh)

-- NO ARGUMENT LEFT OPEN in every run with a trace, over sheet and facts together, whatever the allowance, the wanted answers, the mark and the room.
pub nothing-open-traced : (sheet goal trace : List ℕ) (asked : RunSettings) (room : ℕ) (r : Report) (text : List ℕ)
    → traced_outcome sheet goal trace asked room ≡ ran r text → TracedOver sheet goal trace asked room r text
unfolding traced_outcome over_traced over_trace over_goal
nothing-open-traced sheet goal trace asked room r text e = ranged (in_range asked.allowance asked.wanted) e
  where
    stopped-ran : (t : Text) (x : Refusal) → stopped t x ≡ ran r text → ⊥
    stopped-ran t x q = let z : ◌≡◌ {A = ℕ} 0 1 = cc in omega arith

    whole : Sheet → Sheet
    whole sh = traced_sheet (length sheet) trace sh

    over-goal : (sh : Sheet) → checked_with asked.stored sheet ≡ accepted sh → trace_fault sh.declarations trace ≡ none
        → (o : Outcome Goal) → checked_goal (whole sh) goal ≡ o → over_goal (whole sh) asked.allowance asked.wanted room o ≡ ran r text
        → TracedOver sheet goal trace asked room r text
    over-goal sh s u (refused x) h q = absurd (stopped-ran in_goal x q)
    over-goal sh s u (accepted g) h q =
        record {
          texts =
              record {
                sh = sh;
                g = g;
                sheet_accepted = s;
                trace_accepted = u;
                goal_accepted = sym (goal-same (length sheet) sh (facts_in (records_of trace)) goal) ∙ h;
                zero =
                    nothing-open asked.stored (whole sh) g (trace_accepted asked.stored sh (length sheet) trace u (sheet-passes asked.stored sheet sh s))
                    (goal-passes (whole sh) goal g h);
              };
          whole = whole sh;
          whole_is = refl;
          reports = q;
          beginning = run-begins (whole sh) g asked.allowance asked.wanted room;
          tallied = tally-pile (whole sh) g;
        }

    over-trace : (sh : Sheet) → checked_with asked.stored sheet ≡ accepted sh → (o : Option Refusal) → trace_fault sh.declarations trace ≡ o
        → over_trace goal asked.allowance asked.wanted room (whole sh) o ≡ ran r text → TracedOver sheet goal trace asked room r text
    over-trace sh s (some x) h q = absurd (stopped-ran in_trace x q)
    over-trace sh s none h q = over-goal sh s h (checked_goal (whole sh) goal) refl q

    over-sheet : (o : Outcome Sheet) → checked_with asked.stored sheet ≡ o
        → over_traced (length sheet) goal trace asked.allowance asked.wanted room o ≡ ran r text → TracedOver sheet goal trace asked room r text
    over-sheet (refused x) h q = absurd (stopped-ran in_sheet x q)
    over-sheet (accepted sh) h q = over-trace sh h (trace_fault sh.declarations trace) refl q

    ranged : (b : Bool)
        → ◌≡◌ {A = RunOutcome} (elim b [ true ↦ over_traced (length sheet) goal trace asked.allowance asked.wanted room (checked_with asked.stored sheet) | false ↦ stopped Neither Settings ]) (ran r text)
        → TracedOver sheet goal trace asked room r text
    ranged true q = over-sheet (checked_with asked.stored sheet) refl q
    ranged false q = absurd (stopped-ran Neither Settings q)
