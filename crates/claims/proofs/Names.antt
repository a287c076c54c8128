-- The name that a refusal hands back lies in the text at fault, so that a caller may read its bytes there. Assumes nothing.
use Prim.Native.Nat.{ℕ, suc, ◌+◌, ◌≤◌}
use native.Mathlib.Omega.{arith}
use mathlib.Core.Path.{◌≡◌, refl, subst}
use mathlib.Core.Bool.{Bool, true, false, cond, ◌||◌}
use mathlib.Core.List.{List, [], ◌∷◌}
use mathlib.Core.Option.{Option, none, some}
use lib.Dec.{leb, eqb}
use lib.ListN.{length}
use Rattle.syntax.specs.Limits.{sheet_bytes, goal_bytes}
use Rattle.syntax.specs.Terms.{Atom, Literal, Body, call, equation, truth, falsity, either, done, also, literals_in, literals_of, Mark, Declaration, Clause, Sheet, Goal, term_of}
use Rattle.syntax.specs.Reading.{Read, fault, ok, read_sheet, read_goal, first_repeat}
use Rattle.syntax.specs.Verdicts.{Outcome, refused, accepted, without_repeats, sheet_from, goal_from, sheet_of, goal_outcome, sheet_verdict}
use Rattle.syntax.specs.declared.Refusal.{Refusal}
use Rattle.syntax.specs.declared.Refusal.TheVariants.{Settings, TooLong, NoToken, Overlong, Misplaced, OverLimit, Unwritten}
use Rattle.syntax.specs.declared.Refusal.TheVariants.{BadTrace, TraceOverLimit, SeenUndeclared}
use Rattle.std.proofs.Common.{Ok, Err}
use Rattle.syntax.specs.Verdicts.{Run, Refused as stopped_by}
use Rattle.syntax.specs.declared.Text.{Text}
use Rattle.syntax.specs.declared.Text.TheVariants.{Neither}
use Rattle.syntax.specs.Verdicts.{Verdict}
use Rattle.syntax.specs.Verdicts.{Refused}
use Rattle.mode_rules.specs.Modes.{Known, none_ground, OpenArgument, Walk, faulted, known, marks_of, undeclared, undeclared_atom, undeclared_literal, undeclared_body, undeclared_clause, undeclared_clauses, undeclared_in_sheet, undeclared_in_goal, open_input, open_output, unless_fault, walk_on, in_both, call_walk, literal_walk, body_fault, head_fault, start_known, clause_fault, clauses_fault, first_of, sheet_fault, walk_fault, goal_fault}
use Rattle.mode_rules.specs.Written.{is_written, is_exempt, first_unwritten, unwritten}
use Rattle.mode_rules.specs.Checking.{name_span, faultless, checked_from, checked_with, checked_sheet, verdict_with, check_verdict, checked_goal_from, checked_goal, goal_answer, check_goal_from, check_goal_verdict}
use Rattle.marks.specs.Spelt.{TermSpelt, stands_compound, LiteralSpelt, call_stands, either_stands, BodySpelt, also_stands, ClauseSpelt, ClausesSpelt, clause_stands, SheetSpelt, GoalSpelt}
use Rattle.marks.proofs.Accepted.{read-stands, goal_stands}
use Rattle.machine.specs.Runs.{RunOutcome, stopped, ran, reported, over_goal, over_sheet, in_range, RunSettings, run_outcome, run_answer}
use Rattle.syntax.specs.Limits.{trace_bytes, most_facts}
use Rattle.machine.specs.Traces.{Fact, Trace, broken, records, declares_seen, if_over, unseen, records_of, facts_of, records_fault, trace_fault, traced_sheet, over_trace, over_traced, traced_outcome}
use Rattle.claims.specs.Names.{NameInside}

-- what holds of a refusal, if there is one
abbrev IfSome : (Refusal → Type 0) → Option Refusal → Type 0
IfSome P none = Unit {0}
IfSome P (some r) = P r

abbrev IfFaulted : (Refusal → Type 0) → Walk → Type 0
IfFaulted P (faulted r) = P r
IfFaulted P (known σ) = Unit {0}

abbrev IfRefused : {A : Type 0} → (Refusal → Type 0) → Outcome A → Type 0
IfRefused P (refused r) = P r
IfRefused P (accepted x) = Unit {0}

module _ (s : List ℕ) where
  -- the name of a refusal of this text
  abbrev In : Refusal → Type 0
  In r = (name_span r).0 + (name_span r).1 ≤ length s

  -- the first of two
  first : (o p : Option Refusal) → IfSome In o → IfSome In p → IfSome In (elim o as (λ _. Option Refusal) [ none ↦ p | some r ↦ some r ])
  first none p h k = k
  first (some r) p h k = h

  in-text : (a : Atom) → TermSpelt s (term_of a) → a.at + length a.name ≤ length s
  in-text a (stands_compound n l w) = n.inside

  -- ---- 8

  undeclared-in : (c l : ℕ) (a : Atom) (o : Option (List Mark)) → TermSpelt s (term_of a) → IfSome In (undeclared c l a o)
  unfolding undeclared
  undeclared-in c l a none w = in-text a w
  undeclared-in c l a (some ms) w = tt

  atom-8 : (ds : List Declaration) (c l : ℕ) (a : Atom) → TermSpelt s (term_of a) → IfSome In (undeclared_atom ds c l a)
  unfolding undeclared_atom
  atom-8 ds c l a w = undeclared-in c l a (marks_of ds a) w

  mutual
    unfolding undeclared_literal undeclared_body

    literal-8 : (ds : List Declaration) (c l : ℕ) (lit : Literal) → LiteralSpelt s lit → IfSome In (undeclared_literal ds c l lit)
    literal-8 ds c l (call a) (call_stands w) = atom-8 ds c l a w
    literal-8 ds c l (equation t u) w = tt
    literal-8 ds c l truth w = tt
    literal-8 ds c l falsity w = tt
    literal-8 ds c l (either y z) (either_stands h k) =
        first (undeclared_body ds c l y) (undeclared_body ds c (literals_of y + l) z) (body-8 ds c l y h) (body-8 ds c (literals_of y + l) z k)

    body-8 : (ds : List Declaration) (c l : ℕ) (b : Body) → BodySpelt s b → IfSome In (undeclared_body ds c l b)
    body-8 ds c l done w = tt
    body-8 ds c l (also lit b) (also_stands h k) =
        first (undeclared_literal ds c l lit) (undeclared_body ds c (literals_in lit + l) b) (literal-8 ds c l lit h) (body-8 ds c (literals_in lit + l) b k)

  clause-8 : (ds : List Declaration) (c : ℕ) (cl : Clause) → ClauseSpelt s cl → IfSome In (undeclared_clause ds c cl)
  unfolding undeclared_clause
  clause-8 ds c cl w =
      first (undeclared_atom ds c 0 cl.head) (undeclared_body ds c 1 cl.body) (atom-8 ds c 0 cl.head w.head) (body-8 ds c 1 cl.body w.body)

  clauses-8 : (ds : List Declaration) (c : ℕ) (cls : List Clause) → ClausesSpelt s cls → IfSome In (undeclared_clauses ds c cls)
  unfolding undeclared_clauses
  clauses-8 ds c [] w = tt
  clauses-8 ds c (cl ∷ cls) (clause_stands h k) =
      first (undeclared_clause ds c cl) (undeclared_clauses ds (suc c) cls) (clause-8 ds c cl h) (clauses-8 ds (suc c) cls k)

  -- ---- 9 and 10

  input-in : (c l : ℕ) (a : Atom) (o : Option OpenArgument) → TermSpelt s (term_of a) → IfSome In (open_input c l a o)
  unfolding open_input
  input-in c l a none w = tt
  input-in c l a (some o) w = in-text a w

  output-in : (c : ℕ) (a : Atom) (o : Option OpenArgument) → TermSpelt s (term_of a) → IfSome In (open_output c a o)
  unfolding open_output
  output-in c a none w = tt
  output-in c a (some o) w = in-text a w

  unless-in : (o : Option Refusal) (σ : Known) → IfSome In o → IfFaulted In (unless_fault o σ)
  unfolding unless_fault
  unless-in none σ h = tt
  unless-in (some r) σ h = h

  call-9 : (ds : List Declaration) (c l : ℕ) (τ : Known) (a : Atom) → TermSpelt s (term_of a) → IfFaulted In (call_walk ds c l τ a)
  unfolding call_walk
  call-9 ds c l τ a w = unless-in _ _ (input-in c l a _ w)

  walk-on : (x : Walk) (rest : Known → Walk) → IfFaulted In x → ((σ : Known) → IfFaulted In (rest σ)) → IfFaulted In (walk_on x rest)
  unfolding walk_on
  walk-on (faulted r) rest h k = h
  walk-on (known σ) rest h k = k σ

  mutual
    unfolding literal_walk body_fault

    literal-9 : (ds : List Declaration) (c l : ℕ) (τ : Known) (lit : Literal) → LiteralSpelt s lit → IfFaulted In (literal_walk ds c l τ lit)
    literal-9 ds c l τ (call a) (call_stands w) = call-9 ds c l τ a w
    literal-9 ds c l τ (equation t u) w = tt
    literal-9 ds c l τ truth w = tt
    literal-9 ds c l τ falsity w = tt
    literal-9 ds c l τ (either y z) (either_stands h k) =
        walk-on (body_fault ds c l τ y) (λ σ. walk_on (body_fault ds c (literals_of y + l) τ z) (λ ρ. known (in_both σ ρ))) (body-9 ds c l τ y h)
        (λ σ. walk-on (body_fault ds c (literals_of y + l) τ z) (λ ρ. known (in_both σ ρ)) (body-9 ds c (literals_of y + l) τ z k) (λ ρ. tt))

    body-9 : (ds : List Declaration) (c l : ℕ) (τ : Known) (b : Body) → BodySpelt s b → IfFaulted In (body_fault ds c l τ b)
    body-9 ds c l τ done w = tt
    body-9 ds c l τ (also lit b) (also_stands h k) =
        walk-on (literal_walk ds c l τ lit) (λ σ. body_fault ds c (literals_in lit + l) σ b) (literal-9 ds c l τ lit h)
        (λ σ. body-9 ds c (literals_in lit + l) σ b k)

  head-10 : (ds : List Declaration) (c : ℕ) (h : Atom) (x : Walk) → TermSpelt s (term_of h) → IfFaulted In x → IfSome In (head_fault ds c h x)
  unfolding head_fault
  head-10 ds c h (faulted r) w k = k
  head-10 ds c h (known σ) w k = output-in c h _ w

  clause-9 : (ds : List Declaration) (c : ℕ) (cl : Clause) → ClauseSpelt s cl → IfSome In (clause_fault ds c cl)
  unfolding clause_fault
  clause-9 ds c cl w = head-10 ds c cl.head _ w.head (body-9 ds c 1 (start_known ds cl.head) cl.body w.body)

  clauses-9 : (ds : List Declaration) (c : ℕ) (cls : List Clause) → ClausesSpelt s cls → IfSome In (clauses_fault ds c cls)
  unfolding clauses_fault
  clauses-9 ds c [] w = tt
  clauses-9 ds c (cl ∷ cls) (clause_stands h k) =
      first (clause_fault ds c cl) (clauses_fault ds (suc c) cls) (clause-9 ds c cl h) (clauses-9 ds (suc c) cls k)

  walk-in : (x : Walk) → IfFaulted In x → IfSome In (walk_fault x)
  unfolding walk_fault
  walk-in (faulted r) h = h
  walk-in (known σ) h = tt

  -- 16 hands back no name
  first-16 : (cs : List Clause) (ds : List Declaration) → IfSome In (first_unwritten cs ds)
  unfolding first_unwritten
  first-16 cs [] = tt
  first-16 cs (d ∷ ds) = by (is_written cs d || is_exempt d) (first-16 cs ds)
    where
      by : (b : Bool) → IfSome In (first_unwritten cs ds) → IfSome In (elim b as (λ _. Option Refusal) [ true ↦ first_unwritten cs ds | false ↦ some (Unwritten d.at) ])
      by true h = h
      by false h = omega arith

  sheet-16 : (stored : Bool) (sh : Sheet) → IfSome In (unwritten stored sh)
  unfolding unwritten
  sheet-16 true sh = tt
  sheet-16 false sh = first-16 sh.clauses sh.declarations

  sheet-in : (stored : Bool) (sh : Sheet) → SheetSpelt s sh → IfSome In (sheet_fault stored sh)
  unfolding sheet_fault undeclared_in_sheet
  sheet-in stored sh w =
      first (undeclared_in_sheet sh) (first_of (unwritten stored sh) (clauses_fault sh.declarations 1 sh.clauses))
      (clauses-8 sh.declarations 1 sh.clauses w.clauses)
      (first (unwritten stored sh) (clauses_fault sh.declarations 1 sh.clauses) (sheet-16 stored sh) (clauses-9 sh.declarations 1 sh.clauses w.clauses))

  goal-in : (sh : Sheet) (g : Goal) → GoalSpelt s g → IfSome In (goal_fault sh g)
  unfolding goal_fault undeclared_in_goal
  goal-in sh g w =
      first (undeclared_in_goal sh g) (walk_fault (body_fault sh.declarations 0 1 none_ground g.body)) (body-8 sh.declarations 0 1 g.body w)
      (walk-in (body_fault sh.declarations 0 1 none_ground g.body) (body-9 sh.declarations 0 1 none_ground g.body w))

  -- ---- 2 to 7 hand back no name

  spelling-in : (b : ℕ) (x y z : Bool) → In (cond x (NoToken b) (cond y (Overlong b) (cond z (Misplaced b) (OverLimit b))))
  spelling-in b true y z = omega arith
  spelling-in b false true z = omega arith
  spelling-in b false false true = omega arith
  spelling-in b false false false = omega arith

  -- what was read has no fault, or one with its name in the text
  faultless-in : {A : Type 0} (x : A) (o : Option Refusal) → IfSome In o → IfRefused In (faultless x o)
  unfolding faultless
  faultless-in x none h = tt
  faultless-in x (some r) h = h

  repeats-in : (stored : Bool) (sh : Sheet) (o : Option ℕ) → SheetSpelt s sh → IfRefused In (checked_from stored (without_repeats sh o))
  unfolding without_repeats checked_from
  repeats-in stored sh none w = faultless-in sh (sheet_fault stored sh) (sheet-in stored sh w)
  repeats-in stored sh (some b) w = omega arith

  sheet-read-in : (stored : Bool) (x : Read Sheet) → read_sheet s ≡ x → IfRefused In (checked_from stored (sheet_from x))
  unfolding sheet_from checked_from
  sheet-read-in stored (fault n b) e = spelling-in b (eqb n 3) (eqb n 4) (eqb n 5)
  sheet-read-in stored (ok sh st) e = repeats-in stored sh (first_repeat [] sh.declarations) (read-stands s sh st e)

  sheet-sized-in : (stored b : Bool) → IfRefused In (checked_from stored (elim b as (λ _. Outcome Sheet) [ true ↦ sheet_from (read_sheet s) | false ↦ refused TooLong ]))
  unfolding checked_from
  sheet-sized-in stored true = sheet-read-in stored (read_sheet s) refl
  sheet-sized-in stored false = omega arith

  checked-in : (stored : Bool) → IfRefused In (checked_with stored s)
  unfolding checked_with sheet_of
  checked-in stored = sheet-sized-in stored (leb (length s) sheet_bytes)

  goal-read-in : (sh : Sheet) (x : Read Goal) → read_goal s ≡ x → IfRefused In (checked_goal_from sh (goal_from x))
  unfolding goal_from checked_goal_from
  goal-read-in sh (fault n b) e = spelling-in b (eqb n 3) (eqb n 4) (eqb n 5)
  goal-read-in sh (ok g st) e = faultless-in g (goal_fault sh g) (goal-in sh g (goal_stands s g st e))

  goal-sized-in : (sh : Sheet) (b : Bool) → IfRefused In (checked_goal_from sh (elim b as (λ _. Outcome Goal) [ true ↦ goal_from (read_goal s) | false ↦ refused TooLong ]))
  unfolding checked_goal_from
  goal-sized-in sh true = goal-read-in sh (read_goal s) refl
  goal-sized-in sh false = omega arith

  checked-goal-in : (sh : Sheet) → IfRefused In (checked_goal sh s)
  unfolding checked_goal goal_outcome
  checked-goal-in sh = goal-sized-in sh (leb (length s) goal_bytes)

-- ---- both texts

module _ (s g : List ℕ) where
  abbrev OfVerdict : Verdict → Type 0
  OfVerdict (Ok counts) = Unit {0}
  OfVerdict (Err f) = NameInside s g f.text f.refusal

  abbrev OfAnswer : Run → Type 0
  OfAnswer (Ok report) = Unit {0}
  OfAnswer (Err f) = NameInside s g f.text f.refusal

  abbrev OfRun : RunOutcome → Type 0
  OfRun (stopped t r) = NameInside s g t r
  OfRun (ran report text) = Unit {0}

  of-sheet : (o : Outcome Sheet) → IfRefused (In s) o → OfVerdict (sheet_verdict o)
  unfolding sheet_verdict
  of-sheet (refused r) h = h
  of-sheet (accepted sh) h = tt

  of-goal : (sh : Sheet) (o : Outcome Goal) → IfRefused (In g) o → OfVerdict (goal_answer sh o)
  unfolding goal_answer sheet_verdict
  of-goal sh (refused r) h = h
  of-goal sh (accepted x) h = tt

  of-both : (o : Outcome Sheet) → IfRefused (In s) o → OfVerdict (check_goal_from g o)
  unfolding check_goal_from
  of-both (refused r) h = h
  of-both (accepted sh) h = of-goal sh (checked_goal sh g) (checked-goal-in g sh)

  -- of a sheet that is checked
  pub check-name : (t : Text) (r : Refusal) → check_verdict s ≡ Refused t r → NameInside s g t r
  unfolding verdict_with
  check-name t r e = subst OfVerdict e (of-sheet (checked_sheet s) (checked-in s false))

  -- of a goal over it
  pub check-goal-name : (t : Text) (r : Refusal) → check_goal_verdict s g ≡ Refused t r → NameInside s g t r
  unfolding check_goal_verdict
  check-goal-name t r e = subst OfVerdict e (of-both (checked_sheet s) (checked-in s false))

  module _ (asked : RunSettings) (room : ℕ) where
    run-goal-in : (sh : Sheet) (o : Outcome Goal) → IfRefused (In g) o → OfRun (over_goal sh asked.allowance asked.wanted room o)
    unfolding over_goal reported
    run-goal-in sh (refused r) h = h
    run-goal-in sh (accepted x) h = tt

    run-sheet-in : (o : Outcome Sheet) → IfRefused (In s) o → OfRun (over_sheet g asked.allowance asked.wanted room o)
    unfolding over_sheet
    run-sheet-in (refused r) h = h
    run-sheet-in (accepted sh) h = run-goal-in sh (checked_goal sh g) (checked-goal-in g sh)

    ranged-in : (b : Bool) → OfRun (elim b as (λ _. RunOutcome) [ true ↦ over_sheet g asked.allowance asked.wanted room (checked_with asked.stored s) | false ↦ stopped Neither Settings ])
    ranged-in true = run-sheet-in (checked_with asked.stored s) (checked-in s asked.stored)
    ranged-in false = omega arith

    answer-in : (o : RunOutcome) → OfRun o → (t : Text) (r : Refusal) → run_answer o ≡ stopped_by t r → NameInside s g t r
    unfolding run_answer
    answer-in (stopped x q) h t r e = subst OfAnswer e h
    answer-in (ran report text) h t r e = absurd (let z : ◌≡◌ {A = ℕ} 0 1 = cc in omega arith)

    -- of a run
    pub run-name : (t : Text) (r : Refusal) → run_answer (run_outcome s g asked room) ≡ stopped_by t r → NameInside s g t r
    unfolding run_outcome
    run-name t r e = answer-in (run_outcome s g asked room) (ranged-in (in_range asked.allowance asked.wanted)) t r e

    -- ---- with a trace: its own refusals hand no name back

    module _ (trace : List ℕ) where
      abbrev Nameless : Refusal → Type 0
      Nameless r = (name_span r).0 + (name_span r).1 ≤ 0

      either-nameless : (o p : Option Refusal) → IfSome Nameless o → IfSome Nameless p → IfSome Nameless (first_of o p)
      either-nameless none p h k = k
      either-nameless (some r) p h k = h

      over-nameless : (b : Bool) → IfSome Nameless (elim b as (λ _. Option Refusal) [ true ↦ none | false ↦ some TraceOverLimit ])
      over-nameless true = tt
      over-nameless false = omega arith

      seen-nameless : (b : Bool) → IfSome Nameless (elim b as (λ _. Option Refusal) [ true ↦ none | false ↦ some SeenUndeclared ])
      seen-nameless true = tt
      seen-nameless false = omega arith

      unseen-nameless : (ds : List Declaration) (fs : List Fact) → IfSome Nameless (unseen ds fs)
      unfolding unseen
      unseen-nameless ds [] = tt
      unseen-nameless ds (f ∷ fs) = seen-nameless (declares_seen ds)

      records-nameless : (ds : List Declaration) (t : Trace) → IfSome Nameless (records_fault ds t)
      unfolding records_fault if_over
      records-nameless ds (broken byte) = omega arith
      records-nameless ds (records rs) =
          either-nameless (if_over most_facts (length (facts_of rs))) (unseen ds (facts_of rs)) (over-nameless (leb (length (facts_of rs)) most_facts))
          (unseen-nameless ds (facts_of rs))

      fault-nameless : (ds : List Declaration) → IfSome Nameless (trace_fault ds trace)
      unfolding trace_fault if_over
      fault-nameless ds =
          either-nameless (if_over trace_bytes (length trace)) (records_fault ds (records_of trace)) (over-nameless (leb (length trace) trace_bytes))
          (records-nameless ds (records_of trace))

      trace-in : (sh : Sheet) (o : Option Refusal) → IfSome Nameless o → OfRun (over_trace g asked.allowance asked.wanted room sh o)
      unfolding over_trace
      trace-in sh (some r) h = h
      trace-in sh none h = run-goal-in sh (checked_goal sh g) (checked-goal-in g sh)

      traced-sheet-in : (o : Outcome Sheet) → IfRefused (In s) o → OfRun (over_traced (length s) g trace asked.allowance asked.wanted room o)
      unfolding over_traced
      traced-sheet-in (refused r) h = h
      traced-sheet-in (accepted sh) h = trace-in (traced_sheet (length s) trace sh) (trace_fault sh.declarations trace) (fault-nameless sh.declarations)

      traced-ranged-in : (b : Bool) → OfRun (elim b as (λ _. RunOutcome) [ true ↦ over_traced (length s) g trace asked.allowance asked.wanted room (checked_with asked.stored s) | false ↦ stopped Neither Settings ])
      traced-ranged-in true = traced-sheet-in (checked_with asked.stored s) (checked-in s asked.stored)
      traced-ranged-in false = omega arith

      -- of a run with a trace
      pub traced-name : (t : Text) (r : Refusal) → run_answer (traced_outcome s g trace asked room) ≡ stopped_by t r → NameInside s g t r
      unfolding traced_outcome
      traced-name t r e = answer-in (traced_outcome s g trace asked room) (traced-ranged-in (in_range asked.allowance asked.wanted)) t r e
