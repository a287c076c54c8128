-- REQUESTS (ii) changes one place of the refusals 9 and 10 and nothing else: with that byte set to 0, verdicts are those of before.
-- Assumes nothing.
use Prim.Native.Nat.{ℕ, suc, ◌+◌}
use mathlib.Core.Path.{◌≡◌, refl, sym, ap, ◌∙◌}
use mathlib.Core.Bool.{Bool, true, false, cond, ◌||◌}
use mathlib.Core.List.{List, [], ◌∷◌}
use mathlib.Core.Option.{Option, none, some}
use lib.Dec.{leb, eqb}
use lib.ListN.{length}
use Rattle.syntax.specs.Terms.{Term, Atom, Literal, Body, call, equation, truth, falsity, either, done, also, literals_in, literals_of, Mark, input, output, Declaration, Clause, Sheet, Goal}
use Rattle.syntax.specs.Limits.{sheet_bytes, goal_bytes}
use Rattle.syntax.specs.Reading.{Read, fault, ok, read_sheet, read_goal, first_repeat}
use Rattle.syntax.specs.Verdicts.{Outcome, refused, accepted, fault_of, without_repeats, sheet_from, goal_from, sheet_of, goal_outcome, sheet_verdict}
use Rattle.syntax.specs.declared.Refusal.{Refusal}
use Rattle.syntax.specs.declared.Refusal.TheVariants.{TooLong, NoToken, Overlong, Misplaced, OverLimit, Unwritten}
use Rattle.mode_rules.specs.Modes.{Known, none_ground, open_unless, open_byte, marks_of, marks_for, same_mark, list_of, if_marked, OpenArgument, first_open, undeclared, undeclared_atom, undeclared_literal, undeclared_body, undeclared_clause, undeclared_clauses, undeclared_in_sheet, undeclared_in_goal, ground_marked, open_input, open_output, Walk, faulted, known, unless_fault, walk_on, in_both, call_walk, literal_walk, body_fault, start_known, head_fault, clause_fault, clauses_fault, first_of, sheet_fault, walk_fault, goal_fault}
use Rattle.mode_rules.specs.Written.{is_written, is_exempt, first_unwritten, unwritten}
use Rattle.mode_rules.specs.Checking.{faultless, checked_from, checked_with, checked_sheet, verdict_with, check_verdict, checked_goal_from, checked_goal, goal_answer, check_goal_from, check_goal_verdict}
use Rattle.mode_rules.specs.Earlier as earlier
use Rattle.mode_rules.specs.Earlier.{without_bytes, without_byte, fault_without, walk_without, outcome_without, verdict_without}
use Rattle.mode_rules.proofs.Terms.{is_none, ground-none}

-- ---- the first open argument is the same, but for its byte

abbrev open_without : Option OpenArgument → Option OpenArgument
open_without none = none
open_without (some o) = some (record { argument = o.argument; byte = 0 })

first-earlier : (m : Mark) (τ : Known) (ks : List Mark) (ts : List Term) (n : ℕ) → open_without (first_open m τ ks ts n) ≡ earlier.first_open without_bytes m τ ks ts n
unfolding first_open earlier.first_open open_unless
first-earlier m τ [] ts n = refl
first-earlier m τ (k ∷ ks) [] n = refl
first-earlier m τ (k ∷ ks) (t ∷ ts) n =
    by (same_mark m k) (open_byte τ t) (first-earlier m τ ks ts (suc n))
    ∙ ap (λ (g : Bool). or_next (earlier.first_open without_bytes m τ ks ts (suc n)) (if_marked (same_mark m k) (open_unless g 0))) (sym (ground-none τ t))
  where
    or_next : Option OpenArgument → Option ℕ → Option OpenArgument
    or_next x o = elim o [ none ↦ x | some b ↦ some (record { argument = n; byte = b }) ]

    by : (x : Bool) (o : Option ℕ) → open_without (first_open m τ ks ts (suc n)) ≡ earlier.first_open without_bytes m τ ks ts (suc n)
        → open_without (or_next (first_open m τ ks ts (suc n)) (if_marked x o)) ≡ or_next (earlier.first_open without_bytes m τ ks ts (suc n)) (if_marked x (open_unless (is_none o) 0))
    by true none h = unfold if_marked in h
    by true (some b) h = unfold if_marked in refl
    by false o h = unfold if_marked in h

-- ---- 8 has no such byte

first-of : (o x o1 x1 : Option Refusal) → fault_without o ≡ o1 → fault_without x ≡ x1
    → fault_without (elim o as (λ _. Option Refusal) [ none ↦ x | some r ↦ some r ]) ≡ elim o1 as (λ _. Option Refusal) [ none ↦ x1 | some r ↦ some r ]
first-of none x o1 x1 e h = h ∙ ap (λ (o : Option Refusal). elim o as (λ _. Option Refusal) [ none ↦ x1 | some r ↦ some r ]) e
first-of (some r) x o1 x1 e h = ap (λ (o : Option Refusal). elim o as (λ _. Option Refusal) [ none ↦ x1 | some r ↦ some r ]) e

atom-same : (ds : List Declaration) (c l : ℕ) (a : Atom) → fault_without (undeclared_atom ds c l a) ≡ undeclared_atom ds c l a
unfolding undeclared_atom
atom-same ds c l a = by (marks_of ds a)
  where
    by : (o : Option (List Mark)) → fault_without (undeclared c l a o) ≡ undeclared c l a o
    by none = unfold undeclared in refl
    by (some ms) = unfold undeclared in refl

mutual
  unfolding undeclared_literal

  literal-same : (ds : List Declaration) (c l : ℕ) (lit : Literal) → fault_without (undeclared_literal ds c l lit) ≡ undeclared_literal ds c l lit
  literal-same ds c l (call a) = atom-same ds c l a
  literal-same ds c l (equation t u) = refl
  literal-same ds c l truth = refl
  literal-same ds c l falsity = refl
  literal-same ds c l (either y z) =
      first-of (undeclared_body ds c l y) (undeclared_body ds c (literals_of y + l) z) _ _ (body_same ds c l y) (body_same ds c (literals_of y + l) z)

  body_same : (ds : List Declaration) (c l : ℕ) (b : Body) → fault_without (undeclared_body ds c l b) ≡ undeclared_body ds c l b
  body_same ds c l done = refl
  body_same ds c l (also lit b) =
      first-of (undeclared_literal ds c l lit) (undeclared_body ds c (literals_in lit + l) b) _ _ (literal-same ds c l lit) (body_same ds c (literals_in lit + l) b)

clause-same : (ds : List Declaration) (c : ℕ) (cl : Clause) → fault_without (undeclared_clause ds c cl) ≡ undeclared_clause ds c cl
unfolding undeclared_clause
clause-same ds c cl = first-of (undeclared_atom ds c 0 cl.head) (undeclared_body ds c 1 cl.body) _ _ (atom-same ds c 0 cl.head) (body_same ds c 1 cl.body)

clauses-same : (ds : List Declaration) (c : ℕ) (cls : List Clause) → fault_without (undeclared_clauses ds c cls) ≡ undeclared_clauses ds c cls
unfolding undeclared_clauses
clauses-same ds c [] = refl
clauses-same ds c (cl ∷ cls) = first-of (undeclared_clause ds c cl) (undeclared_clauses ds (suc c) cls) _ _ (clause-same ds c cl) (clauses-same ds (suc c) cls)

-- ---- 9 and 10

input-earlier : (c l : ℕ) (a : Atom) (o : Option OpenArgument) → fault_without (open_input c l a o) ≡ open_input c l a (open_without o)
unfolding open_input
input-earlier c l a none = refl
input-earlier c l a (some o) = refl

output-earlier : (c : ℕ) (a : Atom) (o : Option OpenArgument) → fault_without (open_output c a o) ≡ open_output c a (open_without o)
unfolding open_output
output-earlier c a none = refl
output-earlier c a (some o) = refl

unless-earlier : (o : Option Refusal) (σ : Known) → walk_without (unless_fault o σ) ≡ unless_fault (fault_without o) σ
unfolding unless_fault
unless-earlier none σ = refl
unless-earlier (some r) σ = refl

call-earlier : (ds : List Declaration) (c l : ℕ) (τ : Known) (a : Atom) → walk_without (call_walk ds c l τ a) ≡ earlier.call_walk without_bytes ds c l τ a
unfolding call_walk earlier.call_walk
call-earlier ds c l τ a =
    unless-earlier (open_input c l a (first_open input τ (marks_for ds a) (list_of a.args) 1)) σ
    ∙ ap (λ (o : Option Refusal). unless_fault o σ)
    (input-earlier c l a (first_open input τ (marks_for ds a) (list_of a.args) 1)
    ∙ ap (open_input c l a) (first-earlier input τ (marks_for ds a) (list_of a.args) 1))
  where
    σ : Known
    σ = ground_marked output (marks_for ds a) (list_of a.args) τ

walk-on : (w : Walk) {v : Walk} (rest more : Known → Walk) → walk_without w ≡ v → ((σ : Known) → walk_without (rest σ) ≡ more σ)
    → walk_without (walk_on w rest) ≡ walk_on v more
unfolding walk_on
walk-on (faulted r) rest more e h = ap (λ (x : Walk). walk_on x more) e
walk-on (known σ) rest more e h = h σ ∙ ap (λ (x : Walk). walk_on x more) e

mutual
  unfolding literal_walk earlier.literal_walk

  literal-earlier : (ds : List Declaration) (c l : ℕ) (τ : Known) (lit : Literal)
      → walk_without (literal_walk ds c l τ lit) ≡ earlier.literal_walk without_bytes ds c l τ lit
  literal-earlier ds c l τ (call a) = call-earlier ds c l τ a
  literal-earlier ds c l τ (equation t u) = refl
  literal-earlier ds c l τ truth = refl
  literal-earlier ds c l τ falsity = refl
  literal-earlier ds c l τ (either y z) =
      walk-on (body_fault ds c l τ y) (λ σ. walk_on (body_fault ds c (literals_of y + l) τ z) (λ ρ. known (in_both σ ρ)))
      (λ σ. walk_on (earlier.body_fault without_bytes ds c (literals_of y + l) τ z) (λ ρ. known (in_both σ ρ)))
      (body-earlier ds c l τ y)
      (λ σ. walk-on (body_fault ds c (literals_of y + l) τ z) (λ ρ. known (in_both σ ρ)) (λ ρ. known (in_both σ ρ))
      (body-earlier ds c (literals_of y + l) τ z) (λ ρ. refl))

  body-earlier : (ds : List Declaration) (c l : ℕ) (τ : Known) (b : Body) → walk_without (body_fault ds c l τ b) ≡ earlier.body_fault without_bytes ds c l τ b
  body-earlier ds c l τ done = refl
  body-earlier ds c l τ (also lit b) =
      walk-on (literal_walk ds c l τ lit) (λ σ. body_fault ds c (literals_in lit + l) σ b) (λ σ. earlier.body_fault without_bytes ds c (literals_in lit + l) σ b)
      (literal-earlier ds c l τ lit) (λ σ. body-earlier ds c (literals_in lit + l) σ b)

head-earlier : (ds : List Declaration) (c : ℕ) (h : Atom) (w : Walk) → fault_without (head_fault ds c h w) ≡ earlier.head_fault without_bytes ds c h (walk_without w)
unfolding head_fault earlier.head_fault
head-earlier ds c h (faulted r) = refl
head-earlier ds c h (known σ) =
    output-earlier c h (first_open output σ (marks_for ds h) (list_of h.args) 1)
    ∙ ap (open_output c h) (first-earlier output σ (marks_for ds h) (list_of h.args) 1)

clause-earlier : (ds : List Declaration) (c : ℕ) (cl : Clause) → fault_without (clause_fault ds c cl) ≡ earlier.clause_fault without_bytes ds c cl
unfolding clause_fault earlier.clause_fault
clause-earlier ds c cl =
    head-earlier ds c cl.head (body_fault ds c 1 (start_known ds cl.head) cl.body)
    ∙ ap (earlier.head_fault without_bytes ds c cl.head) (body-earlier ds c 1 (start_known ds cl.head) cl.body)

clauses-earlier : (ds : List Declaration) (c : ℕ) (cls : List Clause) → fault_without (clauses_fault ds c cls) ≡ earlier.clauses_fault without_bytes ds c cls
unfolding clauses_fault earlier.clauses_fault
clauses-earlier ds c [] = refl
clauses-earlier ds c (cl ∷ cls) = first-of (clause_fault ds c cl) (clauses_fault ds (suc c) cls) _ _ (clause-earlier ds c cl) (clauses-earlier ds (suc c) cls)

first-unwritten-same : (cs : List Clause) (ds : List Declaration) → fault_without (first_unwritten cs ds) ≡ first_unwritten cs ds
unfolding first_unwritten
first-unwritten-same cs [] = refl
first-unwritten-same cs (d ∷ ds) = by (is_written cs d || is_exempt d) (first-unwritten-same cs ds)
  where
    by : (b : Bool) → fault_without (first_unwritten cs ds) ≡ first_unwritten cs ds
        → fault_without (elim b as (λ _. Option Refusal) [ true ↦ first_unwritten cs ds | false ↦ some (Unwritten d.at) ])
        ≡ elim b as (λ _. Option Refusal) [ true ↦ first_unwritten cs ds | false ↦ some (Unwritten d.at) ]
    by true h = h
    by false h = refl

unwritten-same : (stored : Bool) (sh : Sheet) → fault_without (unwritten stored sh) ≡ unwritten stored sh
unfolding unwritten
unwritten-same true sh = refl
unwritten-same false sh = first-unwritten-same sh.clauses sh.declarations

pub sheet-fault-earlier : (stored : Bool) (sh : Sheet) → fault_without (sheet_fault stored sh) ≡ earlier.sheet_fault without_bytes stored sh
unfolding sheet_fault earlier.sheet_fault undeclared_in_sheet
sheet-fault-earlier stored sh =
    first-of (undeclared_clauses sh.declarations 1 sh.clauses) (first_of (unwritten stored sh) (clauses_fault sh.declarations 1 sh.clauses)) _ _
    (clauses-same sh.declarations 1 sh.clauses)
    (first-of (unwritten stored sh) (clauses_fault sh.declarations 1 sh.clauses) _ _ (unwritten-same stored sh) (clauses-earlier sh.declarations 1 sh.clauses))

walk-fault : (w : Walk) → fault_without (walk_fault w) ≡ walk_fault (walk_without w)
unfolding walk_fault
walk-fault (faulted r) = refl
walk-fault (known σ) = refl

pub goal-fault-earlier : (sh : Sheet) (g : Goal) → fault_without (goal_fault sh g) ≡ earlier.goal_fault without_bytes sh g
unfolding goal_fault earlier.goal_fault undeclared_in_goal
goal-fault-earlier sh g =
    first-of (undeclared_body sh.declarations 0 1 g.body) (walk_fault (body_fault sh.declarations 0 1 none_ground g.body)) _ _
    (body_same sh.declarations 0 1 g.body)
    (walk-fault (body_fault sh.declarations 0 1 none_ground g.body) ∙ ap walk_fault (body-earlier sh.declarations 0 1 none_ground g.body))

-- ---- verdicts

fault-same : (n b : ℕ) → without_byte (fault_of n b) ≡ fault_of n b
fault-same n b = by (eqb n 3) (eqb n 4) (eqb n 5)
  where
    by : (x y z : Bool)
        → without_byte (cond x (NoToken b) (cond y (Overlong b) (cond z (Misplaced b) (OverLimit b))))
        ≡ cond x (NoToken b) (cond y (Overlong b) (cond z (Misplaced b) (OverLimit b)))
    by true y z = refl
    by false true z = refl
    by false false true = refl
    by false false false = refl

-- reading refuses with 2 to 7
sheet-same : (s : List ℕ) → outcome_without {A = Sheet} (sheet_of s) ≡ sheet_of s
unfolding sheet_of
sheet-same s = by (leb (length s) sheet_bytes)
  where
    repeats : (sh : Sheet) (o : Option ℕ) → outcome_without {A = Sheet} (without_repeats sh o) ≡ without_repeats sh o
    repeats sh none = unfold without_repeats in refl
    repeats sh (some b) = unfold without_repeats in refl

    from : (r : Read Sheet) → outcome_without {A = Sheet} (sheet_from r) ≡ sheet_from r
    from (fault n b) = unfold sheet_from in (ap refused (fault-same n b))
    from (ok sh st) = unfold sheet_from in (repeats sh (first_repeat [] sh.declarations))

    by : (b : Bool) → outcome_without {A = Sheet} (elim b as (λ _. Outcome Sheet) [ true ↦ sheet_from (read_sheet s) | false ↦ refused TooLong ])
        ≡ elim b as (λ _. Outcome Sheet) [ true ↦ sheet_from (read_sheet s) | false ↦ refused TooLong ]
    by true = from (read_sheet s)
    by false = refl

goal-same : (s : List ℕ) → outcome_without {A = Goal} (goal_outcome s) ≡ goal_outcome s
unfolding goal_outcome
goal-same s = by (leb (length s) goal_bytes)
  where
    from : (r : Read Goal) → outcome_without {A = Goal} (goal_from r) ≡ goal_from r
    from (fault n b) = unfold goal_from in (ap refused (fault-same n b))
    from (ok g st) = unfold goal_from in refl

    by : (b : Bool) → outcome_without {A = Goal} (elim b as (λ _. Outcome Goal) [ true ↦ goal_from (read_goal s) | false ↦ refused TooLong ])
        ≡ elim b as (λ _. Outcome Goal) [ true ↦ goal_from (read_goal s) | false ↦ refused TooLong ]
    by true = from (read_goal s)
    by false = refl

faultless-without : {A : Type 0} (x : A) (o : Option Refusal) → outcome_without (faultless x o) ≡ faultless x (fault_without o)
unfolding faultless
faultless-without x none = refl
faultless-without x (some r) = refl

-- The sheet that checking accepts, or its refusal, is that of before but for this byte.
pub checked-sheet-earlier : (stored : Bool) (s : List ℕ) → outcome_without {A = Sheet} (checked_with stored s) ≡ earlier.checked_with without_bytes stored s
unfolding checked_with earlier.checked_with
checked-sheet-earlier stored s = by (sheet_of s) (sheet-same s)
  where
    by : (o : Outcome Sheet) → outcome_without {A = Sheet} o ≡ o → outcome_without {A = Sheet} (checked_from stored o) ≡ earlier.checked_from without_bytes stored o
    by (refused r) e = unfold checked_from in unfold earlier.checked_from in e
    by (accepted sh) e =
        unfold checked_from in unfold earlier.checked_from in
        (faultless-without sh (sheet_fault stored sh) ∙ ap (faultless sh) (sheet-fault-earlier stored sh))

-- The same of a goal over a sheet.
pub checked-goal-earlier : (sh : Sheet) (g : List ℕ) → outcome_without {A = Goal} (checked_goal sh g) ≡ earlier.checked_goal without_bytes sh g
unfolding checked_goal earlier.checked_goal
checked-goal-earlier sh g = by (goal_outcome g) (goal-same g)
  where
    by : (o : Outcome Goal) → outcome_without {A = Goal} o ≡ o → outcome_without {A = Goal} (checked_goal_from sh o) ≡ earlier.checked_goal_from without_bytes sh o
    by (refused r) e = unfold checked_goal_from in unfold earlier.checked_goal_from in e
    by (accepted x) e = unfold checked_goal_from in unfold earlier.checked_goal_from in (faultless-without x (goal_fault sh x) ∙ ap (faultless x) (goal-fault-earlier sh x))

verdict-without : (o : Outcome Sheet) → verdict_without (sheet_verdict o) ≡ sheet_verdict (outcome_without o)
unfolding sheet_verdict
verdict-without (refused r) = refl
verdict-without (accepted sh) = refl

-- "refusals 9 and 10 carry it in their byte place, which was 0": with this byte set to 0, the verdict on a sheet is that of before.
pub verdict-earlier : (s : List ℕ) → verdict_without (check_verdict s) ≡ earlier.check_verdict without_bytes s
unfolding verdict_with earlier.check_verdict
verdict-earlier s = verdict-without (checked_sheet s) ∙ ap sheet_verdict (checked-sheet-earlier false s)

answer-without : (sh : Sheet) (o : Outcome Goal) → verdict_without (goal_answer sh o) ≡ goal_answer sh (outcome_without {A = Goal} o)
unfolding goal_answer sheet_verdict
answer-without sh (refused r) = refl
answer-without sh (accepted g) = refl

-- The same of a sheet and a goal.
pub goal-verdict-earlier : (s g : List ℕ) → verdict_without (check_goal_verdict s g) ≡ earlier.check_goal_verdict without_bytes s g
unfolding check_goal_verdict earlier.check_goal_verdict
goal-verdict-earlier s g = by (checked_sheet s) ∙ ap (earlier.check_goal_from without_bytes g) (checked-sheet-earlier false s)
  where
    by : (o : Outcome Sheet) → verdict_without (check_goal_from g o) ≡ earlier.check_goal_from without_bytes g (outcome_without o)
    by (refused r) = unfold check_goal_from in unfold earlier.check_goal_from in refl
    by (accepted sh) = unfold check_goal_from in unfold earlier.check_goal_from in (answer-without sh (checked_goal sh g) ∙ ap (goal_answer sh) (checked-goal-earlier sh g))
