-- "Every answer of our own run without a trace or (x)'s mark has workings that are accepted with the same line, given room for it."
use Prim.Native.Nat.{ℕ, zero, suc, ◌+◌, ◌≤◌, ◌<◌}
use native.Mathlib.Omega.{arith}
use mathlib.Core.Path.{◌≡◌, refl, sym, ap, ◌∙◌, subst}
use mathlib.Core.Bool.{Bool, true, false, cond, ◌&&◌}
use mathlib.Core.List.{List, [], ◌∷◌, ◌++◌, append-nil}
use mathlib.Core.Option.{Option, none, some}
use lib.Dec.{T, leb, ltb, eqb, le→leb}
use lib.ListN.{length}
use borrow.Author.Tests.{leb-false}
use Rattle.syntax.specs.Limits.{longest_path, clauses}
use Rattle.syntax.specs.Terms.{Atom, term_of, Literal, call, equation, truth, falsity, either, Clause, Sheet, Goal}
use Rattle.syntax.specs.Verdicts.{accepted}
use Rattle.syntax.specs.declared.Text.TheVariants.{Neither}
use Rattle.syntax.specs.declared.Refusal.TheVariants.{LineTooLong}
use Rattle.mode_rules.specs.Checking.{checked_with, checked_goal}
use Rattle.machine.specs.Substitution.{copied, Binding}
use Rattle.machine.specs.Unification.{unify}
use Rattle.machine.specs.Machine.{Pending, Alternative, path, clause_at, gone, equated, moved_on, laid, tried, on_top, called, worked, worked_on, outcome, step, start}
use Rattle.machine.specs.Answers.{line}
use Rattle.machine.specs.Runs.{RunEnd, Wanted, Done, Steps, Full, Deep, Progress, is_empty, is_answer, line_with, next_line, is_there, tries_with, tries_first, goes_deeper, endings, first_end, one_if, advance, end_or, run_from, begun as run_begun, run, Report, RunSettings, ran, reported, run_outcome}
use Rattle.machine.specs.Claims.{RunOver}
use Rattle.machine_theorems.proofs.Piles.{All, all_append}
use Rattle.machine_theorems.proofs.EveryRun.{nothing-open-in-runs}
use Rattle.run_layout.proofs.Limits.{checked-sheet-limited}
use Rattle.run_layout.proofs.Pile.{clause-low}
use Rattle.derivations.specs.Workings.{Choice, Numbered, Left, Right, no_more, settled, answered, replay, begun, finished, fitting, WorkingsOutcome, rejected, told, over_replay, over_goal, over_sheet, workings_outcome}
use Rattle.derivations.specs.Derivations.{recorded, written_record, written, AllBytes, LinesHaveWorkings, no_answer, one_more}
use Rattle.derivations.proofs.Bytes.{read-written}
use Rattle.derivations.proofs.Found.{ClausesThere, LedTo, HasRecords, outcome-has, start-has}

-- ---- paths in a run

abbrev Short : Alternative → Type 0
Short a = path a ≤ longest_path

true-false : true ≡ false → ⊥
true-false e = let z : ◌≡◌ {A = ℕ} 0 1 = cc in omega arith

-- a step that would not try a clause at path 255 leaves paths of at most 255
module _ (sh : Sheet) (a : Alternative) (short : Short a) (c : ℕ) (rest : List Pending) where
  laid-short : (at : Atom) (cl : Clause) (o : Option (List Binding)) → path a < longest_path → All Short (on_top (laid sh a c at rest cl o) (moved_on sh a at))
  unfolding laid on_top moved_on
  laid-short at cl none l = (short, tt)
  laid-short at cl (some b) l = ((let z : suc (path a) ≤ longest_path = omega arith in z), (short, tt))

  called-short : (at : Atom) (o : Option Clause) → is_there o && leb longest_path (path a) ≡ false → All Short (called sh a c at rest o)
  unfolding called tried is_there
  called-short at none e = tt
  called-short at (some cl) e = laid-short at cl (unify a.bindings (copied c (term_of at)) (copied (suc (path a)) (term_of cl.head))) (omega (arith, leb-false longest_path (path a) e))

  equated-short : (o : Option (List Binding)) → All Short (equated sh a rest o)
  unfolding equated gone
  equated-short none = tt
  equated-short (some b) = (short, tt)

  worked-short : (l : Literal) → tries_with sh a l && leb longest_path (path a) ≡ false → All Short (worked sh a c rest l)
  unfolding worked tries_with gone
  worked-short (call at) e = called-short at (clause_at sh a.next) e
  worked-short (equation t u) e = equated-short (unify a.bindings (copied c t) (copied c u))
  worked-short truth e = (short, tt)
  worked-short falsity e = tt
  worked-short (either y z) e = (short, (short, tt))

step-short : (sh : Sheet) (pile : List Alternative) → All Short pile → goes_deeper sh pile ≡ false → All Short (step sh pile)
unfolding step outcome worked_on goes_deeper tries_first
step-short sh [] h e = tt
step-short sh (a ∷ below) h e = all_append Short (worked_on sh a a.literals) below (go a.literals e) h.1
  where
    go : (lits : List Pending) → tries_first sh a lits && leb longest_path (path a) ≡ false → All Short (worked_on sh a lits)
    go [] q = tt
    go (p ∷ rest) q = worked-short sh a h.0 p.copy rest p.literal q

-- ---- records as bytes

-- of at most 256 clauses each number fits two bytes
written-bytes : (sh : Sheet) → length sh.clauses ≤ clauses → (ms : List Choice) → ClausesThere sh ms → AllBytes (written ms)
unfolding written written_record
written-bytes sh few [] h = tt
written-bytes sh few (Numbered n ∷ ms) h =
    let l : n ≤ length sh.clauses = clause-low sh n h.0.0 h.0.1 in
    (omega arith, (omega arith, (omega arith, written-bytes sh few ms h.1)))
written-bytes sh few (Left ∷ ms) h = (omega arith, written-bytes sh few ms h)
written-bytes sh few (Right ∷ ms) h = (omega arith, written-bytes sh few ms h)

-- ---- the answers of a run

module _ (sheet goal : List ℕ) (sh : Sheet) (g : Goal) (s : checked_with false sheet ≡ accepted sh) (e : checked_goal sh goal ≡ accepted g) where
  few : length sh.clauses ≤ clauses
  few = (checked-sheet-limited false sheet sh s).few

  fits : (l : List ℕ) (room : ℕ) → length l ≤ room → fitting room l ≡ told l
  unfolding fitting
  fits l room h = go (leb (length l) room) (le→leb (length l) room h)
    where
      go : (t : Bool) → T t → ◌≡◌ {A = WorkingsOutcome} (cond t (told l) (rejected Neither LineTooLong)) (told l)
      go true k = refl
      go false k = absurd k

  -- the workings that records are, accepted
  accepts : (ms : List Choice) (b : List Binding) → replay sh (recorded ms) (begun g) ≡ answered b → (room : ℕ) → length (line g b) ≤ room
      → workings_outcome sheet goal (written ms) room ≡ told (line g b)
  unfolding workings_outcome over_sheet over_goal over_replay
  accepts ms b q room h =
      ap (over_sheet goal (written ms) room) s
      ∙ ap (over_goal (written ms) room sh) e
      ∙ ap (λ (r : _). over_replay g room r) (ap (λ (rs : _). replay sh rs (begun g)) (read-written ms) ∙ q)
      ∙ fits (line g b) room h

  -- an answer that is next, and its line
  no-line : (n : ℕ) (text : List ℕ) → LinesHaveWorkings sheet goal n text → LinesHaveWorkings sheet goal (n + 0) (text ++ [])
  no-line n text w =
      subst (λ (m : ℕ). LinesHaveWorkings sheet goal m (text ++ [])) (let z : n ≡ n + 0 = omega arith in z) (subst (LinesHaveWorkings sheet goal n) (sym (append-nil text)) w)

  top-worked : (n : ℕ) (text : List ℕ) → LinesHaveWorkings sheet goal n text → (a : Alternative) (lits : List Pending) → LedTo sh g (path a) a.bindings lits
      → LinesHaveWorkings sheet goal (n + one_if (is_empty lits)) (text ++ line_with g a lits)
  unfolding is_empty line_with one_if
  top-worked n text w a [] l =
      subst (λ (m : ℕ). LinesHaveWorkings sheet goal m (text ++ line g a.bindings)) (let z : suc n ≡ n + 1 = omega arith in z)
      (one_more w (line g a.bindings) (written l.choices) (written-bytes sh few l.choices l.numbered)
      (accepts l.choices a.bindings (l.onward no_more a.bindings (unfold settled in unfold replay in unfold finished in refl))))
  top-worked n text w a (p ∷ rest) l = no-line n text w

  next-worked : (n : ℕ) (text : List ℕ) → LinesHaveWorkings sheet goal n text → (pile : List Alternative) → All (HasRecords sh g) pile → All Short pile
      → LinesHaveWorkings sheet goal (n + one_if (is_answer pile)) (text ++ next_line g pile)
  unfolding is_answer next_line one_if
  next-worked n text w [] h k = no-line n text w
  next-worked n text w (a ∷ below) h k = top-worked n text w a a.literals (h.0 k.0)

  record Ongoing (p : Progress) : Type 0 where
    has : All (HasRecords sh g) p.pile
    short : All Short p.pile
    lines : LinesHaveWorkings sheet goal p.answers p.text

  has-step : (pile : List Alternative) → All (HasRecords sh g) pile → All (HasRecords sh g) (step sh pile)
  unfolding step
  has-step [] h = tt
  has-step (a ∷ below) h = all_append (HasRecords sh g) (outcome sh a) below (outcome-has sh g a h.0) h.1

  module _ (wanted room : ℕ) where
    not-deeper : (left : ℕ) (p : Progress) → first_end (endings sh g wanted room left p) ≡ none → goes_deeper sh p.pile ≡ false
    unfolding first_end
    not-deeper left p q =
        go (is_empty p.pile) (leb wanted p.answers) (eqb left 0) (is_answer p.pile && ltb room (length p.text + length (next_line g p.pile)))
        (goes_deeper sh p.pile) q
      where
        never : (k : RunEnd) → some k ≡ none → ⊥
        never k q = let z : ◌≡◌ {A = ℕ} 0 1 = cc in omega arith

        go : (a b c d f : Bool)
            → ◌≡◌ {A = Option RunEnd} (elim a [ true ↦ some Done | false ↦ elim b [ true ↦ some Wanted | false ↦ elim c [ true ↦ some Steps | false ↦ elim d [ true ↦ some Full | false ↦ elim f [ true ↦ some Deep | false ↦ none ] ] ] ] ]) none
            → f ≡ false
        go true b c d f q = absurd (never Done q)
        go false true c d f q = absurd (never Wanted q)
        go false false true d f q = absurd (never Steps q)
        go false false false true f q = absurd (never Full q)
        go false false false false true q = absurd (never Deep q)
        go false false false false false q = refl

    advance-ongoing : (left : ℕ) (p : Progress) → first_end (endings sh g wanted room left p) ≡ none → Ongoing p → Ongoing (advance sh g p)
    unfolding advance
    advance-ongoing left p q h =
        record {
          has = has-step p.pile h.has;
          short = step-short sh p.pile h.short (not-deeper left p q);
          lines = next-worked p.answers p.text h.lines p.pile h.has h.short;
        }

    from-ongoing : (n : ℕ) (p : Progress) → Ongoing p → Ongoing (run_from sh g wanted room n p).at
    unfolding run_from end_or
    from-ongoing zero p h = go (first_end (endings sh g wanted room 0 p))
      where
        go : (o : Option RunEnd) → Ongoing (end_or p o (λ _. record { kind = Steps; at = p })).at
        go none = h
        go (some k) = h
    from-ongoing (suc n) p h = go (first_end (endings sh g wanted room (suc n) p)) refl (λ q. from-ongoing n (advance sh g p) (advance-ongoing (suc n) p q h))
      where
        go : (o : Option RunEnd) → first_end (endings sh g wanted room (suc n) p) ≡ o
            → (first_end (endings sh g wanted room (suc n) p) ≡ none → Ongoing (run_from sh g wanted room n (advance sh g p)).at)
            → Ongoing (end_or p o (λ _. run_from sh g wanted room n (advance sh g p))).at
        go none q k = k q
        go (some x) q k = h

    run-ongoing : (allowance : ℕ) → Ongoing (run sh g allowance wanted room).at
    unfolding run run_begun
    run-ongoing allowance =
        from-ongoing allowance (run_begun sh g)
        (record { has = start-has sh g; short = unfold start in ((let z : 0 ≤ longest_path = omega arith in z), tt); lines = no_answer })

-- EVERY ANSWER OF A RUN HAS WORKINGS, over texts: of a run without a trace and without the mark.
pub run-has-workings : (sheet goal : List ℕ) (asked : RunSettings) (room : ℕ) (r : Report) (text : List ℕ) → asked.stored ≡ false → run_outcome sheet goal asked room ≡ ran r text
    → LinesHaveWorkings sheet goal r.answers text
unfolding reported
run-has-workings sheet goal asked room r text m e = go o.reports
  where
    o : RunOver sheet goal asked room r text
    o = nothing-open-in-runs sheet goal asked room r text e

    sheet-is : checked_with false sheet ≡ accepted o.texts.sh
    sheet-is = subst (λ (b : Bool). checked_with b sheet ≡ accepted o.texts.sh) m o.texts.sheet_accepted

    at : Progress
    at = (run o.texts.sh o.texts.g asked.allowance asked.wanted room).at

    all : Ongoing sheet goal o.texts.sh o.texts.g sheet-is o.texts.goal_accepted at
    all = run-ongoing sheet goal o.texts.sh o.texts.g sheet-is o.texts.goal_accepted asked.wanted room asked.allowance

    go : reported (run o.texts.sh o.texts.g asked.allowance asked.wanted room) ≡ ran r text → LinesHaveWorkings sheet goal r.answers text
    go q =
        let answers-are : at.answers ≡ r.answers = cc in
        let text_is : at.text ≡ text = cc in
        subst (λ (l : List ℕ). LinesHaveWorkings sheet goal r.answers l) text_is (subst (λ (n : ℕ). LinesHaveWorkings sheet goal n at.text) answers-are all.lines)
