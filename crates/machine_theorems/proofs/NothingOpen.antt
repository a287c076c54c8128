-- No argument is left open: for every accepted goal over an accepted sheet both counts are zero, after any number of steps of the machine from the goal alone.
use Prim.Native.Nat.{ℕ, zero, suc, ◌+◌, ◌≤◌}
use native.Mathlib.Omega.{arith}
use mathlib.Core.Path.{◌≡◌, refl, sym, subst}
use mathlib.Core.Bool.{Bool, true, false, not}
use mathlib.Core.List.{List, [], ◌∷◌}
use mathlib.Core.Option.{Option, none, some}
use lib.Dec.{T, leb}
use lib.ListN.{length}
use Rattle.syntax.specs.Terms.{Atom, term_of, Literal, call, equation, truth, falsity, either, Body, Mark, input, output, Declaration, Clause, Sheet, Goal}
use Rattle.syntax.specs.declared.Refusal.{Refusal}
use Rattle.mode_rules.specs.Modes.{Known, none_ground, marks_for, list_of, clause_fault, clauses_fault, sheet_fault, Walk, faulted, known, walk_fault, body_fault, undeclared_in_goal, goal_fault}
use Rattle.mode_theorems.proofs.Agreement.{sheet-marks}
use Rattle.machine.specs.Substitution.{RTerm, copied, Binding}
use Rattle.machine.specs.Unification.{unify}
use Rattle.machine.specs.Unifiers.{MostGeneral, Unified}
use Rattle.machine.specs.Machine.{Pending, Call, Alternative, path, pending, nth_clause, clause_at, gone, equated, moved_on, laid, tried, on_top, called, worked, worked_on, outcome, step, start}
use Rattle.machine.specs.Counts.{open_arguments, inputs_of, inputs_first, open_inputs, is_left, shows, shows_newly, count_if, outputs_over, open_outputs, Tally, counted_on, counted_step, tally}
use Rattle.machine.specs.Claims.{BothZero}
use Rattle.machine.proofs.Tests.{both, some-eq, some-none}
use Rattle.machine_theorems.proofs.Piles.{All, all_append}
use Rattle.machine_theorems.proofs.Terms.{Grows, grows-more}
use Rattle.machine_theorems.proofs.Unifier.{unify-spec}
use Rattle.machine_theorems.proofs.Grounding.{sound-nothing, marked-count}
use Rattle.machine_theorems.proofs.Safety.{ClosedArguments, Shown, First, Side, Safe, safe-shown, Bounded, bounded-up, bounded-pending, side-safe, Ends, body-safe, clause-safe}

-- ---- safe alternatives

pub record Good (sh : Sheet) (a : Alternative) : Type 0 where
  pub safe : Safe sh a.calls a.literals a.bindings
  pub bounded : Bounded (path a) a.literals

-- ---- accepted sheets: each of their clauses passes

none_then : (o r : Option Refusal) → ◌≡◌ {A = Option Refusal} (elim o [ none ↦ r | some x ↦ some x ]) none → (o ≡ none) × (r ≡ none)
none_then none r e = (refl, e)
none_then (some x) r e = absurd (some-none x e)

abbrev pub Passes : Sheet → Clause → Type 0
Passes sh cl = (n : ℕ) × (clause_fault sh.declarations n cl ≡ none)

clauses-pass : (ds : List Declaration) (n : ℕ) (cls : List Clause) → clauses_fault ds n cls ≡ none → (k : ℕ) (cl : Clause) → nth_clause cls k ≡ some cl → (m : ℕ) × (clause_fault ds m cl ≡ none)
unfolding clauses_fault nth_clause
clauses-pass ds n [] e k cl h = absurd (some-none cl (sym h))
clauses-pass ds n (x ∷ xs) e zero cl h =
    (n, subst (λ (y : Clause). clause_fault ds n y ≡ none) (some-eq x cl h) (none_then (clause_fault ds n x) (clauses_fault ds (suc n) xs) e).0)
clauses-pass ds n (x ∷ xs) e (suc k) cl h = clauses-pass ds (suc n) xs (none_then (clause_fault ds n x) (clauses_fault ds (suc n) xs) e).1 k cl h

pub sheet-passes : (stored : Bool) (sh : Sheet) → sheet_fault stored sh ≡ none → (n : ℕ) (cl : Clause) → clause_at sh n ≡ some cl → Passes sh cl
unfolding clause_at
sheet-passes stored sh e zero cl h = absurd (some-none cl (sym h))
sheet-passes stored sh e (suc n) cl h = clauses-pass sh.declarations 1 sh.clauses (sheet-marks stored sh e) n cl h

-- ---- one step keeps all alternatives safe

pub unified-grows : {b b1 : List Binding} {t u : RTerm} → MostGeneral b t u b1 → Grows b b1
unified-grows {b} m = subst (Grows b) (sym m.extends) (grows-more m.newer b)

module _ (sh : Sheet) (passes : (n : ℕ) (cl : Clause) → clause_at sh n ≡ some cl → Passes sh cl) (a : Alternative) (good : Good sh a) (c : ℕ) (rest : List Pending) where
  moved-good : (at : Atom) → Good sh (moved_on sh a at)
  unfolding moved_on
  moved-good at = record { safe = good.safe; bounded = good.bounded }

  laid-good : (at : Atom) (cl : Clause) → Passes sh cl → Safe sh a.calls (record { copy = c; literal = call at } ∷ rest) a.bindings → Bounded (path a) rest
      → (r : Option (List Binding)) → Unified a.bindings (copied c (term_of at)) (copied (suc (path a)) (term_of cl.head)) r → All (Good sh) (on_top (laid sh a c at rest cl r) (moved_on sh a at))
  unfolding on_top laid
  laid-good at cl p s h none u = (moved-good at, tt)
  laid-good at cl p s h (some b) m = (
    record {
      safe = clause-safe sh a.calls c at rest a.bindings b s h (unified-grows m) cl p.0 p.1 m.equal;
      bounded = bounded-pending (suc (path a)) (suc (path a)) cl.body rest (omega arith) (bounded-up (path a) rest h);
    },
    (moved-good at, tt),
  )

  called-good : (at : Atom) → Safe sh a.calls (record { copy = c; literal = call at } ∷ rest) a.bindings → Bounded (path a) rest → (o : Option Clause) → clause_at sh a.next ≡ o → All (Good sh) (called sh a c at rest o)
  unfolding called tried
  called-good at s h none e = tt
  called-good at s h (some cl) e =
      laid-good at cl (passes a.next cl e) s h (unify a.bindings (copied c (term_of at)) (copied (suc (path a)) (term_of cl.head))) (unify-spec a.bindings (copied c (term_of at)) (copied (suc (path a)) (term_of cl.head)))

  gone-good : (lits : List Pending) (b : List Binding) → Safe sh a.calls lits b → Bounded (path a) lits → Good sh (gone sh a lits b)
  unfolding gone
  gone-good lits b s h = record { safe = s; bounded = h }

  side-good : (y : Body) → Side sh a.calls c y rest (λ b1. Safe sh a.calls rest b1) a.bindings → c ≤ path a → Bounded (path a) rest
      → Good sh (gone sh a (pending c y rest) a.bindings)
  side-good y s l h =
      gone-good (pending c y rest) a.bindings (side-safe sh a.calls c y rest a.bindings s) (bounded-pending (path a) c y rest l h)

  worked-good : (l : Literal) → Safe sh a.calls (record { copy = c; literal = l } ∷ rest) a.bindings → c ≤ path a → Bounded (path a) rest
      → All (Good sh) (worked sh a c rest l)
  unfolding worked equated Safe First
  worked-good (call at) s l h = called-good at s h (clause_at sh a.next) refl
  worked-good (equation t u) s l h = go (unify a.bindings (copied c t) (copied c u)) (unify-spec a.bindings (copied c t) (copied c u))
    where
      go : (r : Option (List Binding)) → Unified a.bindings (copied c t) (copied c u) r → All (Good sh) (equated sh a rest r)
      go none m = tt
      go (some b) m = (gone-good rest b (s.1 b (unified-grows m) m.equal) h, tt)
  worked-good truth s l h = (gone-good rest a.bindings s.1 h, tt)
  worked-good falsity s l h = tt
  worked-good (either y z) s l h = (side-good y s.1.0 l h, (side-good z s.1.1 l h, tt))

pub outcome-good : (sh : Sheet) → ((n : ℕ) (cl : Clause) → clause_at sh n ≡ some cl → Passes sh cl) → (a : Alternative) → Good sh a → All (Good sh) (outcome sh a)
unfolding outcome worked_on Bounded
outcome-good sh passes a good = go a.literals good.safe good.bounded
  where
    go : (lits : List Pending) → Safe sh a.calls lits a.bindings → Bounded (path a) lits → All (Good sh) (worked_on sh a lits)
    go [] s h = tt
    go (p ∷ ps) s h = worked-good sh passes a good p.copy ps p.literal s h.0 h.1

-- ---- a safe alternative adds nothing to the counts

-- an atom's arguments with the mark, all closed, are counted as none
arguments-zero : (sh : Sheet) (m : Mark) (b : List Binding) (c : ℕ) (a : Atom) → ClosedArguments sh m b c a → open_arguments sh m b c a ≡ 0
unfolding open_arguments
arguments-zero sh m b c a h = marked-count m b c (marks_for sh.declarations a) (list_of a.args) h

inputs-zero : (sh : Sheet) (a : Alternative) → Good sh a → open_inputs sh a ≡ 0
unfolding open_inputs inputs_first inputs_of Safe First
inputs-zero sh a good = go a.literals good.safe
  where
    of : (c : ℕ) (l : Literal) (ps : List Pending) (P : List Binding → Type 0) → First sh a.calls c l ps P a.bindings → inputs_of sh a.bindings c l ≡ 0
    of c (call at) ps P f = arguments-zero sh input a.bindings c at f.0
    of c (equation t u) ps P f = refl
    of c truth ps P f = refl
    of c falsity ps P f = refl
    of c (either y z) ps P f = refl

    go : (lits : List Pending) → Safe sh a.calls lits a.bindings → inputs_first sh a.bindings lits ≡ 0
    go [] s = refl
    go (p ∷ ps) s = of p.copy p.literal ps (λ b1. Safe sh a.calls ps b1) s.1

outputs-over : (sh : Sheet) (before after : Alternative) (cs : List Call) → Shown sh after.calls after.literals after.bindings cs → outputs_over sh before after cs ≡ 0
unfolding outputs_over shows_newly shows Shown count_if
outputs-over sh before after [] s = refl
outputs-over sh before after (c ∷ cs) s = go (shows_newly before after k) shown (outputs-over sh before after cs s.1)
  where
    k : ℕ
    k = suc (length cs)

    shown : T (shows_newly before after k) → T (not (is_left after.calls k after.literals))
    shown t = (both (leb k (path after)) (not (is_left after.calls k after.literals)) (both (shows after k) (not (shows before k)) t).0).1

    go : (x : Bool) → (T x → T (not (is_left after.calls k after.literals))) → outputs_over sh before after cs ≡ 0
        → count_if x (open_arguments sh output after.bindings c.copy c.atom) + outputs_over sh before after cs ≡ 0
    go true h e =
        let z : open_arguments sh output after.bindings c.copy c.atom ≡ 0 = arguments-zero sh output after.bindings c.copy c.atom (s.0 (h tt)) in
        omega arith
    go false h e = omega arith

outputs-zero : (sh : Sheet) (before : Alternative) (alts : List Alternative) → All (Good sh) alts → open_outputs sh before alts ≡ 0
unfolding open_outputs
outputs-zero sh before [] h = refl
outputs-zero sh before (a ∷ alts) h =
    let e : outputs_over sh before a a.calls ≡ 0 = outputs-over sh before a a.calls (safe-shown sh a.calls a.literals a.bindings h.0.safe) in
    let k : open_outputs sh before alts ≡ 0 = outputs-zero sh before alts h.1 in
    omega arith

-- ---- the tally

pub record Zero (sh : Sheet) (t : Tally) : Type 0 where
  pub good : All (Good sh) t.pile
  pub inputs : t.inputs ≡ 0
  pub outputs : t.outputs ≡ 0

counted-zero : (sh : Sheet) → ((n : ℕ) (cl : Clause) → clause_at sh n ≡ some cl → Passes sh cl) → (t : Tally) → Zero sh t → Zero sh (counted_step sh t)
unfolding counted_step counted_on step
counted-zero sh passes t z = go t.pile z.good
  where
    go : (pile : List Alternative) → All (Good sh) pile → Zero sh (counted_on sh t pile)
    go [] h = z
    go (a ∷ below) h =
        let i : open_inputs sh a ≡ 0 = inputs-zero sh a h.0 in
        let o : open_outputs sh a (outcome sh a) ≡ 0 = outputs-zero sh a (outcome sh a) (outcome-good sh passes a h.0) in
        let p : t.inputs ≡ 0 = z.inputs in
        let q : t.outputs ≡ 0 = z.outputs in
        record { good = all_append (Good sh) (outcome sh a) below (outcome-good sh passes a h.0) h.1; inputs = omega arith; outputs = omega arith }

walk_ends : (w : Walk) → walk_fault w ≡ none → Ends (λ (σ : Known). Unit {0}) w
unfolding walk_fault
walk_ends (faulted r) e = some-none r e
walk_ends (known σ) e = tt

goal-ends : (sh : Sheet) (g : Goal) → goal_fault sh g ≡ none → Ends (λ (σ : Known). Unit {0}) (body_fault sh.declarations 0 1 none_ground g.body)
unfolding goal_fault
goal-ends sh g e = walk_ends (body_fault sh.declarations 0 1 none_ground g.body) (none_then (undeclared_in_goal sh g) (walk_fault (body_fault sh.declarations 0 1 none_ground g.body)) e).1

-- the goal alone is safe
pub start-good : (sh : Sheet) (g : Goal) → goal_fault sh g ≡ none → All (Good sh) (start sh g)
unfolding start Shown Bounded Safe
start-good sh g e = (
  record {
    safe = body-safe sh [] 0 [] [] (λ l ps f b h. tt) g.body 0 1 none_ground (λ σ. Unit {0}) (sound-nothing 0 []) (goal-ends sh g e) (λ σ b h s q. tt);
    bounded = bounded-pending 0 0 g.body [] (omega arith) tt;
  },
  tt,
)

tally-zero : (stored : Bool) (sh : Sheet) (g : Goal) → sheet_fault stored sh ≡ none → goal_fault sh g ≡ none → (n : ℕ) → Zero sh (tally sh g n)
unfolding tally
tally-zero stored sh g s e zero = record { good = start-good sh g e; inputs = refl; outputs = refl }
tally-zero stored sh g s e (suc n) = counted-zero sh (sheet-passes stored sh s) (tally sh g n) (tally-zero stored sh g s e n)

-- NO ARGUMENT LEFT OPEN. The sheet is accepted, with the mark of one stored earlier or without it, the goal is accepted, and n is any number of steps: both
-- counts are zero, past every end of a run.
pub nothing-open : (stored : Bool) (sh : Sheet) (g : Goal) → sheet_fault stored sh ≡ none → goal_fault sh g ≡ none → (n : ℕ) → BothZero sh g n
nothing-open stored sh g s e n = record { inputs = (tally-zero stored sh g s e n).inputs; outputs = (tally-zero stored sh g s e n).outputs }
