-- REQUESTS (xii): "On a yes, and without a trace, a run of any accepted goal without such brackets writes at most one line."
--
-- An alternative is dead when it stands at a call and no clause from its next one on unifies. On a yes every alternative that a clause was tried
-- for with success is dead: the inputs of its call are closed (no argument is left open), so two heads that unify with it have a common instance. So either nothing is
-- written yet and all below the top are dead, or at most one line is written and all are dead.
use Prim.Native.Nat.{ℕ, zero, suc, ◌+◌, ◌≤◌, ◌<◌}
use native.Mathlib.Omega.{arith}
use mathlib.Core.Path.{◌≡◌, refl, sym, ap, ◌∙◌, subst}
use mathlib.Core.Bool.{Bool, true, false, cond, not}
use mathlib.Core.List.{List, [], ◌∷◌, ◌++◌, append-nil}
use mathlib.Core.Logic.{◌⊎◌, inl, inr}
use mathlib.Core.Option.{Option, none, some}
use lib.Dec.{T, eqb}
use lib.ListN.{drop}
use Rattle.syntax.specs.Terms.{Term, Terms, variable, compound, nil, cons, arity, Atom, term_of, Literal, call, equation, truth, falsity, either, Body, done, also, Mark, input, Clause, Sheet, Goal}
use Rattle.syntax.specs.Verdicts.{Outcome, refused, accepted, sheet_of, goal_outcome}
use Rattle.syntax.specs.declared.Refusal.{Refusal}
use Rattle.syntax.specs.Verdicts.{Ended as Ended-by}
use Rattle.mode_rules.specs.Modes.{same_mark, marks_for, or_no_marks, list_of, sheet_fault, goal_fault}
use Rattle.mode_rules.specs.Checking.{faultless, checked_from, checked_with, checked_goal_from, checked_goal}
use Rattle.words.specs.Feeds.{InLines}
use Rattle.machine.specs.Substitution.{RTerm, var, app, rcons, copied, copied_all, closed, replace, Binding, resolve}
use Rattle.machine.specs.Unification.{unify}
use Rattle.machine.specs.Unifiers.{Substitution, apply, apply_all, MostGeneral}
use Rattle.machine.specs.Machine.{Pending, Alternative, path, pending, is_for, first_for, next_for, clause_at, gone, equated, moved_on, laid, tried, on_top, called, worked, worked_on, outcome, step, start}
use Rattle.machine.specs.Answers.{line}
use Rattle.machine.specs.Runs.{Progress, is_empty, is_answer, line_with, next_line, one_if, advance, advanced, begun, Ended, run, Report, RunSettings, RunOutcome, stopped, ran, reported, run_outcome, run_answer, run_text}
use Rattle.machine.specs.Claims.{RunOver}
use Rattle.machine.specs.Determinacy.{is_bracket, without_brackets, kept_if, inputs_by, inputs, Equal, Common, against, Pair, determinate, Determinate, declined, single, several, judged_by, judged_from, judged, PlainGoal, AtMostOne, AtMostOneOver, AtMostOneLine}
use Rattle.machine.proofs.Tests.{both, some-none}
use Rattle.machine_theorems.proofs.Piles.{All, all_append}
use Rattle.machine_theorems.proofs.Terms.{resolve_all, resolve-app, resolve-nil, resolve-cons, closed-replace}
use Rattle.machine_theorems.proofs.Unifier.{unify-some}
use Rattle.machine_theorems.proofs.Grounding.{Closed, Same, SameAll, app-same, cons_same, nil-cons, same-arity, same-predicate, Marked, marks-same}
use Rattle.machine_theorems.proofs.Safety.{ClosedArguments, Safe, First}
use Rattle.machine_theorems.proofs.NothingOpen.{Good, Passes, sheet-passes, outcome-good, start-good}
use Rattle.machine_theorems.proofs.EveryRun.{run_spec, refused-accepted, faultless-none, sheet-passes as text-passes, goal-passes, nothing-open-in-runs}
use Rattle.machine_theorems.proofs.Lines.{run-lines}
use Rattle.machine_theorems.proofs.Determinacy.{none-determinate, determinate-exactly}

-- ---- two heads that unify with one call have a common instance

-- a term of copy k under a substitution, where that is what the bindings make of copy d
module _ (σ : Substitution) (k d : ℕ) (b : List Binding)
    (here : (i : ℕ) → σ (record { copy = k; number = i }) ≡ resolve b (var (record { copy = d; number = i }))) where
  mutual
    carried : (t : Term) → apply σ (copied k t) ≡ resolve b (copied d t)
    carried (variable i at) = here i
    carried (compound at f ts) = ap (app f) (carried-all ts) ∙ sym (resolve-app b f (copied_all d ts))

    carried-all : (ts : Terms) → apply_all σ (copied_all k ts) ≡ resolve_all b (copied_all d ts)
    carried-all nil = sym (resolve-nil b)
    carried-all (cons t ts) =
        (let e : rcons (apply σ (copied k t)) (apply_all σ (copied_all k ts)) ≡ rcons (resolve b (copied d t)) (resolve_all b (copied_all d ts)) = λ i. rcons (carried t i) (carried-all ts i) in e)
        ∙ sym (resolve-cons b (copied d t) (copied_all d ts))

-- what is closed stays as it is
closed-stays : (newer b : List Binding) (t : RTerm) → T (closed (resolve b t)) → resolve (newer ++ b) t ≡ resolve b t
unfolding resolve
closed-stays [] b t h = refl
closed-stays (e ∷ newer) b t h = ap (replace e.variable e.term) (closed-stays newer b t h) ∙ closed-replace e.variable e.term (resolve b t) h

general-closed : {b b1 : List Binding} {t u : RTerm} → MostGeneral b t u b1 → (x : RTerm) → Closed b x → resolve b1 x ≡ resolve b x
general-closed {b} m x h = ap (λ (c : List Binding). resolve c x) m.extends ∙ closed-stays m.newer b x h

-- a call of copy c, and two heads of copy d, each with the bindings that made it equal to the call
module _ (c d : ℕ) (b b1 b2 : List Binding) (first : (x : RTerm) → Closed b x → resolve b1 x ≡ resolve b x) (second : (x : RTerm) → Closed b x → resolve b2 x ≡ resolve b x) where
  -- copy 1 as the first made copy d, copy 2 as the second did
  abbrev paired : Substitution
  paired v = cond (eqb v.copy 1) (resolve b1 (var (record { copy = d; number = v.number }))) (resolve b2 (var (record { copy = d; number = v.number })))

  input-pair : (t y z : Term) → Closed b (copied c t) → Same b1 (copied c t) (copied d y) → Same b2 (copied c t) (copied d z) → apply paired (copied 1 y) ≡ apply paired (copied 2 z)
  input-pair t y z h p q =
      carried paired 1 d b1 (λ i. refl) y
      ∙ (sym p ∙ (first (copied c t) h ∙ (sym (second (copied c t) h) ∙ (q ∙ sym (carried paired 2 d b2 (λ i. refl) z)))))

  input-pairs : (ks : List Mark) (ts ys zs : Terms) → SameAll b1 (copied_all c ts) (copied_all d ys) → SameAll b2 (copied_all c ts) (copied_all d zs) → Marked input b c ks (list_of ts)
      → Equal paired (inputs_by ks (list_of ys)) (inputs_by ks (list_of zs))
  unfolding Marked inputs_by kept_if Equal
  input-pairs [] ts ys zs p q h = tt
  input-pairs (k ∷ ks) ts nil zs p q h = tt
  input-pairs (k ∷ ks) nil (cons y ys) zs p q h = absurd (nil-cons b1 (copied d y) (copied_all d ys) p)
  input-pairs (k ∷ ks) (cons t ts) (cons y ys) nil p q h = absurd (nil-cons b2 (copied c t) (copied_all c ts) (sym q))
  input-pairs (k ∷ ks) (cons t ts) (cons y ys) (cons z zs) p q h = go (same_mark input k) h.0 (input-pairs ks ts ys zs left.1 right.1 h.1)
    where
      left : Same b1 (copied c t) (copied d y) × SameAll b1 (copied_all c ts) (copied_all d ys)
      left = cons_same b1 (copied c t) (copied d y) (copied_all c ts) (copied_all d ys) p

      right : Same b2 (copied c t) (copied d z) × SameAll b2 (copied_all c ts) (copied_all d zs)
      right = cons_same b2 (copied c t) (copied d z) (copied_all c ts) (copied_all d zs) q

      go : (x : Bool) → (T x → Closed b (copied c t)) → Equal paired (inputs_by ks (list_of ys)) (inputs_by ks (list_of zs))
          → Equal paired (kept_if x y (inputs_by ks (list_of ys))) (kept_if x z (inputs_by ks (list_of zs)))
      go true s r = (input-pair t y z (s tt) left.0 right.0, r)
      go false s r = r

module _ (sh : Sheet) (b b1 b2 : List Binding) (c d : ℕ) (at : Atom) (cl other : Clause) (inputs-closed : ClosedArguments sh input b c at)
    (one : MostGeneral b (copied c (term_of at)) (copied d (term_of cl.head)) b1) (two : MostGeneral b (copied c (term_of at)) (copied d (term_of other.head)) b2) where
  same-one : (at.name ≡ cl.head.name) × SameAll b1 (copied_all c at.args) (copied_all d cl.head.args)
  same-one = app-same b1 at.name cl.head.name (copied_all c at.args) (copied_all d cl.head.args) one.equal

  same-two : (at.name ≡ other.head.name) × SameAll b2 (copied_all c at.args) (copied_all d other.head.args)
  same-two = app-same b2 at.name other.head.name (copied_all c at.args) (copied_all d other.head.args) two.equal

  arity-one : arity at.args ≡ arity cl.head.args
  arity-one = same-arity b1 c d at.args cl.head.args same-one.1

  arity-two : arity at.args ≡ arity other.head.args
  arity-two = same-arity b2 c d at.args other.head.args same-two.1

  one-predicate : T (is_for cl.head other)
  one-predicate =
      same-predicate other.head.name cl.head.name (arity other.head.args) (arity cl.head.args) (sym same-two.0 ∙ same-one.0) (sym arity-two ∙ arity-one)

  heads-common : Common (inputs sh.declarations cl.head) (inputs sh.declarations other.head)
  unfolding inputs marks_for
  heads-common = (paired c d b b1 b2 (general-closed one) (general-closed two), equal)
    where
      marks-one : marks_for sh.declarations at ≡ marks_for sh.declarations cl.head
      marks-one = ap or_no_marks (marks-same sh.declarations at cl.head same-one.0 arity-one)

      marks-two : marks_for sh.declarations at ≡ marks_for sh.declarations other.head
      marks-two = ap or_no_marks (marks-same sh.declarations at other.head same-two.0 arity-two)

      by_call : Equal (paired c d b b1 b2 (general-closed one) (general-closed two)) (inputs_by (marks_for sh.declarations at) (list_of cl.head.args)) (inputs_by (marks_for sh.declarations at) (list_of other.head.args))
      by_call =
          input-pairs c d b b1 b2 (general-closed one) (general-closed two) (marks_for sh.declarations at) at.args cl.head.args other.head.args
          same-one.1 same-two.1 inputs-closed

      by_first : Equal (paired c d b b1 b2 (general-closed one) (general-closed two)) (inputs_by (marks_for sh.declarations cl.head) (list_of cl.head.args)) (inputs_by (marks_for sh.declarations at) (list_of other.head.args))
      by_first =
          subst (λ (ms : List Mark). Equal (paired c d b b1 b2 (general-closed one) (general-closed two)) (inputs_by ms (list_of cl.head.args)) (inputs_by (marks_for sh.declarations at) (list_of other.head.args))) marks-one by_call

      equal : Equal (paired c d b b1 b2 (general-closed one) (general-closed two)) (inputs_by (marks_for sh.declarations cl.head) (list_of cl.head.args)) (inputs_by (marks_for sh.declarations other.head) (list_of other.head.args))
      equal =
          subst (λ (ms : List Mark). Equal (paired c d b b1 b2 (general-closed one) (general-closed two)) (inputs_by (marks_for sh.declarations cl.head) (list_of cl.head.args)) (inputs_by ms (list_of other.head.args))) marks-two by_first

-- ---- alternatives without brackets

unfoldable Plain : List Pending → Type 0
Plain [] = Unit {0}
Plain (p ∷ ps) = T (not (is_bracket p.literal)) × Plain ps

plain-pending : (c : ℕ) (body : Body) (rest : List Pending) → T (without_brackets body) → Plain rest → Plain (pending c body rest)
unfolding Plain pending without_brackets
plain-pending c done rest t h = h
plain-pending c (also l body) rest t h =
    ((both (not (is_bracket l)) (without_brackets body) t).0, plain-pending c body rest (both (not (is_bracket l)) (without_brackets body) t).1 h)

abbrev PlainAt : Alternative → Type 0
PlainAt a = Plain a.literals

module _ (sh : Sheet) (det : Determinate sh) (a : Alternative) (plain : PlainAt a) (c : ℕ) (rest : List Pending) (others : Plain rest) where
  plain_moved : (at : Atom) → PlainAt (moved_on sh a at)
  unfolding moved_on
  plain_moved at = plain

  plain-laid : (at : Atom) (cl : Clause) → T (without_brackets cl.body) → (r : Option (List Binding)) → All PlainAt (on_top (laid sh a c at rest cl r) (moved_on sh a at))
  unfolding on_top laid
  plain-laid at cl t none = (plain_moved at, tt)
  plain-laid at cl t (some b) = (plain-pending (suc (path a)) cl.body rest t others, (plain_moved at, tt))

  plain-called : (at : Atom) (o : Option Clause) → clause_at sh a.next ≡ o → All PlainAt (called sh a c at rest o)
  unfolding called tried
  plain-called at none e = tt
  plain-called at (some cl) e =
      plain-laid at cl (det.plain a.next cl e) (unify a.bindings (copied c (term_of at)) (copied (suc (path a)) (term_of cl.head)))

  plain-gone : (b : List Binding) → PlainAt (gone sh a rest b)
  unfolding gone
  plain-gone b = others

  plain-equated : (r : Option (List Binding)) → All PlainAt (equated sh a rest r)
  unfolding equated
  plain-equated none = tt
  plain-equated (some b) = (plain-gone b, tt)

  plain-worked : (l : Literal) → T (not (is_bracket l)) → All PlainAt (worked sh a c rest l)
  unfolding worked is_bracket
  plain-worked (call at) t = plain-called at (clause_at sh a.next) refl
  plain-worked (equation u v) t = plain-equated (unify a.bindings (copied c u) (copied c v))
  plain-worked truth t = (plain-gone a.bindings, tt)
  plain-worked falsity t = tt
  plain-worked (either y z) t = absurd t

outcome-plain : (sh : Sheet) → Determinate sh → (a : Alternative) → PlainAt a → All PlainAt (outcome sh a)
unfolding outcome worked_on Plain
outcome-plain sh det a plain = go a.literals plain
  where
    go : (lits : List Pending) → Plain lits → All PlainAt (worked_on sh a lits)
    go [] h = tt
    go (p ∷ ps) h = plain-worked sh det a plain p.copy ps h.1 p.literal h.0

-- ---- dead alternatives

-- the next clause is a later one
first-from : (a : Atom) (k : ℕ) (cls : List Clause) → 0 < first_for a k cls → k ≤ first_for a k cls
unfolding first_for
first-from a k [] h = absurd (let w : ⊥ = omega arith in w)
first-from a k (x ∷ xs) h = go (is_for a x) h (λ q. first-from a (suc k) xs q)
  where
    go : (t : Bool) → 0 < elim t as (λ _. ℕ) [ true ↦ k | false ↦ first_for a (suc k) xs ] → (0 < first_for a (suc k) xs → suc k ≤ first_for a (suc k) xs)
        → k ≤ elim t as (λ _. ℕ) [ true ↦ k | false ↦ first_for a (suc k) xs ]
    go true q r = omega arith
    go false q r = let m : suc k ≤ first_for a (suc k) xs = r q in omega arith

next-later : (sh : Sheet) (a : Atom) (m : ℕ) → 0 < next_for sh a m → m < next_for sh a m
unfolding next_for
next-later sh a m h = first-from a (suc m) (drop m sh.clauses) h

-- what trying a clause for a call of copy c makes of the bindings
abbrev unified : Alternative → ℕ → Atom → Clause → Option (List Binding)
unified a c at cl = unify a.bindings (copied c (term_of at)) (copied (suc (path a)) (term_of cl.head))

-- no clause after the one of number m unifies
abbrev NoneAfter : Sheet → Alternative → ℕ → Atom → ℕ → Type 0
NoneAfter sh a c at m = (n : ℕ) (cl : Clause) → m < n → clause_at sh n ≡ some cl → unified a c at cl ≡ none

-- nor does the next one, if there is one
unfoldable DeadAt : Sheet → Alternative → ℕ → Literal → Type 0
DeadAt sh a c (call at) = (n : ℕ) (cl : Clause) → 0 < a.next → a.next ≤ n → clause_at sh n ≡ some cl → unified a c at cl ≡ none
DeadAt sh a c (equation t u) = ⊥
DeadAt sh a c truth = ⊥
DeadAt sh a c falsity = ⊥
DeadAt sh a c (either y z) = ⊥

unfoldable DeadOver : Sheet → Alternative → List Pending → Type 0
DeadOver sh a [] = ⊥
DeadOver sh a (p ∷ ps) = DeadAt sh a p.copy p.literal

abbrev Dead : Sheet → Alternative → Type 0
Dead sh a = DeadOver sh a a.literals

-- of some alternatives, all below the top
abbrev Below : (Alternative → Type 0) → List Alternative → Type 0
Below P [] = Unit {0}
Below P (a ∷ alts) = All P alts

module _ (sh : Sheet) (a : Alternative) (c : ℕ) (rest : List Pending) where
  moved-dead : (at : Atom) → a.literals ≡ record { copy = c; literal = call at } ∷ rest → NoneAfter sh a c at a.next → Dead sh (moved_on sh a at)
  unfolding moved_on DeadOver DeadAt
  moved-dead at e h =
      subst (DeadOver sh (moved_on sh a at)) (sym e)
      (λ n cl p q k. h n cl (let l : a.next < next_for sh at a.next = next-later sh at a.next p in omega arith) k)

  -- a dead one stays dead, or goes
  laid-dead : (at : Atom) → a.literals ≡ record { copy = c; literal = call at } ∷ rest → NoneAfter sh a c at a.next → (cl : Clause) (r : Option (List Binding)) → r ≡ none
      → All (Dead sh) (on_top (laid sh a c at rest cl r) (moved_on sh a at))
  unfolding on_top laid
  laid-dead at e h cl none q = (moved-dead at e h, tt)
  laid-dead at e h cl (some b) q = absurd (some-none b q)

  some-positive : (n : ℕ) (cl : Clause) → clause_at sh n ≡ some cl → 0 < n
  unfolding clause_at
  some-positive zero cl e = absurd (some-none cl (sym e))
  some-positive (suc n) cl e = omega arith

  called-dead : (at : Atom) → a.literals ≡ record { copy = c; literal = call at } ∷ rest → DeadAt sh a c (call at) → (o : Option Clause) → clause_at sh a.next ≡ o
      → All (Dead sh) (called sh a c at rest o)
  unfolding called tried DeadAt
  called-dead at e d none q = tt
  called-dead at e d (some cl) q =
      let p : 0 < a.next = some-positive a.next cl q in
      laid-dead at e (λ n x l k. d n x p (omega arith) k) cl (unified a c at cl) (d a.next cl p (omega arith) q)

  worked-dead : (l : Literal) → a.literals ≡ record { copy = c; literal = l } ∷ rest → DeadAt sh a c l → All (Dead sh) (worked sh a c rest l)
  unfolding worked DeadAt
  worked-dead (call at) e d = called-dead at e d (clause_at sh a.next) refl
  worked-dead (equation t u) e d = absurd d
  worked-dead truth e d = absurd d
  worked-dead falsity e d = absurd d
  worked-dead (either y z) e d = absurd d

-- on a yes, whatever comes of an alternative, all below the top is dead
module _ (sh : Sheet) (det : Determinate sh) (a : Alternative) (good : Good sh a) (c : ℕ) (rest : List Pending) where
  closed-inputs : (at : Atom) → a.literals ≡ record { copy = c; literal = call at } ∷ rest → ClosedArguments sh input a.bindings c at
  unfolding Safe First
  closed-inputs at e =
      let s : Safe sh a.calls (record { copy = c; literal = call at } ∷ rest) a.bindings = subst (λ (lits : List Pending). Safe sh a.calls lits a.bindings) e good.safe in
      s.1.0

  -- where a clause unifies, no later one does
  none_after : (at : Atom) → a.literals ≡ record { copy = c; literal = call at } ∷ rest → (cl : Clause) → clause_at sh a.next ≡ some cl
      → (b : List Binding) → unified a c at cl ≡ some b → NoneAfter sh a c at a.next
  none_after at e cl h b q = λ n other l k. go n other l k (unified a c at other) refl
    where
      go : (n : ℕ) (other : Clause) → a.next < n → clause_at sh n ≡ some other → (r : Option (List Binding)) → unified a c at other ≡ r → r ≡ none
      go n other l k none p = refl
      go n other l k (some b2) p =
          let one : MostGeneral a.bindings (copied c (term_of at)) (copied (suc (path a)) (term_of cl.head)) b =
          unify-some a.bindings (copied c (term_of at)) (copied (suc (path a)) (term_of cl.head)) b q in
          let two : MostGeneral a.bindings (copied c (term_of at)) (copied (suc (path a)) (term_of other.head)) b2 =
          unify-some a.bindings (copied c (term_of at)) (copied (suc (path a)) (term_of other.head)) b2 p in
          let common : Common (inputs sh.declarations cl.head) (inputs sh.declarations other.head) =
          heads-common sh a.bindings b b2 c (suc (path a)) at cl other (closed-inputs at e) one two in
          absurd (det.exclusive a.next n cl other l h k (one-predicate sh a.bindings b b2 c (suc (path a)) at cl other (closed-inputs at e) one two) common.0 common.1)

  laid-below : (at : Atom) → a.literals ≡ record { copy = c; literal = call at } ∷ rest → (cl : Clause) → clause_at sh a.next ≡ some cl
      → (r : Option (List Binding)) → unified a c at cl ≡ r → Below (Dead sh) (on_top (laid sh a c at rest cl r) (moved_on sh a at))
  unfolding on_top laid
  laid-below at e cl h none q = tt
  laid-below at e cl h (some b) q = (moved-dead sh a c rest at e (none_after at e cl h b q), tt)

  called-below : (at : Atom) → a.literals ≡ record { copy = c; literal = call at } ∷ rest → (o : Option Clause) → clause_at sh a.next ≡ o
      → Below (Dead sh) (called sh a c at rest o)
  unfolding called tried
  called-below at e none h = tt
  called-below at e (some cl) h = laid-below at e cl h (unified a c at cl) refl

  equated-below : (r : Option (List Binding)) → Below (Dead sh) (equated sh a rest r)
  unfolding equated
  equated-below none = tt
  equated-below (some b) = tt

  worked-below : (l : Literal) → T (not (is_bracket l)) → a.literals ≡ record { copy = c; literal = l } ∷ rest → Below (Dead sh) (worked sh a c rest l)
  unfolding worked is_bracket
  worked-below (call at) t e = called-below at e (clause_at sh a.next) refl
  worked-below (equation u v) t e = equated-below (unify a.bindings (copied c u) (copied c v))
  worked-below truth t e = tt
  worked-below falsity t e = tt
  worked-below (either y z) t e = absurd t

-- ---- the invariant of a run

tail_all : (P : Alternative → Type 0) (alts : List Alternative) → All P alts → Below P alts
tail_all P [] h = tt
tail_all P (a ∷ alts) h = h.1

below-append : (P : Alternative → Type 0) (alts more : List Alternative) → Below P alts → All P more → Below P (alts ++ more)
below-append P [] more h k = tail_all P more k
below-append P (a ∷ alts) more h k = all_append P alts more h k

all_both : (P R : Alternative → Type 0) (alts : List Alternative) → All P alts → All R alts → All (λ a. P a × R a) alts
all_both P R [] h k = tt
all_both P R (a ∷ alts) h k = ((h.0, k.0), all_both P R alts h.1 k.1)

module _ (sh : Sheet) (g : Goal) (det : Determinate sh) (passes : (n : ℕ) (cl : Clause) → clause_at sh n ≡ some cl → Passes sh cl) where
  abbrev Fine : Alternative → Type 0
  Fine a = Good sh a × PlainAt a

  outcome-fine : (a : Alternative) → Fine a → All Fine (outcome sh a)
  outcome-fine a f = all_both (Good sh) PlainAt (outcome sh a) (outcome-good sh passes a f.0) (outcome-plain sh det a f.1)

  -- nothing is written and all below the top are dead; or at most one line is, and all are dead
  abbrev Stands : List Alternative → ℕ → List ℕ → Type 0
  Stands pile answers text = (((answers ≡ 0) × (text ≡ [])) × Below (Dead sh) pile) ⊎ (AtMostOne g answers text × All (Dead sh) pile)

  same_count : (answers : ℕ) (text : List ℕ) (pile : List Alternative) → Stands pile answers text → Stands pile (answers + 0) (text ++ [])
  same_count answers text pile s =
      subst (λ (n : ℕ). Stands pile n (text ++ [])) (let e : answers ≡ answers + 0 = omega arith in e)
      (subst (λ (x : List ℕ). Stands pile answers x) (sym (append-nil text)) s)

  -- one step, by the literals of the alternative that it works on
  module _ (a : Alternative) (below : List Alternative) (fine : Fine a) (answers : ℕ) (text : List ℕ) where
    step-stands : (lits : List Pending) → a.literals ≡ lits → Plain lits
        → (((answers ≡ 0) × (text ≡ [])) × All (Dead sh) below) ⊎ (AtMostOne g answers text × (DeadOver sh a lits × All (Dead sh) below))
        → Stands (worked_on sh a lits ++ below) (answers + one_if (is_empty lits)) (text ++ line_with g a lits)
    unfolding worked_on one_if is_empty line_with Plain DeadOver
    step-stands [] e h (inl s) =
        let n : answers ≡ 0 = s.0.0 in
        inr (inr (let q : answers + 1 ≡ 1 = omega arith in q, (a.bindings, ap (λ (x : List ℕ). x ++ line g a.bindings) s.0.1)), s.1)
    step-stands [] e h (inr s) = absurd s.1.0
    step-stands (p ∷ ps) e h (inl s) =
        same_count answers text (worked sh a p.copy ps p.literal ++ below)
        (inl (s.0, below-append (Dead sh) (worked sh a p.copy ps p.literal) below (worked-below sh det a fine.0 p.copy ps p.literal h.0 e) s.1))
    step-stands (p ∷ ps) e h (inr s) =
        same_count answers text (worked sh a p.copy ps p.literal ++ below)
        (inr (s.0, all_append (Dead sh) (worked sh a p.copy ps p.literal) below (worked-dead sh a p.copy ps p.literal e s.1.0) s.1.1))

  advance-stands : (pile : List Alternative) (answers : ℕ) (text : List ℕ) → All Fine pile → Stands pile answers text
      → Stands (step sh pile) (answers + one_if (is_answer pile)) (text ++ next_line g pile)
  unfolding step outcome is_answer next_line one_if
  advance-stands [] answers text f s = same_count answers text [] s
  advance-stands (a ∷ below) answers text f s = step-stands a below f.0 answers text a.literals refl f.0.1 s

  advanced-stands : (k : ℕ) (p : Progress) → All Fine p.pile → Stands p.pile p.answers p.text → Stands (advanced sh g k p).pile (advanced sh g k p).answers (advanced sh g k p).text
  unfolding advanced advance
  advanced-stands zero p f s = s
  advanced-stands (suc k) p f s =
      advanced-stands k (advance sh g p) (fine-step p.pile f) (advance-stands p.pile p.answers p.text f s)
    where
      fine-step : (pile : List Alternative) → All Fine pile → All Fine (step sh pile)
      fine-step [] h = unfold step in tt
      fine-step (x ∷ xs) h = unfold step in all_append Fine (outcome sh x) xs (outcome-fine x h.0) h.1

  stands_one : (pile : List Alternative) (answers : ℕ) (text : List ℕ) → Stands pile answers text → AtMostOne g answers text
  stands_one pile answers text (inl s) = inl s.0
  stands_one pile answers text (inr s) = s.0

  module _ (goal-good : All (Good sh) (start sh g)) (goal-plain : T (without_brackets g.body)) where
    begun-fine : All Fine (begun sh g).pile
    unfolding begun start Plain
    begun-fine = ((goal-good.0, plain-pending 0 g.body [] goal-plain tt), tt)

    begun-stands : Stands (begun sh g).pile (begun sh g).answers (begun sh g).text
    unfolding begun start
    begun-stands = inl ((refl, refl), tt)

    run-one : (allowance wanted room : ℕ) → AtMostOne g (run sh g allowance wanted room).at.answers (run sh g allowance wanted room).at.text
    run-one allowance wanted room =
        subst (λ (p : Progress). AtMostOne g p.answers p.text) (sym (run_spec sh g allowance wanted room).state)
        (stands_one (advanced sh g taken (begun sh g)).pile (advanced sh g taken (begun sh g)).answers (advanced sh g taken (begun sh g)).text
        (advanced-stands taken (begun sh g) begun-fine begun-stands))
      where
        taken : ℕ
        taken = (run_spec sh g allowance wanted room).taken

-- AT MOST ONE END, over sheets: a sheet that is accepted, with the mark or without it, and passes the test; an accepted goal without brackets; and any
-- allowance, wanted count and room.
pub at_most_one : (stored : Bool) (sh : Sheet) (g : Goal) → sheet_fault stored sh ≡ none → goal_fault sh g ≡ none → Determinate sh → T (without_brackets g.body)
    → (allowance wanted room : ℕ) → AtMostOne g (run sh g allowance wanted room).at.answers (run sh g allowance wanted room).at.text
at_most_one stored sh g s e det plain allowance wanted room = run-one sh g det (sheet-passes stored sh s) (start-good sh g e) plain allowance wanted room

-- The same on a yes of the test.
pub at-most-one-yes : (stored : Bool) (sh : Sheet) (g : Goal) → sheet_fault stored sh ≡ none → goal_fault sh g ≡ none → T (determinate sh) → T (without_brackets g.body)
    → (allowance wanted room : ℕ) → AtMostOne g (run sh g allowance wanted room).at.answers (run sh g allowance wanted room).at.text
at-most-one-yes stored sh g s e t plain allowance wanted room = at_most_one stored sh g s e ((determinate-exactly sh).0 t) plain allowance wanted room

-- ---- over texts

-- what checking accepts was read
sheet-read : (stored : Bool) (s : List ℕ) (sh : Sheet) → checked_with stored s ≡ accepted sh → sheet_of s ≡ accepted sh
unfolding checked_with checked_from
sheet-read stored s sh e = go (sheet_of s) e
  where
    go : (o : Outcome Sheet) → checked_from stored o ≡ accepted sh → o ≡ accepted sh
    go (refused r) q = absurd (refused-accepted r sh q)
    go (accepted x) q = ap accepted (faultless-none x sh (sheet_fault stored x) q).1

goal_read : (sh : Sheet) (s : List ℕ) (g : Goal) → checked_goal sh s ≡ accepted g → goal_outcome s ≡ accepted g
unfolding checked_goal checked_goal_from
goal_read sh s g e = go (goal_outcome s) e
  where
    go : (o : Outcome Goal) → checked_goal_from sh o ≡ accepted g → o ≡ accepted g
    go (refused r) q = absurd (refused-accepted r g q)
    go (accepted x) q = ap accepted (faultless-none x g (goal_fault sh x) q).1

-- a yes speaks of the sheet that was read, which is also that of a run with the mark
single-determinate : (s : List ℕ) → judged s ≡ single → (sh : Sheet) → sheet_of s ≡ accepted sh → Determinate sh
unfolding judged checked_with checked_from
single-determinate s e sh q =
    none-determinate sh (accepted-none (sheet_fault false sh) (subst (λ (o : Outcome Sheet). judged_from (checked_from false o) ≡ single) q e))
  where
    several-single : (m n : ℕ) → several m n ≡ single → ⊥
    several-single m n p = let z : ◌≡◌ {A = ℕ} 0 1 = cc in omega arith

    declined-single : (r : Refusal) → declined r ≡ single → ⊥
    declined-single r p = let z : ◌≡◌ {A = ℕ} 0 1 = cc in omega arith

    by-none : (o : Option Pair) → judged_by o ≡ single → o ≡ none
    by-none none p = refl
    by-none (some x) p = absurd (several-single x.first x.second (unfold judged_by in p))

    accepted-none : (o : Option Refusal) → judged_from (faultless sh o) ≡ single → against sh ≡ none
    accepted-none none p = by-none (against sh) (unfold judged_from in unfold faultless in p)
    accepted-none (some r) p = absurd (declined-single r (unfold judged_from in unfold faultless in p))

module _ (sheet goal : List ℕ) (yes-said : judged sheet ≡ single) (plain : PlainGoal goal) (asked : RunSettings) (room : ℕ) where
  -- AT MOST ONE END, over texts, whatever the allowance, the wanted count, the mark and the room.
  pub at-most-one-texts : (r : Report) (text : List ℕ) → run_outcome sheet goal asked room ≡ ran r text → AtMostOneOver goal r text
  unfolding reported
  at-most-one-texts r text e =
      record {
        g = g;
        goal_read = there;
        one = subst (λ (x : List ℕ). AtMostOne g r.answers x) texts (subst (λ (x : Report). AtMostOne g x.answers ended.at.text) reports one);
        lines = run-lines sheet goal asked room r text e;
      }
    where
      over : RunOver sheet goal asked room r text
      over = nothing-open-in-runs sheet goal asked room r text e

      sh : Sheet
      sh = over.texts.sh

      g : Goal
      g = over.texts.g

      ended : Ended
      ended = run sh g asked.allowance asked.wanted room

      there : goal_outcome goal ≡ accepted g
      there = goal_read sh goal g over.texts.goal_accepted

      one : AtMostOne g ended.at.answers ended.at.text
      one =
          at_most_one asked.stored sh g (text-passes asked.stored sheet sh over.texts.sheet_accepted) (goal-passes sh goal g over.texts.goal_accepted)
          (single-determinate sheet yes-said sh (sheet-read asked.stored sheet sh over.texts.sheet_accepted)) (plain g there) asked.allowance asked.wanted room

      ran-report : (x : Report) (y : List ℕ) → ran x y ≡ ran r text → x ≡ r
      ran-report x y q = cc

      ran-text : (x : Report) (y : List ℕ) → ran x y ≡ ran r text → y ≡ text
      ran-text x y q = cc

      reports : ◌≡◌ {A = Report} (record { kind = ended.kind; answers = ended.at.answers; steps = ended.at.steps }) r
      reports = ran-report (record { kind = ended.kind; answers = ended.at.answers; steps = ended.at.steps }) ended.at.text over.reports

      texts : ended.at.text ≡ text
      texts = ran-text (record { kind = ended.kind; answers = ended.at.answers; steps = ended.at.steps }) ended.at.text over.reports

  -- of what `pilvaust::run` writes: nothing, or one line
  pub at-most-one-line : AtMostOneLine (run_text (run_outcome sheet goal asked room))
  unfolding run_text
  at-most-one-line = go (run_outcome sheet goal asked room) refl
    where
      by : (g : Goal) (n : ℕ) (text : List ℕ) → AtMostOne g n text → InLines n text → AtMostOneLine text
      by g n text (inl s) l = inl s.1
      by g n text (inr s) l = inr (subst (λ (k : ℕ). InLines k text) s.0 l)

      go : (o : RunOutcome) → run_outcome sheet goal asked room ≡ o → AtMostOneLine (run_text o)
      go (stopped t r) e = inl refl
      go (ran r text) e =
          let k : AtMostOneOver goal r text = at-most-one-texts r text e in
          by k.g r.answers text k.one k.lines

  -- and of what it gives back: a report counts at most one answer
  pub at-most-one-answer : (r : Report) → run_answer (run_outcome sheet goal asked room) ≡ Ended-by r → r.answers ≤ 1
  unfolding run_answer
  at-most-one-answer r = go (run_outcome sheet goal asked room) refl
    where
      count : (g : Goal) (n : ℕ) (text : List ℕ) → AtMostOne g n text → n ≤ 1
      count g n text (inl s) = let e : n ≡ 0 = s.0 in omega arith
      count g n text (inr s) = let e : n ≡ 1 = s.0 in omega arith

      go : (o : RunOutcome) → run_outcome sheet goal asked room ≡ o → run_answer o ≡ Ended-by r → r.answers ≤ 1
      go (stopped t x) e q = absurd (let z : ◌≡◌ {A = ℕ} 0 1 = cc in let w : ⊥ = omega arith in w)
      go (ran x text) e q =
          let same : x ≡ r = cc in
          let k : AtMostOneOver goal x text = at-most-one-texts x text e in
          subst (λ (y : Report). y.answers ≤ 1) same (count k.g x.answers text k.one)
