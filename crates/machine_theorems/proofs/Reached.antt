-- In every alternative reached from a goal the bindings are put in until none applies, and the variables of the next copy are new. Both hold of
-- every sheet and goal, accepted or not.
use Prim.Native.Nat.{ℕ, zero, suc, ◌+◌, ◌≤◌}
use native.Mathlib.Omega.{arith}
use mathlib.Core.Path.{◌≡◌, sym, ap, subst}
use mathlib.Core.Bool.{◌||◌}
use mathlib.Core.List.{List, [], ◌∷◌}
use mathlib.Core.Option.{Option, none, some}
use mathlib.Core.Logic.{◌⊎◌, inl, inr}
use lib.Dec.{T}
use lib.ListN.{length}
use Rattle.syntax.specs.Terms.{Term, Terms, variable, compound, nil, cons, Atom, term_of, Literal, call, equation, truth, falsity, either, Body, done, also, Clause, Sheet, Goal}
use Rattle.machine.specs.Substitution.{Variable, same_variable, RTerm, occurs, occurs_in, copied, copied_all, Binding, resolve, is_bound}
use Rattle.machine.specs.Unification.{Difference, same, clash, apart, differ, bound, rounds, places, unify}
use Rattle.machine.specs.Machine.{Pending, Call, Alternative, path, pending, clause_at, gone, equated, moved_on, laid, tried, on_top, called, worked, worked_on, outcome, start}
use Rattle.machine.specs.Reached.{Reached, in_literal, in_body, in_literals, in_calls, in_bindings, in_alternative}
use Rattle.machine.proofs.Tests.{either as or-either, variable-eq, variable-sym}
use Rattle.machine_theorems.proofs.Piles.{All, all-reached}
use Rattle.machine_theorems.proofs.Terms.{occurs-replace}
use Rattle.machine_theorems.proofs.Unifier.{Apart, Differs, differ-spec}
use Rattle.machine_theorems.proofs.Safety.{Bounded, bounded-up, bounded-pending}

-- ---- what each binding keeps, unification keeps

abbrev IfSome : (List Binding → Type 0) → Option (List Binding) → Type 0
IfSome P none = Unit {0}
IfSome P (some b) = P b

module _ (t u : RTerm) (P : List Binding → Type 0)
    (keeps : (b : List Binding) (v : Variable) (s : RTerm) → P b → Apart (resolve b t) (resolve b u) v s → P (record { variable = v; term = s } ∷ b)) where
  rounds-keep : (n : ℕ) (b : List Binding) → P b → IfSome P (rounds n b t u)
  unfolding rounds bound
  rounds-keep zero b p = p
  rounds-keep (suc n) b p = go (differ (resolve b t) (resolve b u)) (differ-spec (resolve b t) (resolve b u)) (λ b1 q. rounds-keep n b1 q)
    where
      go : (d : Difference) → Differs (resolve b t) (resolve b u) d → ((b1 : List Binding) → P b1 → IfSome P (rounds n b1 t u)) → IfSome P (bound d b (λ b1. rounds n b1 t u))
      go same e k = p
      go clash e k = tt
      go (apart v s) a k = k (record { variable = v; term = s } ∷ b) (keeps b v s p a)

  unify-keep : (b : List Binding) → P b → IfSome P (unify b t u)
  unfolding unify
  unify-keep b p = rounds-keep (suc (places (resolve b t) + places (resolve b u))) b p

-- ---- tidy bindings: each variable is bound once, to a term in which no variable is bound

record Fresh (b : List Binding) (v : Variable) (s : RTerm) : Type 0 where
  once : T (is_bound b v) → ⊥
  away : T (occurs v s) → ⊥
  clear : (w : Variable) → T (occurs w s) → T (is_bound b w) → ⊥

unfoldable Tidy : List Binding → Type 0
Tidy [] = Unit {0}
Tidy (e ∷ b) = Fresh b e.variable e.term × Tidy b

tidy-clear : (b : List Binding) → Tidy b → (t : RTerm) (v : Variable) → T (occurs v (resolve b t)) → T (is_bound b v) → ⊥
unfolding Tidy resolve is_bound
tidy-clear [] h t v o k = k
tidy-clear (e ∷ b) h t v o k = go (occurs-replace e.variable v e.term (resolve b t) o) (or-either (same_variable v e.variable) (is_bound b v) k) (tidy-clear b h.1 t v)
  where
    go : T (occurs v e.term) ⊎ (T (occurs v (resolve b t)) × (T (same_variable e.variable v) → ⊥)) → T (same_variable v e.variable) ⊎ T (is_bound b v) → (T (occurs v (resolve b t)) → T (is_bound b v) → ⊥) → ⊥
    go (inl x) (inl y) r = h.0.away (subst (λ (z : Variable). T (occurs z e.term)) (variable-eq v e.variable y) x)
    go (inl x) (inr y) r = h.0.clear v x y
    go (inr x) (inl y) r = x.1 (variable-sym v e.variable y)
    go (inr x) (inr y) r = r x.0 y

tidy-keeps : (t u : RTerm) (b : List Binding) (v : Variable) (s : RTerm) → Tidy b → Apart (resolve b t) (resolve b u) v s → Tidy (record { variable = v; term = s } ∷ b)
unfolding Tidy
tidy-keeps t u b v s h a =
    (record { once = clear v a.here; away = a.away; clear = λ w o. clear w (a.from w o) }, h)
  where
    clear : (w : Variable) → T (occurs w (resolve b t)) ⊎ T (occurs w (resolve b u)) → T (is_bound b w) → ⊥
    clear w (inl o) = tidy-clear b h t w o
    clear w (inr o) = tidy-clear b h u w o

-- ---- the copies that bindings speak of

record Within (n : ℕ) (v : Variable) (s : RTerm) : Type 0 where
  variable : v.copy ≤ n
  term : (w : Variable) → T (occurs w s) → w.copy ≤ n

unfoldable Below : ℕ → List Binding → Type 0
Below n [] = Unit {0}
Below n (e ∷ b) = Within n e.variable e.term × Below n b

below_up : (n : ℕ) (b : List Binding) → Below n b → Below (suc n) b
unfolding Below
below_up n [] h = tt
below_up n (e ∷ b) h =
    (record { variable = (let k : e.variable.copy ≤ n = h.0.variable in omega arith); term = λ w o. (let k : w.copy ≤ n = h.0.term w o in omega arith) }, below_up n b h.1)

below-resolve : (n : ℕ) (b : List Binding) → Below n b → (t : RTerm) → ((w : Variable) → T (occurs w t) → w.copy ≤ n) → (w : Variable) → T (occurs w (resolve b t)) → w.copy ≤ n
unfolding Below resolve
below-resolve n [] h t k w o = k w o
below-resolve n (e ∷ b) h t k w o = go (occurs-replace e.variable w e.term (resolve b t) o) (below-resolve n b h.1 t k w)
  where
    go : T (occurs w e.term) ⊎ (T (occurs w (resolve b t)) × (T (same_variable e.variable w) → ⊥)) → (T (occurs w (resolve b t)) → w.copy ≤ n) → w.copy ≤ n
    go (inl x) r = h.0.term w x
    go (inr x) r = r x.0

mutual
  pub copied_copy : (c : ℕ) (t : Term) (w : Variable) → T (occurs w (copied c t)) → w.copy ≡ c
  copied_copy c (variable i at) w o = ap (λ (x : Variable). x.copy) (variable-eq w (record { copy = c; number = i }) o)
  copied_copy c (compound at f ts) w o = copied-copies c ts w o

  copied-copies : (c : ℕ) (ts : Terms) (w : Variable) → T (occurs_in w (copied_all c ts)) → w.copy ≡ c
  copied-copies c nil w o = absurd o
  copied-copies c (cons t ts) w o =
      elim (or-either (occurs w (copied c t)) (occurs_in w (copied_all c ts)) o) [ inl x ↦ copied_copy c t w x | inr x ↦ copied-copies c ts w x ]

copied-below : (n c : ℕ) → c ≤ n → (t : Term) (w : Variable) → T (occurs w (copied c t)) → w.copy ≤ n
copied-below n c h t w o = let e : w.copy ≡ c = copied_copy c t w o in omega arith

below-keeps : (n : ℕ) (t u : RTerm) → ((w : Variable) → T (occurs w t) → w.copy ≤ n) → ((w : Variable) → T (occurs w u) → w.copy ≤ n)
    → (b : List Binding) (v : Variable) (s : RTerm) → Below n b → Apart (resolve b t) (resolve b u) v s → Below n (record { variable = v; term = s } ∷ b)
unfolding Below
below-keeps n t u p q b v s h a = (record { variable = go v a.here; term = λ w o. go w (a.from w o) }, h)
  where
    go : (w : Variable) → T (occurs w (resolve b t)) ⊎ T (occurs w (resolve b u)) → w.copy ≤ n
    go w (inl o) = below-resolve n b h t p w o
    go w (inr o) = below-resolve n b h u q w o

-- a call is of the goal, or of a copy made before
unfoldable Callers : List Call → Type 0
Callers [] = Unit {0}
Callers (c ∷ cs) = (c.copy ≤ length cs) × Callers cs

-- ---- the invariant, and that a step keeps it

record Sorted (n : ℕ) (b : List Binding) : Type 0 where
  tidy : Tidy b
  below : Below n b

sorted-up : {n : ℕ} {b : List Binding} → Sorted n b → Sorted (suc n) b
sorted-up {n} {b} s = record { tidy = s.tidy; below = below_up n b s.below }

unify-sorted : (n : ℕ) (b : List Binding) (c d : ℕ) (t u : Term) → c ≤ n → d ≤ n → Sorted n b → IfSome (λ b1. Sorted n b1) (unify b (copied c t) (copied d u))
unify-sorted n b c d t u p q s =
    unify-keep (copied c t) (copied d u) (λ b1. Sorted n b1)
    (λ b1 v x h a. record { tidy = tidy-keeps (copied c t) (copied d u) b1 v x h.tidy a; below = below-keeps n (copied c t) (copied d u) (copied-below n c p t) (copied-below n d q u) b1 v x h.below a }) b s

record Kept (a : Alternative) : Type 0 where
  sorted : Sorted (path a) a.bindings
  literals : Bounded (path a) a.literals
  callers : Callers a.calls

module _ (sh : Sheet) (a : Alternative) (kept : Kept a) (c : ℕ) (rest : List Pending) (here : c ≤ path a) (others : Bounded (path a) rest) where
  moved-kept : (at : Atom) → Kept (moved_on sh a at)
  unfolding moved_on
  moved-kept at = record { sorted = kept.sorted; literals = kept.literals; callers = kept.callers }

  laid_kept : (at : Atom) (cl : Clause) (r : Option (List Binding)) → IfSome (λ b. Sorted (suc (path a)) b) r → All Kept (on_top (laid sh a c at rest cl r) (moved_on sh a at))
  unfolding on_top laid Callers
  laid_kept at cl none s = (moved-kept at, tt)
  laid_kept at cl (some b) s = (
    record {
      sorted = s;
      literals = bounded-pending (suc (path a)) (suc (path a)) cl.body rest (omega arith) (bounded-up (path a) rest others);
      callers = (here, kept.callers);
    },
    (moved-kept at, tt),
  )

  called-kept : (at : Atom) (o : Option Clause) → All Kept (called sh a c at rest o)
  unfolding called tried
  called-kept at none = tt
  called-kept at (some cl) =
      laid_kept at cl (unify a.bindings (copied c (term_of at)) (copied (suc (path a)) (term_of cl.head)))
      (unify-sorted (suc (path a)) a.bindings c (suc (path a)) (term_of at) (term_of cl.head) (omega arith) (omega arith) (sorted-up kept.sorted))

  gone-kept : (lits : List Pending) → Bounded (path a) lits → (b : List Binding) → Sorted (path a) b → Kept (gone sh a lits b)
  unfolding gone
  gone-kept lits h b s = record { sorted = s; literals = h; callers = kept.callers }

  equated-kept : (r : Option (List Binding)) → IfSome (λ b. Sorted (path a) b) r → All Kept (equated sh a rest r)
  unfolding equated
  equated-kept none s = tt
  equated-kept (some b) s = (gone-kept rest others b s, tt)

  worked_kept : (l : Literal) → All Kept (worked sh a c rest l)
  unfolding worked
  worked_kept (call at) = called-kept at (clause_at sh a.next)
  worked_kept (equation t u) =
      equated-kept (unify a.bindings (copied c t) (copied c u)) (unify-sorted (path a) a.bindings c c t u here here kept.sorted)
  worked_kept truth = (gone-kept rest others a.bindings kept.sorted, tt)
  worked_kept falsity = tt
  worked_kept (either y z) = (side y, (side z, tt))
    where
      side : (x : Body) → Kept (gone sh a (pending c x rest) a.bindings)
      side x = gone-kept (pending c x rest) (bounded-pending (path a) c x rest here others) a.bindings kept.sorted

outcome-kept : (sh : Sheet) (a : Alternative) → Kept a → All Kept (outcome sh a)
unfolding outcome worked_on Bounded
outcome-kept sh a kept = go a.literals kept.literals
  where
    go : (lits : List Pending) → Bounded (path a) lits → All Kept (worked_on sh a lits)
    go [] h = tt
    go (p ∷ ps) h = worked_kept sh a kept p.copy ps h.0 h.1 p.literal

start-kept : (sh : Sheet) (g : Goal) → All Kept (start sh g)
unfolding start Tidy Below Callers Bounded
start-kept sh g = (record { sorted = record { tidy = tt; below = tt }; literals = bounded-pending 0 0 g.body [] (omega arith) tt; callers = tt }, tt)

reached-kept : (sh : Sheet) (g : Goal) (a : Alternative) → Reached sh g a → Kept a
reached-kept sh g = all-reached Kept sh g (outcome-kept sh) (start-kept sh g)

-- ---- the theorems

-- "with that alternative's bindings put in until none applies": no variable left in a resolved term is bound.
pub none-applies : (sh : Sheet) (g : Goal) (a : Alternative) → Reached sh g a → (t : RTerm) (v : Variable) → T (occurs v (resolve a.bindings t)) → T (is_bound a.bindings v) → ⊥
none-applies sh g a r = tidy-clear a.bindings (reached-kept sh g a r).sorted.tidy

mutual
  unfolding in_literal

  literal-copy : (v : Variable) (c : ℕ) (l : Literal) → T (in_literal v c l) → v.copy ≡ c
  literal-copy v c (call a) o = copied-copies c a.args v o
  literal-copy v c (equation t u) o =
      elim (or-either (occurs v (copied c t)) (occurs v (copied c u)) o) [ inl x ↦ copied_copy c t v x | inr x ↦ copied_copy c u v x ]
  literal-copy v c truth o = absurd o
  literal-copy v c falsity o = absurd o
  literal-copy v c (either y z) o = elim (or-either (in_body v c y) (in_body v c z) o) [ inl x ↦ body-copy v c y x | inr x ↦ body-copy v c z x ]

  body-copy : (v : Variable) (c : ℕ) (b : Body) → T (in_body v c b) → v.copy ≡ c
  body-copy v c done o = absurd o
  body-copy v c (also l b) o = elim (or-either (in_literal v c l) (in_body v c b) o) [ inl x ↦ literal-copy v c l x | inr x ↦ body-copy v c b x ]

literals-copy : (n : ℕ) (v : Variable) (lits : List Pending) → Bounded n lits → T (in_literals v lits) → v.copy ≤ n
unfolding in_literals Bounded
literals-copy n v [] h o = absurd o
literals-copy n v (p ∷ ps) h o =
    elim (or-either (in_literal v p.copy p.literal) (in_literals v ps) o) [
      | inl x ↦ (let e : v.copy ≡ p.copy = literal-copy v p.copy p.literal x in let k : p.copy ≤ n = h.0 in omega arith)
      | inr x ↦ literals-copy n v ps h.1 x
    ]

calls-copy : (v : Variable) (cs : List Call) → Callers cs → T (in_calls v cs) → v.copy ≤ length cs
unfolding in_calls Callers
calls-copy v [] h o = absurd o
calls-copy v (c ∷ cs) h o =
    elim (or-either (occurs_in v (copied_all c.copy c.atom.args)) (in_calls v cs) o) [
      | inl x ↦ (let e : v.copy ≡ c.copy = copied-copies c.copy c.atom.args v x in let k : c.copy ≤ length cs = h.0 in omega arith)
      | inr x ↦ (let k : v.copy ≤ length cs = calls-copy v cs h.1 x in omega arith)
    ]

bindings-copy : (n : ℕ) (v : Variable) (b : List Binding) → Below n b → T (in_bindings v b) → v.copy ≤ n
unfolding in_bindings Below
bindings-copy n v [] h o = absurd o
bindings-copy n v (e ∷ b) h o = go (or-either (same_variable v e.variable || occurs v e.term) (in_bindings v b) o) (bindings-copy n v b h.1)
  where
    one : T (same_variable v e.variable) ⊎ T (occurs v e.term) → v.copy ≤ n
    one (inl x) = subst (λ (w : Variable). w.copy ≤ n) (sym (variable-eq v e.variable x)) h.0.variable
    one (inr x) = h.0.term v x

    go : T (same_variable v e.variable || occurs v e.term) ⊎ T (in_bindings v b) → (T (in_bindings v b) → v.copy ≤ n) → v.copy ≤ n
    go (inl x) r = one (or-either (same_variable v e.variable) (occurs v e.term) x)
    go (inr x) r = r x

-- Copies are new: a variable of the copy about to be made stands nowhere in the alternative.
pub copies-new : (sh : Sheet) (g : Goal) (a : Alternative) → Reached sh g a → (i : ℕ) → T (in_alternative (record { copy = suc (path a); number = i }) a) → ⊥
unfolding in_alternative
copies-new sh g a r i o = go (or-either (in_literals v a.literals) (in_calls v a.calls || in_bindings v a.bindings) o)
  where
    v : Variable
    v = record { copy = suc (path a); number = i }

    kept : Kept a
    kept = reached-kept sh g a r

    small : suc (path a) ≤ path a → ⊥
    small h = omega arith

    rest : T (in_calls v a.calls) ⊎ T (in_bindings v a.bindings) → ⊥
    rest (inl x) = small (calls-copy v a.calls kept.callers x)
    rest (inr x) = small (bindings-copy (path a) v a.bindings kept.sorted.below x)

    go : T (in_literals v a.literals) ⊎ T (in_calls v a.calls || in_bindings v a.bindings) → ⊥
    go (inl x) = small (literals-copy (path a) v a.literals kept.literals x)
    go (inr x) = rest (or-either (in_calls v a.calls) (in_bindings v a.bindings) x)
