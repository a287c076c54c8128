-- The test of REQUESTS (xii) says what it should: `joined` gives bindings exactly where there is a common instance, and a sheet passes exactly where it
-- has no bracket and no two clauses of one predicate whose + arguments have a common instance. Assumes nothing.
use Prim.Native.Nat.{ℕ, zero, suc, ◌<◌}
use native.Mathlib.Omega.{arith}
use mathlib.Core.Path.{◌≡◌, refl, sym, ap, ◌∙◌, subst}
use mathlib.Core.Bool.{Bool, true, false}
use mathlib.Core.List.{List, [], ◌∷◌}
use mathlib.Core.Logic.{◌↔◌}
use mathlib.Core.Option.{Option, none, some}
use lib.Dec.{T}
use Rattle.syntax.specs.Terms.{Term, Declaration, Clause, Sheet}
use Rattle.machine.specs.Substitution.{RTerm, RTerms, var, app, rnil, rcons, copied, Binding, resolve}
use Rattle.machine.specs.Unification.{unify}
use Rattle.machine.specs.Unifiers.{Substitution, apply, apply_all, Unifies, Unified}
use Rattle.machine.specs.Machine.{is_for, nth_clause, clause_at}
use Rattle.machine.specs.Determinacy.{without_brackets, first_bracketed, inputs, Equal, Common, join_on, joined, is_joined, joins, overlaps, first_overlap, Pair, first_pair, against, is_nothing, determinate, Determinate}
use Rattle.machine.proofs.Tests.{both, and, holds, some-eq, some-none}
use Rattle.machine_theorems.proofs.Terms.{resolve_all, resolve-app, resolve-nil, resolve-cons, Grows, grows-refl, grows-trans}
use Rattle.machine_theorems.proofs.Unifier.{unify-spec}
use Rattle.machine_theorems.proofs.NothingOpen.{unified-grows}

-- ---- bindings as a substitution

module _ (b : List Binding) where
  abbrev values : Substitution
  values v = resolve b (var v)

  mutual
    applied : (t : RTerm) → apply values t ≡ resolve b t
    applied (var v) = refl
    applied (app f ts) = ap (app f) (applied-all ts) ∙ sym (resolve-app b f ts)

    applied-all : (ts : RTerms) → apply_all values ts ≡ resolve_all b ts
    applied-all rnil = sym (resolve-nil b)
    applied-all (rcons t ts) = (let e : rcons (apply values t) (apply_all values ts) ≡ rcons (resolve b t) (resolve_all b ts) = λ i. rcons (applied t i) (applied-all ts i) in e) ∙ sym (resolve-cons b t ts)

-- ---- `joined` and a common instance

joined-some : (ts us : List Term) (b b1 : List Binding) → joined b ts us ≡ some b1 → Grows b b1 × Equal (values b1) ts us
unfolding joined join_on Equal
joined-some [] us b b1 e = (subst (Grows b) (some-eq b b1 e) (grows-refl b), tt)
joined-some (t ∷ ts) [] b b1 e = (subst (Grows b) (some-eq b b1 e) (grows-refl b), tt)
joined-some (t ∷ ts) (u ∷ us) b b1 e =
    go (unify b (copied 1 t) (copied 2 u)) (unify-spec b (copied 1 t) (copied 2 u)) (λ c q. joined-some ts us c b1 q) e
  where
    go : (r : Option (List Binding)) → Unified b (copied 1 t) (copied 2 u) r
        → ((c : List Binding) → joined c ts us ≡ some b1 → Grows c b1 × Equal (values b1) ts us)
        → join_on r (λ c. joined c ts us) ≡ some b1 → Grows b b1 × ((apply (values b1) (copied 1 t) ≡ apply (values b1) (copied 2 u)) × Equal (values b1) ts us)
    go none n k q = absurd (some-none b1 (sym q))
    go (some c) m k q = (
      grows-trans (unified-grows m) (k c q).0,
      (applied b1 (copied 1 t) ∙ ((k c q).0.stays_equal (copied 1 t) (copied 2 u) m.equal ∙ sym (applied b1 (copied 2 u))), (k c q).1),
    )

joined-none : (ts us : List Term) (b : List Binding) (σ : Substitution) → ((x : RTerm) → apply σ (resolve b x) ≡ apply σ x) → joined b ts us ≡ none → Equal σ ts us → ⊥
unfolding joined join_on Equal
joined-none [] us b σ h e q = some-none b e
joined-none (t ∷ ts) [] b σ h e q = some-none b e
joined-none (t ∷ ts) (u ∷ us) b σ h e q =
    go (unify b (copied 1 t) (copied 2 u)) (unify-spec b (copied 1 t) (copied 2 u)) (λ c k l. joined-none ts us c σ k l q.1) e
  where
    unifies : Unifies σ b (copied 1 t) (copied 2 u)
    unifies = h (copied 1 t) ∙ (q.0 ∙ sym (h (copied 2 u)))

    go : (r : Option (List Binding)) → Unified b (copied 1 t) (copied 2 u) r
        → ((c : List Binding) → ((x : RTerm) → apply σ (resolve c x) ≡ apply σ x) → joined c ts us ≡ none → ⊥)
        → join_on r (λ c. joined c ts us) ≡ none → ⊥
    go none n k l = n σ unifies
    go (some c) m k l = k c (λ x. m.general σ unifies x ∙ h x) l

-- `joined` gives bindings exactly where some substitution makes the pairs equal.
pub joined-exactly : (ts us : List Term) → ((b : List Binding) × (joined [] ts us ≡ some b)) ↔ Common ts us
unfolding resolve
joined-exactly ts us = (λ k. (values k.0, (joined-some ts us [] k.0 k.1).1), λ c. go c (joined [] ts us) refl)
  where
    go : Common ts us → (o : Option (List Binding)) → joined [] ts us ≡ o → (b : List Binding) × (joined [] ts us ≡ some b)
    go c none e = absurd (joined-none ts us [] c.0 (λ x. refl) e c.1)
    go c (some b) e = (b, e)

-- the same as a test
pub joins-exactly : (ts us : List Term) → T (joins ts us) ↔ Common ts us
unfolding joins is_joined
joins-exactly ts us = (λ t. (joined-exactly ts us).0 (there (joined [] ts us) refl t), λ c. back ((joined-exactly ts us).1 c))
  where
    there : (o : Option (List Binding)) → joined [] ts us ≡ o → T (is_joined o) → (b : List Binding) × (joined [] ts us ≡ some b)
    there none e t = absurd t
    there (some b) e t = (b, e)

    back : (b : List Binding) × (joined [] ts us ≡ some b) → T (is_joined (joined [] ts us))
    back k = subst (λ (o : Option (List Binding)). T (is_joined o)) (sym k.1) tt

-- ---- brackets

bracketed-none : (n : ℕ) (cls : List Clause) → first_bracketed n cls ≡ none → (k : ℕ) (cl : Clause) → nth_clause cls k ≡ some cl → T (without_brackets cl.body)
unfolding first_bracketed nth_clause
bracketed-none n [] e k cl h = absurd (some-none cl (sym h))
bracketed-none n (x ∷ xs) e k cl h = go (without_brackets x.body) refl (λ q j l. bracketed-none (suc n) xs q j cl l) e k h
  where
    go : (a : Bool) → without_brackets x.body ≡ a → (first_bracketed (suc n) xs ≡ none → (j : ℕ) → nth_clause xs j ≡ some cl → T (without_brackets cl.body))
        → ◌≡◌ {A = Option ℕ} (elim a as (λ _. Option ℕ) [ true ↦ first_bracketed (suc n) xs | false ↦ some n ]) none
        → (j : ℕ) → nth_clause (x ∷ xs) j ≡ some cl → T (without_brackets cl.body)
    go true t r q zero l = subst (λ (y : Clause). T (without_brackets y.body)) (some-eq x cl l) (holds (without_brackets x.body) t)
    go true t r q (suc j) l = r q j l
    go false t r q j l = absurd (some-none n q)

none-bracketed : (n : ℕ) (cls : List Clause) → ((k : ℕ) (cl : Clause) → nth_clause cls k ≡ some cl → T (without_brackets cl.body)) → first_bracketed n cls ≡ none
unfolding first_bracketed nth_clause
none-bracketed n [] h = refl
none-bracketed n (x ∷ xs) h = go (without_brackets x.body) (h 0 x refl) (none-bracketed (suc n) xs (λ k cl e. h (suc k) cl e))
  where
    go : (a : Bool) → T a → first_bracketed (suc n) xs ≡ none
        → ◌≡◌ {A = Option ℕ} (elim a as (λ _. Option ℕ) [ true ↦ first_bracketed (suc n) xs | false ↦ some n ]) none
    go true t q = q
    go false t q = absurd t

-- ---- pairs

module _ (ds : List Declaration) where
  pub overlap-none : (cl : Clause) (n : ℕ) (cls : List Clause) → first_overlap ds cl n cls ≡ none → (k : ℕ) (x : Clause) → nth_clause cls k ≡ some x → T (overlaps ds cl x) → ⊥
  unfolding first_overlap nth_clause
  overlap-none cl n [] e k x h = absurd (some-none x (sym h))
  overlap-none cl n (y ∷ ys) e k x h = go (overlaps ds cl y) refl (λ q j l. overlap-none cl (suc n) ys q j x l) e k h
    where
      go : (a : Bool) → overlaps ds cl y ≡ a → (first_overlap ds cl (suc n) ys ≡ none → (j : ℕ) → nth_clause ys j ≡ some x → T (overlaps ds cl x) → ⊥)
          → ◌≡◌ {A = Option ℕ} (elim a as (λ _. Option ℕ) [ true ↦ some n | false ↦ first_overlap ds cl (suc n) ys ]) none
          → (j : ℕ) → nth_clause (y ∷ ys) j ≡ some x → T (overlaps ds cl x) → ⊥
      go true t r q j l = absurd (some-none n q)
      go false t r q zero l = λ z. subst T t (subst (λ (c : Clause). T (overlaps ds cl c)) (sym (some-eq y x l)) z)
      go false t r q (suc j) l = r q j l

  none-overlap : (cl : Clause) (n : ℕ) (cls : List Clause) → ((k : ℕ) (x : Clause) → nth_clause cls k ≡ some x → T (overlaps ds cl x) → ⊥) → first_overlap ds cl n cls ≡ none
  unfolding first_overlap nth_clause
  none-overlap cl n [] h = refl
  none-overlap cl n (y ∷ ys) h = go (overlaps ds cl y) (h 0 y refl) (none-overlap cl (suc n) ys (λ k x e. h (suc k) x e))
    where
      go : (a : Bool) → (T a → ⊥) → first_overlap ds cl (suc n) ys ≡ none
          → ◌≡◌ {A = Option ℕ} (elim a as (λ _. Option ℕ) [ true ↦ some n | false ↦ first_overlap ds cl (suc n) ys ]) none
      go true t q = absurd (t tt)
      go false t q = q

  pair-none : (n : ℕ) (cls : List Clause) → first_pair ds n cls ≡ none → (i j : ℕ) (cl x : Clause) → i < j → nth_clause cls i ≡ some cl → nth_clause cls j ≡ some x → T (overlaps ds cl x) → ⊥
  unfolding first_pair nth_clause
  pair-none n [] e i j cl x l p q = absurd (some-none cl (sym p))
  pair-none n (y ∷ ys) e i j cl x l p q = go (first_overlap ds y (suc n) ys) refl (λ s k m r t u. pair-none (suc n) ys s k m cl x r t u) e i j l p q
    where
      go : (o : Option ℕ) → first_overlap ds y (suc n) ys ≡ o
          → (first_pair ds (suc n) ys ≡ none → (k m : ℕ) → k < m → nth_clause ys k ≡ some cl → nth_clause ys m ≡ some x → T (overlaps ds cl x) → ⊥)
          → ◌≡◌ {A = Option Pair} (elim o as (λ _. Option Pair) [ none ↦ first_pair ds (suc n) ys | some m ↦ some (record { first = n; second = m }) ]) none
          → (k m : ℕ) → k < m → nth_clause (y ∷ ys) k ≡ some cl → nth_clause (y ∷ ys) m ≡ some x → T (overlaps ds cl x) → ⊥
      go none s r t zero zero h u v = absurd (let w : ⊥ = omega arith in w)
      go none s r t zero (suc m) h u v = λ z. overlap-none y (suc n) ys s m x v (subst (λ (c : Clause). T (overlaps ds c x)) (sym (some-eq y cl u)) z)
      go none s r t (suc k) zero h u v = absurd (let w : ⊥ = omega arith in w)
      go none s r t (suc k) (suc m) h u v = r t k m (omega arith) u v
      go (some a) s r t k m h u v = absurd (some-none (record { first = n; second = a }) t)

  none-pair : (n : ℕ) (cls : List Clause) → ((i j : ℕ) (cl x : Clause) → i < j → nth_clause cls i ≡ some cl → nth_clause cls j ≡ some x → T (overlaps ds cl x) → ⊥) → first_pair ds n cls ≡ none
  unfolding first_pair nth_clause
  none-pair n [] h = refl
  none-pair n (y ∷ ys) h =
      go (first_overlap ds y (suc n) ys) (none-overlap y (suc n) ys (λ j x q. h 0 (suc j) y x (omega arith) refl q))
      (none-pair (suc n) ys (λ i j cl x l p q. h (suc i) (suc j) cl x (omega arith) p q))
    where
      go : (o : Option ℕ) → o ≡ none → first_pair ds (suc n) ys ≡ none
          → ◌≡◌ {A = Option Pair} (elim o as (λ _. Option Pair) [ none ↦ first_pair ds (suc n) ys | some m ↦ some (record { first = n; second = m }) ]) none
      go none e q = q
      go (some m) e q = absurd (some-none m e)

-- ---- the test

module _ (sh : Sheet) where
  against-none : against sh ≡ none → (first_bracketed 1 sh.clauses ≡ none) × (first_pair sh.declarations 1 sh.clauses ≡ none)
  unfolding against
  against-none e = go (first_bracketed 1 sh.clauses) e
    where
      go : (o : Option ℕ)
          → ◌≡◌ {A = Option Pair} (elim o as (λ _. Option Pair) [ none ↦ first_pair sh.declarations 1 sh.clauses | some n ↦ some (record { first = n; second = 0 }) ]) none
          → (o ≡ none) × (first_pair sh.declarations 1 sh.clauses ≡ none)
      go none q = (refl, q)
      go (some n) q = absurd (some-none (record { first = n; second = 0 }) q)

  none-against : first_bracketed 1 sh.clauses ≡ none → first_pair sh.declarations 1 sh.clauses ≡ none → against sh ≡ none
  unfolding against
  none-against e q = go (first_bracketed 1 sh.clauses) e
    where
      go : (o : Option ℕ) → o ≡ none
          → ◌≡◌ {A = Option Pair} (elim o as (λ _. Option Pair) [ none ↦ first_pair sh.declarations 1 sh.clauses | some n ↦ some (record { first = n; second = 0 }) ]) none
      go none p = q
      go (some n) p = absurd (some-none n p)

  is_plain : against sh ≡ none → (n : ℕ) (cl : Clause) → clause_at sh n ≡ some cl → T (without_brackets cl.body)
  unfolding clause_at
  is_plain e zero cl h = absurd (some-none cl (sym h))
  is_plain e (suc n) cl h = bracketed-none 1 sh.clauses (against-none e).0 n cl h

  is-exclusive : against sh ≡ none → (m n : ℕ) (cl other : Clause) → m < n → clause_at sh m ≡ some cl → clause_at sh n ≡ some other → T (overlaps sh.declarations cl other) → ⊥
  unfolding clause_at
  is-exclusive e zero n cl other l p q = absurd (some-none cl (sym p))
  is-exclusive e (suc m) zero cl other l p q = absurd (some-none other (sym q))
  is-exclusive e (suc m) (suc n) cl other l p q = pair-none sh.declarations 1 sh.clauses (against-none e).1 m n cl other (omega arith) p q

  overlapping : (cl other : Clause) → T (is_for cl.head other) → Common (inputs sh.declarations cl.head) (inputs sh.declarations other.head)
      → T (overlaps sh.declarations cl other)
  unfolding overlaps
  overlapping cl other t c =
      and (is_for cl.head other) (joins (inputs sh.declarations cl.head) (inputs sh.declarations other.head)) t
      ((joins-exactly (inputs sh.declarations cl.head) (inputs sh.declarations other.head)).1 c)

  pub none-determinate : against sh ≡ none → Determinate sh
  none-determinate e =
      record {
        plain = is_plain e;
        exclusive = λ m n cl other l p q t σ k. is-exclusive e m n cl other l p q (overlapping cl other t (σ, k));
      }

  determinate-none : Determinate sh → against sh ≡ none
  unfolding clause_at overlaps
  determinate-none d =
      none-against (none-bracketed 1 sh.clauses (λ k cl h. d.plain (suc k) cl h)) (none-pair sh.declarations 1 sh.clauses pairs)
    where
      pairs : (i j : ℕ) (cl x : Clause) → i < j → nth_clause sh.clauses i ≡ some cl → nth_clause sh.clauses j ≡ some x → T (overlaps sh.declarations cl x) → ⊥
      pairs i j cl x l p q t =
          let k : T (is_for cl.head x) × T (joins (inputs sh.declarations cl.head) (inputs sh.declarations x.head)) =
          both (is_for cl.head x) (joins (inputs sh.declarations cl.head) (inputs sh.declarations x.head)) t in
          let c : Common (inputs sh.declarations cl.head) (inputs sh.declarations x.head) =
          (joins-exactly (inputs sh.declarations cl.head) (inputs sh.declarations x.head)).0 k.1 in
          d.exclusive (suc i) (suc j) cl x (omega arith) p q k.0 c.0 c.1

  -- "Say yes exactly when": the test agrees with what a yes says.
  pub determinate-exactly : T (determinate sh) ↔ Determinate sh
  unfolding determinate is_nothing
  determinate-exactly = (λ t. none-determinate (nothing (against sh) t), λ d. subst (λ (o : Option Pair). T (is_nothing o)) (sym (determinate-none d)) tt)
    where
      nothing : (o : Option Pair) → T (is_nothing o) → o ≡ none
      nothing none t = refl
      nothing (some p) t = absurd t
