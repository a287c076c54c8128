-- What a no of REQUESTS (xii) names: the first clause that has a bracket, or the first two clauses of one predicate whose + arguments have a common
-- instance. Assumes nothing.
use Prim.Native.Nat.{ℕ, zero, suc, ◌+◌, ◌<◌}
use native.Mathlib.Omega.{arith}
use mathlib.Core.Path.{◌≡◌, refl, sym, ap, subst}
use mathlib.Core.Bool.{Bool, true, false}
use mathlib.Core.List.{List, [], ◌∷◌}
use mathlib.Core.Logic.{◌⊎◌, inl, inr}
use mathlib.Core.Option.{Option, none, some}
use lib.Dec.{T}
use Rattle.syntax.specs.Terms.{Declaration, Clause, Sheet}
use Rattle.machine.specs.Machine.{is_for, nth_clause, clause_at}
use Rattle.machine.specs.Determinacy.{without_brackets, first_bracketed, inputs, Common, joins, overlaps, first_overlap, Pair, first_pair, against, Before, FirstOverlap, FirstBracket, NamesFirst}
use Rattle.machine.proofs.Tests.{both, and, holds, some-eq, some-none}
use Rattle.machine_theorems.proofs.Determinacy.{joins-exactly, overlap-none}

-- ---- brackets

record FoundBracket (n : ℕ) (cls : List Clause) (m : ℕ) : Type 0 where
  place : ℕ
  clause : Clause
  number : m ≡ n + place
  there : nth_clause cls place ≡ some clause
  bracket : T (without_brackets clause.body) → ⊥
  before : (j : ℕ) (x : Clause) → j < place → nth_clause cls j ≡ some x → T (without_brackets x.body)

bracketed-some : (n : ℕ) (cls : List Clause) (m : ℕ) → first_bracketed n cls ≡ some m → FoundBracket n cls m
unfolding first_bracketed nth_clause
bracketed-some n [] m e = absurd (some-none m (sym e))
bracketed-some n (y ∷ ys) m e = go (without_brackets y.body) refl (λ q. bracketed-some (suc n) ys m q) e
  where
    ahead : T (without_brackets y.body) → (k : ℕ) → ((j : ℕ) (x : Clause) → j < k → nth_clause ys j ≡ some x → T (without_brackets x.body))
        → (j : ℕ) (x : Clause) → j < suc k → nth_clause (y ∷ ys) j ≡ some x → T (without_brackets x.body)
    ahead t k h zero x l q = subst (λ (c : Clause). T (without_brackets c.body)) (some-eq y x q) t
    ahead t k h (suc j) x l q = h j x (omega arith) q

    later : T (without_brackets y.body) → FoundBracket (suc n) ys m → FoundBracket n (y ∷ ys) m
    later t f =
        let q : m ≡ suc n + f.place = f.number in
        record { place = suc f.place; clause = f.clause; number = omega arith; there = f.there; bracket = f.bracket; before = ahead t f.place f.before }

    go : (a : Bool) → without_brackets y.body ≡ a → (first_bracketed (suc n) ys ≡ some m → FoundBracket (suc n) ys m)
        → ◌≡◌ {A = Option ℕ} (elim a as (λ _. Option ℕ) [ true ↦ first_bracketed (suc n) ys | false ↦ some n ]) (some m) → FoundBracket n (y ∷ ys) m
    go true t r q = later (holds (without_brackets y.body) t) (r q)
    go false t r q =
        let k : n ≡ m = some-eq n m q in
        record { place = 0; clause = y; number = omega arith; there = refl; bracket = λ z. subst T t z; before = λ j x l. absurd (let w : ⊥ = omega arith in w) }

-- ---- pairs

module _ (ds : List Declaration) where
  record FoundOverlap (cl : Clause) (n : ℕ) (cls : List Clause) (m : ℕ) : Type 0 where
    place : ℕ
    clause : Clause
    number : m ≡ n + place
    there : nth_clause cls place ≡ some clause
    over : T (overlaps ds cl clause)
    before : (j : ℕ) (x : Clause) → j < place → nth_clause cls j ≡ some x → T (overlaps ds cl x) → ⊥

  overlap-some : (cl : Clause) (n : ℕ) (cls : List Clause) (m : ℕ) → first_overlap ds cl n cls ≡ some m → FoundOverlap cl n cls m
  unfolding first_overlap nth_clause
  overlap-some cl n [] m e = absurd (some-none m (sym e))
  overlap-some cl n (y ∷ ys) m e = go (overlaps ds cl y) refl (λ q. overlap-some cl (suc n) ys m q) e
    where
      ahead : (T (overlaps ds cl y) → ⊥) → (k : ℕ) → ((j : ℕ) (x : Clause) → j < k → nth_clause ys j ≡ some x → T (overlaps ds cl x) → ⊥)
          → (j : ℕ) (x : Clause) → j < suc k → nth_clause (y ∷ ys) j ≡ some x → T (overlaps ds cl x) → ⊥
      ahead t k h zero x l q = λ z. t (subst (λ (c : Clause). T (overlaps ds cl c)) (sym (some-eq y x q)) z)
      ahead t k h (suc j) x l q = h j x (omega arith) q

      later : (T (overlaps ds cl y) → ⊥) → FoundOverlap cl (suc n) ys m → FoundOverlap cl n (y ∷ ys) m
      later t f =
          let q : m ≡ suc n + f.place = f.number in
          record { place = suc f.place; clause = f.clause; number = omega arith; there = f.there; over = f.over; before = ahead t f.place f.before }

      go : (a : Bool) → overlaps ds cl y ≡ a → (first_overlap ds cl (suc n) ys ≡ some m → FoundOverlap cl (suc n) ys m)
          → ◌≡◌ {A = Option ℕ} (elim a as (λ _. Option ℕ) [ true ↦ some n | false ↦ first_overlap ds cl (suc n) ys ]) (some m) → FoundOverlap cl n (y ∷ ys) m
      go true t r q =
          let k : n ≡ m = some-eq n m q in
          record { place = 0; clause = y; number = omega arith; there = refl; over = holds (overlaps ds cl y) t; before = λ j x l. absurd (let w : ⊥ = omega arith in w) }
      go false t r q = later (λ z. subst T t z) (r q)

  record FoundPair (n : ℕ) (cls : List Clause) (p : Pair) : Type 0 where
    i : ℕ
    j : ℕ
    cl : Clause
    other : Clause
    first : p.first ≡ n + i
    second : p.second ≡ n + j
    order : i < j
    one : nth_clause cls i ≡ some cl
    two : nth_clause cls j ≡ some other
    over : T (overlaps ds cl other)
    before : (k m : ℕ) (x y : Clause) → k < m → (k < i) ⊎ ((k ≡ i) × (m < j)) → nth_clause cls k ≡ some x → nth_clause cls m ≡ some y → T (overlaps ds x y) → ⊥

  pair-some : (n : ℕ) (cls : List Clause) (p : Pair) → first_pair ds n cls ≡ some p → FoundPair n cls p
  unfolding first_pair nth_clause
  pair-some n [] p e = absurd (some-none p (sym e))
  pair-some n (z ∷ zs) p e = go (first_overlap ds z (suc n) zs) refl (λ q. pair-some (suc n) zs p q) e
    where
      earlier : (i j k m : ℕ) → (suc k < suc i) ⊎ ((suc k ≡ suc i) × (suc m < suc j)) → (k < i) ⊎ ((k ≡ i) × (m < j))
      earlier i j k m (inl l) = inl (omega arith)
      earlier i j k m (inr l) = let a : suc k ≡ suc i = l.0 in let b : suc m < suc j = l.1 in inr (let c : k ≡ i = omega arith in c, let d : m < j = omega arith in d)

      -- none with the first clause, and those of the others
      behind : first_overlap ds z (suc n) zs ≡ none → (i j : ℕ)
          → ((k m : ℕ) (x y : Clause) → k < m → (k < i) ⊎ ((k ≡ i) × (m < j)) → nth_clause zs k ≡ some x → nth_clause zs m ≡ some y → T (overlaps ds x y) → ⊥)
          → (k m : ℕ) (x y : Clause) → k < m → (k < suc i) ⊎ ((k ≡ suc i) × (m < suc j)) → nth_clause (z ∷ zs) k ≡ some x → nth_clause (z ∷ zs) m ≡ some y → T (overlaps ds x y) → ⊥
      behind s i j h zero zero x y l b q r = absurd (let w : ⊥ = omega arith in w)
      behind s i j h zero (suc m) x y l b q r = λ t. overlap-none ds z (suc n) zs s m y r (subst (λ (c : Clause). T (overlaps ds c y)) (sym (some-eq z x q)) t)
      behind s i j h (suc k) zero x y l b q r = absurd (let w : ⊥ = omega arith in w)
      behind s i j h (suc k) (suc m) x y l b q r = h k m x y (omega arith) (earlier i j k m b) q r

      -- none but with the first clause comes before
      ahead : (a : ℕ) → ((j : ℕ) (x : Clause) → j < a → nth_clause zs j ≡ some x → T (overlaps ds z x) → ⊥)
          → (k m : ℕ) (x y : Clause) → k < m → (k < 0) ⊎ ((k ≡ 0) × (m < suc a)) → nth_clause (z ∷ zs) k ≡ some x → nth_clause (z ∷ zs) m ≡ some y → T (overlaps ds x y) → ⊥
      ahead a h k m x y l (inl b) q r = absurd (let w : ⊥ = omega arith in w)
      ahead a h zero zero x y l (inr b) q r = absurd (let w : ⊥ = omega arith in w)
      ahead a h zero (suc m) x y l (inr b) q r =
          let c : suc m < suc a = b.1 in
          λ t. h m y (omega arith) r (subst (λ (d : Clause). T (overlaps ds d y)) (sym (some-eq z x q)) t)
      ahead a h (suc k) m x y l (inr b) q r = let c : suc k ≡ 0 = b.0 in absurd (let w : ⊥ = omega arith in w)

      further : first_overlap ds z (suc n) zs ≡ none → FoundPair (suc n) zs p → FoundPair n (z ∷ zs) p
      further s f =
          let a : p.first ≡ suc n + f.i = f.first in
          let b : p.second ≡ suc n + f.j = f.second in
          let c : f.i < f.j = f.order in
          record { i = suc f.i; j = suc f.j; cl = f.cl; other = f.other; first = omega arith; second = omega arith; order = omega arith; one = f.one; two = f.two; over = f.over; before = behind s f.i f.j f.before }

      here : (m : ℕ) → record { first = n; second = m } ≡ p → FoundOverlap z (suc n) zs m → FoundPair n (z ∷ zs) p
      here m q f =
          let a : n ≡ p.first = ap (λ (x : Pair). x.first) q in
          let b : m ≡ p.second = ap (λ (x : Pair). x.second) q in
          let c : m ≡ suc n + f.place = f.number in
          record { i = 0; j = suc f.place; cl = z; other = f.clause; first = omega arith; second = omega arith; order = omega arith; one = refl; two = f.there; over = f.over; before = ahead f.place f.before }

      go : (o : Option ℕ) → first_overlap ds z (suc n) zs ≡ o → (first_pair ds (suc n) zs ≡ some p → FoundPair (suc n) zs p)
          → ◌≡◌ {A = Option Pair} (elim o as (λ _. Option Pair) [ none ↦ first_pair ds (suc n) zs | some m ↦ some (record { first = n; second = m }) ]) (some p)
          → FoundPair n (z ∷ zs) p
      go none s r q = further s (r q)
      go (some m) s r q = here m (some-eq (record { first = n; second = m }) p q) (overlap-some z (suc n) zs m s)

-- ---- over a sheet

module _ (sh : Sheet) where
  overlaps-common : (cl other : Clause) → T (overlaps sh.declarations cl other)
      → T (is_for cl.head other) × Common (inputs sh.declarations cl.head) (inputs sh.declarations other.head)
  unfolding overlaps
  overlaps-common cl other t =
      let k : T (is_for cl.head other) × T (joins (inputs sh.declarations cl.head) (inputs sh.declarations other.head)) =
      both (is_for cl.head other) (joins (inputs sh.declarations cl.head) (inputs sh.declarations other.head)) t in
      (k.0, (joins-exactly (inputs sh.declarations cl.head) (inputs sh.declarations other.head)).0 k.1)

  common-overlaps : (cl other : Clause) → T (is_for cl.head other) → Common (inputs sh.declarations cl.head) (inputs sh.declarations other.head)
      → T (overlaps sh.declarations cl other)
  unfolding overlaps
  common-overlaps cl other t c =
      and (is_for cl.head other) (joins (inputs sh.declarations cl.head) (inputs sh.declarations other.head)) t
      ((joins-exactly (inputs sh.declarations cl.head) (inputs sh.declarations other.head)).1 c)

  bracket-named : (m : ℕ) → FoundBracket 1 sh.clauses m → FirstBracket sh m
  unfolding clause_at
  bracket-named m f = record { cl = f.clause; there = subst (λ (k : ℕ). clause_at sh k ≡ some f.clause) number f.there; bracket = f.bracket; none_before = before }
    where
      number : suc f.place ≡ m
      number = let q : m ≡ 1 + f.place = f.number in omega arith

      before : (k : ℕ) (x : Clause) → k < m → clause_at sh k ≡ some x → T (without_brackets x.body)
      before zero x l q = absurd (some-none x (sym q))
      before (suc k) x l q = let e : suc f.place ≡ m = number in f.before k x (omega arith) q

  pair-named : (p : Pair) → FoundPair sh.declarations 1 sh.clauses p → FirstOverlap sh p
  unfolding clause_at
  pair-named p f =
      record {
        cl = f.cl;
        other = f.other;
        later = (let o : f.i < f.j = f.order in let a : suc f.i ≡ p.first = first in let b : suc f.j ≡ p.second = second in omega arith);
        one = subst (λ (k : ℕ). clause_at sh k ≡ some f.cl) first f.one;
        two = subst (λ (k : ℕ). clause_at sh k ≡ some f.other) second f.two;
        predicate = (overlaps-common f.cl f.other f.over).0;
        common = (overlaps-common f.cl f.other f.over).1;
        none_before = λ m n x y l b q r t σ e. before m n x y l b q r (common-overlaps x y t (σ, e));
      }
    where
      first : suc f.i ≡ p.first
      first = let q : p.first ≡ 1 + f.i = f.first in omega arith

      second : suc f.j ≡ p.second
      second = let q : p.second ≡ 1 + f.j = f.second in omega arith

      down : (m n : ℕ) → Before (suc m) (suc n) p → (m < f.i) ⊎ ((m ≡ f.i) × (n < f.j))
      down m n (inl l) = let a : suc f.i ≡ p.first = first in inl (omega arith)
      down m n (inr l) =
          let a : suc f.i ≡ p.first = first in
          let b : suc f.j ≡ p.second = second in
          let c : suc m ≡ p.first = l.0 in
          let d : suc n < p.second = l.1 in
          inr (let u : m ≡ f.i = omega arith in u, let v : n < f.j = omega arith in v)

      before : (m n : ℕ) (x y : Clause) → m < n → Before m n p → clause_at sh m ≡ some x → clause_at sh n ≡ some y → T (overlaps sh.declarations x y) → ⊥
      before zero n x y l b q r = absurd (some-none x (sym q))
      before (suc m) zero x y l b q r = absurd (some-none y (sym r))
      before (suc m) (suc n) x y l b q r = f.before m n x y (omega arith) (down m n b) q r

  -- What speaks against a sheet is what it should be.
  pub against-names : (p : Pair) → against sh ≡ some p → NamesFirst sh p
  unfolding against
  against-names p e = go (first_bracketed 1 sh.clauses) refl e
    where
      go : (o : Option ℕ) → first_bracketed 1 sh.clauses ≡ o
          → ◌≡◌ {A = Option Pair} (elim o as (λ _. Option Pair) [ none ↦ first_pair sh.declarations 1 sh.clauses | some n ↦ some (record { first = n; second = 0 }) ]) (some p)
          → NamesFirst sh p
      go none s q = inr (pair-named p (pair-some sh.declarations 1 sh.clauses p q))
      go (some n) s q =
          let a : record { first = n; second = 0 } ≡ p = some-eq (record { first = n; second = 0 }) p q in
          let b : 0 ≡ p.second = ap (λ (x : Pair). x.second) a in
          let c : n ≡ p.first = ap (λ (x : Pair). x.first) a in
          inl (sym b, subst (λ (k : ℕ). FirstBracket sh k) c (bracket-named n (bracketed-some 1 sh.clauses n s)))
