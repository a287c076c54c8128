-- Laws of clauses by their numbers: what is behind one, and the search along the clauses of one predicate. Assumes nothing.
use Prim.Native.Nat.{ℕ, zero, suc, ◌≤◌, ◌<◌}
use native.Mathlib.Omega.{arith}
use mathlib.Core.Path.{◌≡◌, refl, sym, ap, ◌∙◌}
use mathlib.Core.Bool.{Bool, true, false, ◌&&◌}
use mathlib.Core.List.{List, [], ◌∷◌}
use mathlib.Core.Option.{Option, none, some}
use mathlib.Core.Logic.{◌⊎◌, inl, inr}
use lib.ListN.{drop}
use Rattle.syntax.specs.Terms.{Atom, Declaration, Clause, Sheet}
use Rattle.machine.specs.Machine.{is_for, first_for, next_for, nth_clause, clause_at}
use Rattle.machine.specs.Determinacy.{inputs, joins, overlaps, first_overlap}
use Rattle.machine.proofs.Tests.{some-eq, some-none}

-- ---- lists

-- what is behind the first of what is left
pub drop-tail : (n : ℕ) (cls : List Clause) (x : Clause) (xs : List Clause) → x ∷ xs ≡ drop n cls → xs ≡ drop (suc n) cls
drop-tail n [] x xs e = absurd (nil-by n e)
  where
    nil-by : (m : ℕ) → x ∷ xs ≡ drop m [] → ⊥
    nil-by zero q = let z : ◌≡◌ {A = ℕ} 0 1 = cc in omega arith
    nil-by (suc m) q = let z : ◌≡◌ {A = ℕ} 0 1 = cc in omega arith
drop-tail zero (c ∷ cls) x xs e = let z : xs ≡ cls = cc in z
drop-tail (suc n) (c ∷ cls) x xs e = drop-tail n cls x xs e

pub drop_nth : (n : ℕ) (cls : List Clause) (x : Clause) (xs : List Clause) → x ∷ xs ≡ drop n cls → nth_clause cls n ≡ some x
unfolding nth_clause
drop_nth n [] x xs e = absurd (nil-by n e)
  where
    nil-by : (m : ℕ) → x ∷ xs ≡ drop m [] → ⊥
    nil-by zero q = let z : ◌≡◌ {A = ℕ} 0 1 = cc in omega arith
    nil-by (suc m) q = let z : ◌≡◌ {A = ℕ} 0 1 = cc in omega arith
drop_nth zero (c ∷ cls) x xs e = let z : c ≡ x = cc in ap some z
drop_nth (suc n) (c ∷ cls) x xs e = drop_nth n cls x xs e

pub nth_drop : (n : ℕ) (cls : List Clause) (x : Clause) → nth_clause cls n ≡ some x → drop n cls ≡ x ∷ drop (suc n) cls
unfolding nth_clause
nth_drop n [] x e = absurd (some-none x (sym e))
nth_drop zero (c ∷ cls) x e = ap (λ (y : Clause). y ∷ cls) (some-eq c x e)
nth_drop (suc n) (c ∷ cls) x e = nth_drop n cls x e

-- ---- the clauses of one predicate

abbrev for-choice : Atom → ℕ → List Clause → Bool → ℕ
for-choice a k cls b = elim b [ true ↦ k | false ↦ first_for a (suc k) cls ]

first-by : (a : Atom) (k : ℕ) (cl : Clause) (cls : List Clause) (b : Bool) → is_for a cl ≡ b → first_for a k (cl ∷ cls) ≡ for-choice a k cls b
unfolding first_for
first-by a k cl cls b e = ap (for-choice a k cls) e

first-later : (a : Atom) (k : ℕ) (cls : List Clause) → (first_for a k cls ≡ 0) ⊎ (k ≤ first_for a k cls)
first-later a k [] = inl (unfold first_for in refl)
first-later a k (cl ∷ cls) = go (is_for a cl) refl (first-later a (suc k) cls)
  where
    go : (b : Bool) → is_for a cl ≡ b → (first_for a (suc k) cls ≡ 0) ⊎ (suc k ≤ first_for a (suc k) cls) → (first_for a k (cl ∷ cls) ≡ 0) ⊎ (k ≤ first_for a k (cl ∷ cls))
    go true e r = let z : first_for a k (cl ∷ cls) ≡ k = first-by a k cl cls true e in inr (omega arith)
    go false e (inl z) = inl (first-by a k cl cls false e ∙ z)
    go false e (inr l) = let z : first_for a k (cl ∷ cls) ≡ first_for a (suc k) cls = first-by a k cl cls false e in inr (omega arith)

-- the next clause is behind, if there is one
pub next-later : (sh : Sheet) (a : Atom) (n : ℕ) → (next_for sh a n ≡ 0) ⊎ (n < next_for sh a n)
unfolding next_for
next-later sh a n = go (first-later a (suc n) (drop n sh.clauses))
  where
    go : (first_for a (suc n) (drop n sh.clauses) ≡ 0) ⊎ (suc n ≤ first_for a (suc n) (drop n sh.clauses))
        → (first_for a (suc n) (drop n sh.clauses) ≡ 0) ⊎ (n < first_for a (suc n) (drop n sh.clauses))
    go (inl z) = inl z
    go (inr l) = inr (omega arith)

-- ---- the first overlap

abbrev lap-choice : List Declaration → Clause → ℕ → List Clause → Bool → Option ℕ
lap-choice ds cl n xs b = elim b [ true ↦ some n | false ↦ first_overlap ds cl (suc n) xs ]

pub lap-by : (ds : List Declaration) (cl : Clause) (n : ℕ) (x : Clause) (xs : List Clause) (b : Bool) → overlaps ds cl x ≡ b → first_overlap ds cl n (x ∷ xs) ≡ lap-choice ds cl n xs b
unfolding first_overlap
lap-by ds cl n x xs b e = ap (lap-choice ds cl n xs) e

-- clauses of other predicates do not overlap
apart : (ds : List Declaration) (cl x : Clause) → is_for cl.head x ≡ false → overlaps ds cl x ≡ false
unfolding overlaps
apart ds cl x e = ap (λ (b : Bool). b && joins (inputs ds cl.head) (inputs ds x.head)) e

module _ (ds : List Declaration) (cl : Clause) (cls : List Clause) where
  -- the first overlap from the clause of a number on; there is none from 0 on
  unfoldable pub behind : ℕ → Option ℕ
  behind zero = none
  behind (suc m) = first_overlap ds cl (suc m) (drop m cls)

  -- from one clause to the next of the predicate
  seek-by : (n : ℕ) (xs : List Clause) → xs ≡ drop n cls → first_overlap ds cl (suc n) xs ≡ behind (first_for cl.head (suc n) xs)
  seek-by n [] e =
      let a : first_overlap ds cl (suc n) [] ≡ none = (unfold first_overlap in refl) in
      let b : first_for cl.head (suc n) [] ≡ 0 = (unfold first_for in refl) in
      let c : behind 0 ≡ none = (unfold behind in refl) in
      a ∙ sym (ap behind b ∙ c)
  seek-by n (x ∷ xs) e = go (is_for cl.head x) refl (seek-by (suc n) xs (drop-tail n cls x xs e))
    where
      go : (b : Bool) → is_for cl.head x ≡ b → first_overlap ds cl (suc (suc n)) xs ≡ behind (first_for cl.head (suc (suc n)) xs)
          → first_overlap ds cl (suc n) (x ∷ xs) ≡ behind (first_for cl.head (suc n) (x ∷ xs))
      go true t k =
          let c : first_overlap ds cl (suc n) (drop n cls) ≡ behind (suc n) = (unfold behind in refl) in
          ap (first_overlap ds cl (suc n)) e ∙ c ∙ ap behind (sym (first-by cl.head (suc n) x xs true t))
      go false t k =
          lap-by ds cl (suc n) x xs false (apart ds cl x t) ∙ k ∙ ap behind (sym (first-by cl.head (suc n) x xs false t))

  pub seek-next : (n : ℕ) → first_overlap ds cl (suc n) (drop n cls) ≡ behind (first_for cl.head (suc n) (drop n cls))
  seek-next n = seek-by n (drop n cls) refl

  pub behind-hit : (m : ℕ) (x : Clause) → nth_clause cls m ≡ some x → overlaps ds cl x ≡ true → behind (suc m) ≡ some (suc m)
  unfolding behind
  behind-hit m x e t = ap (first_overlap ds cl (suc m)) (nth_drop m cls x e) ∙ lap-by ds cl (suc m) x (drop (suc m) cls) true t

  pub behind-miss : (m : ℕ) (x : Clause) → nth_clause cls m ≡ some x → overlaps ds cl x ≡ false → behind (suc m) ≡ first_overlap ds cl (suc (suc m)) (drop (suc m) cls)
  unfolding behind
  behind-miss m x e t = ap (first_overlap ds cl (suc m)) (nth_drop m cls x e) ∙ lap-by ds cl (suc m) x (drop (suc m) cls) false t

-- ---- the same by a sheet

module _ (sh : Sheet) (cl : Clause) where
  abbrev pub from : ℕ → Option ℕ
  from j = behind sh.declarations cl sh.clauses j

  pub from_next : (n : ℕ) → first_overlap sh.declarations cl (suc n) (drop n sh.clauses) ≡ from (next_for sh cl.head n)
  unfolding next_for
  from_next n = seek-next sh.declarations cl sh.clauses n

  pub from-hit : (j : ℕ) (x : Clause) → clause_at sh j ≡ some x → overlaps sh.declarations cl x ≡ true → from j ≡ some j
  unfolding clause_at
  from-hit zero x e t = absurd (some-none x (sym e))
  from-hit (suc m) x e t = behind-hit sh.declarations cl sh.clauses m x e t

  pub from-miss : (j : ℕ) (x : Clause) → clause_at sh j ≡ some x → overlaps sh.declarations cl x ≡ false → from j ≡ from (next_for sh cl.head j)
  unfolding clause_at
  from-miss zero x e t = absurd (some-none x (sym e))
  from-miss (suc m) x e t = behind-miss sh.declarations cl sh.clauses m x e t ∙ from_next (suc m)

  pub from-none : from 0 ≡ none
  unfolding behind
  from-none = refl
