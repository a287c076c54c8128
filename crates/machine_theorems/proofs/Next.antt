-- In every alternative reached from a goal the next clause is as its definition says: a clause for the first literal's call, or 0.
use Prim.Native.Nat.{ℕ, zero, suc, ◌+◌}
use native.Mathlib.Omega.{arith}
use mathlib.Core.Path.{◌≡◌, refl, sym, ap, ◌∙◌, subst}
use mathlib.Core.Bool.{Bool, true, false}
use mathlib.Core.List.{List, [], ◌∷◌}
use mathlib.Core.Option.{Option, none, some}
use mathlib.Core.Logic.{◌⊎◌, inl, inr}
use lib.Dec.{T}
use lib.ListN.{length, drop}
use Rattle.syntax.specs.Terms.{Atom, term_of, Literal, call, equation, truth, falsity, either, Clause, Sheet, Goal}
use Rattle.machine.specs.Substitution.{copied, Binding}
use Rattle.machine.specs.Unification.{unify}
use Rattle.machine.specs.Machine.{Pending, Alternative, is_for, first_for, next_for, next_of, topmost, nth_clause, clause_at, pending, gone, equated, moved_on, laid, tried, on_top, called, worked, worked_on, outcome, start}
use Rattle.machine.specs.Reached.{Reached, IsNext, IsNextOf}
use Rattle.machine.proofs.Tests.{holds, some-eq, some-none}
use Rattle.machine_theorems.proofs.Piles.{All, all-reached}

-- ---- the search finds clauses for the atom

nth_drop : (m j : ℕ) (cls : List Clause) → nth_clause (drop m cls) j ≡ nth_clause cls (m + j)
unfolding nth_clause
nth_drop zero j cls = ap (nth_clause cls) (let e : j ≡ 0 + j = omega arith in e)
nth_drop (suc m) j [] = refl
nth_drop (suc m) j (cl ∷ cls) = nth_drop m j cls ∙ ap (nth_clause (cl ∷ cls)) (let e : suc (m + j) ≡ suc m + j = omega arith in e)

-- what the search among some clauses, the first of them of number k, comes to: 0, or the number of a clause for the atom
record Found (a : Atom) (k : ℕ) (cls : List Clause) (n : ℕ) : Type 0 where
  place : ℕ
  clause : Clause
  number : n ≡ k + place
  there : nth_clause cls place ≡ some clause
  right : T (is_for a clause)

first-for : (a : Atom) (k : ℕ) (cls : List Clause) → (first_for a k cls ≡ 0) ⊎ Found a k cls (first_for a k cls)
unfolding first_for nth_clause
first-for a k [] = inl refl
first-for a k (x ∷ xs) = go (is_for a x) refl (first-for a (suc k) xs)
  where
    later : (n : ℕ) → Found a (suc k) xs n → Found a k (x ∷ xs) n
    later n f = let q : n ≡ suc k + f.place = f.number in record { place = suc f.place; clause = f.clause; number = omega arith; there = f.there; right = f.right }

    go : (b : Bool) → is_for a x ≡ b → (first_for a (suc k) xs ≡ 0) ⊎ Found a (suc k) xs (first_for a (suc k) xs)
        → ◌≡◌ {A = ℕ} (elim b [ true ↦ k | false ↦ first_for a (suc k) xs ]) 0 ⊎ Found a k (x ∷ xs) (elim b [ true ↦ k | false ↦ first_for a (suc k) xs ])
    go true t r = inr (record { place = 0; clause = x; number = omega arith; there = refl; right = holds (is_for a x) t })
    go false t (inl e) = inl e
    go false t (inr f) = inr (later (first_for a (suc k) xs) f)

next-for : (sh : Sheet) (a : Atom) (m : ℕ) (cl : Clause) → clause_at sh (next_for sh a m) ≡ some cl → T (is_for a cl)
unfolding next_for clause_at
next-for sh a m cl h = go (first_for a (suc m) (drop m sh.clauses)) (first-for a (suc m) (drop m sh.clauses)) h
  where
    go : (n : ℕ) → (n ≡ 0) ⊎ Found a (suc m) (drop m sh.clauses) n → clause_at sh n ≡ some cl → T (is_for a cl)
    go n (inl e) l = absurd (some-none cl (sym (subst (λ (x : ℕ). clause_at sh x ≡ some cl) e l)))
    go n (inr f) l =
        let q : n ≡ suc (m + f.place) = (let p : n ≡ suc m + f.place = f.number in omega arith) in
        subst (λ (y : Clause). T (is_for a y)) (some-eq f.clause cl (sym f.there ∙ (nth_drop m f.place sh.clauses ∙ subst (λ (x : ℕ). clause_at sh x ≡ some cl) q l))) f.right

-- ---- the invariant, and that a step keeps it

abbrev RightNext : Sheet → Alternative → Type 0
RightNext sh a = IsNextOf sh a.literals a.next

topmost-right : (sh : Sheet) (lits : List Pending) → IsNextOf sh lits (topmost sh lits)
unfolding IsNextOf IsNext topmost next_of
topmost-right sh [] = refl
topmost-right sh (p ∷ ps) = go p.literal
  where
    go : (l : Literal) → IsNext sh l (next_of sh l)
    go (call a) = (0, refl)
    go (equation t u) = refl
    go truth = refl
    go falsity = refl
    go (either y z) = refl

module _ (sh : Sheet) (a : Alternative) (c : ℕ) (rest : List Pending) where
  -- an alternative whose first literal is a call of an atom moves on
  moved-right : (at : Atom) → a.literals ≡ record { copy = c; literal = call at } ∷ rest → RightNext sh (moved_on sh a at)
  unfolding moved_on IsNextOf IsNext
  moved-right at e = subst (λ (lits : List Pending). IsNextOf sh lits (next_for sh at a.next)) (sym e) (a.next, refl)

  laid-right : (at : Atom) → a.literals ≡ record { copy = c; literal = call at } ∷ rest → (cl : Clause) (r : Option (List Binding)) → All (RightNext sh) (on_top (laid sh a c at rest cl r) (moved_on sh a at))
  unfolding on_top laid
  laid-right at e cl none = (moved-right at e, tt)
  laid-right at e cl (some b) = (topmost-right sh (pending (suc (length a.calls)) cl.body rest), (moved-right at e, tt))

  called-right : (at : Atom) → a.literals ≡ record { copy = c; literal = call at } ∷ rest → (o : Option Clause) → All (RightNext sh) (called sh a c at rest o)
  unfolding called tried
  called-right at e none = tt
  called-right at e (some cl) = laid-right at e cl (unify a.bindings (copied c (term_of at)) (copied (suc (length a.calls)) (term_of cl.head)))

  gone-right : (lits : List Pending) (b : List Binding) → RightNext sh (gone sh a lits b)
  unfolding gone
  gone-right lits b = topmost-right sh lits

  equated-right : (r : Option (List Binding)) → All (RightNext sh) (equated sh a rest r)
  unfolding equated
  equated-right none = tt
  equated-right (some b) = (gone-right rest b, tt)

  worked-right : (l : Literal) → a.literals ≡ record { copy = c; literal = l } ∷ rest → All (RightNext sh) (worked sh a c rest l)
  unfolding worked
  worked-right (call at) e = called-right at e (clause_at sh a.next)
  worked-right (equation t u) e = equated-right (unify a.bindings (copied c t) (copied c u))
  worked-right truth e = (gone-right rest a.bindings, tt)
  worked-right falsity e = tt
  worked-right (either y z) e = (gone-right (pending c y rest) a.bindings, (gone-right (pending c z rest) a.bindings, tt))

outcome-right : (sh : Sheet) (a : Alternative) → All (RightNext sh) (outcome sh a)
unfolding outcome worked_on
outcome-right sh a = go a.literals refl
  where
    go : (lits : List Pending) → a.literals ≡ lits → All (RightNext sh) (worked_on sh a lits)
    go [] e = tt
    go (p ∷ ps) e = worked-right sh a p.copy ps p.literal e

start_right : (sh : Sheet) (g : Goal) → All (RightNext sh) (start sh g)
unfolding start
start_right sh g = (topmost-right sh (pending 0 g.body []), tt)

-- The next clause of every alternative reached is one for its first literal, if that is a call; else it is 0.
pub next-right : (sh : Sheet) (g : Goal) (a : Alternative) → Reached sh g a → IsNextOf sh a.literals a.next
next-right sh g = all-reached (RightNext sh) sh g (λ a h. outcome-right sh a) (start_right sh g)

-- So a clause that is tried has the predicate of the call.
pub next-is-for : (sh : Sheet) (g : Goal) (a : Alternative) → Reached sh g a → (c : ℕ) (at : Atom) (rest : List Pending) → a.literals ≡ record { copy = c; literal = call at } ∷ rest
    → (cl : Clause) → clause_at sh a.next ≡ some cl → T (is_for at cl)
unfolding IsNextOf IsNext
next-is-for sh g a r c at rest e cl h =
    let k : (m : ℕ) × (a.next ≡ next_for sh at m) = subst (λ (lits : List Pending). IsNextOf sh lits a.next) e (next-right sh g a r) in
    next-for sh at k.0 cl (subst (λ (n : ℕ). clause_at sh n ≡ some cl) k.1 h)
