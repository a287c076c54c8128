-- Tests that passed or failed, as facts.
use Prim.Native.Nat.{ℕ}
use mathlib.Core.Path.{◌≡◌, refl, sym, subst}
use mathlib.Core.Bool.{Bool, true, false, not, ◌&&◌, ◌||◌}
use mathlib.Core.List.{List, [], ◌∷◌}
use mathlib.Core.Logic.{◌⊎◌, inl, inr}
use mathlib.Core.Option.{none, some}
use native.Mathlib.Omega.{arith}
use lib.Dec.{T, eqb, eqb→eq, eqb_refl}
use Rattle.syntax.specs.Terms.{same_bytes, same_name}
use Rattle.machine.specs.Substitution.{Variable, same_variable}

pub both : (a b : Bool) → T (a && b) → T a × T b
both true b t = (tt, t)
both false b t = absurd t

pub and : (a b : Bool) → T a → T b → T (a && b)
and true b s t = t
and false b s t = absurd s

pub either : (a b : Bool) → T (a || b) → T a ⊎ T b
either true b t = inl tt
either false b t = inr t

pub or_left : (a b : Bool) → T a → T (a || b)
or_left true b t = tt
or_left false b t = absurd t

pub or_right : (a b : Bool) → T b → T (a || b)
or_right true b t = tt
or_right false b t = t

pub neither : (a b : Bool) → T (not (a || b)) → T (not a) × T (not b)
neither true b t = absurd t
neither false b t = (tt, t)

pub nor : (a b : Bool) → T (not a) → T (not b) → T (not (a || b))
nor true b s t = absurd s
nor false b s t = t

pub holds : (b : Bool) → b ≡ true → T b
holds b e = subst T (sym e) tt

pub some-eq : {A : Type 0} (x y : A) → some x ≡ some y → x ≡ y
some-eq x y e = cc

pub some-none : {A : Type 0} (x : A) → some x ≡ none → ⊥
some-none x e = let z : ◌≡◌ {A = ℕ} 0 1 = cc in omega arith

-- Names: the two facts about `same_name` that the theorems rest on.
pub name-eq : (a b : List ℕ) → T (same_name a b) → a ≡ b
unfolding same_bytes
name-eq [] [] t = refl
name-eq [] (y ∷ ys) t = absurd t
name-eq (x ∷ xs) [] t = absurd t
name-eq (x ∷ xs) (y ∷ ys) t = go (eqb→eq x y (both (eqb x y) (same_bytes xs ys) t).0) (name-eq xs ys (both (eqb x y) (same_bytes xs ys) t).1)
  where
    go : x ≡ y → xs ≡ ys → ◌≡◌ {A = List ℕ} (x ∷ xs) (y ∷ ys)
    go p q = λ i. p i ∷ q i

pub name-refl : (a : List ℕ) → T (same_name a a)
unfolding same_bytes
name-refl [] = tt
name-refl (x ∷ xs) = and (eqb x x) (same_bytes xs xs) (eqb_refl x) (name-refl xs)

pub variable-eq : (v w : Variable) → T (same_variable v w) → v ≡ w
variable-eq v w t = go (eqb→eq v.copy w.copy (both (eqb v.copy w.copy) (eqb v.number w.number) t).0) (eqb→eq v.number w.number (both (eqb v.copy w.copy) (eqb v.number w.number) t).1)
  where
    go : v.copy ≡ w.copy → v.number ≡ w.number → v ≡ w
    go p q = λ i. record { copy = p i; number = q i }

pub variable-refl : (v : Variable) → T (same_variable v v)
variable-refl v = and (eqb v.copy v.copy) (eqb v.number v.number) (eqb_refl v.copy) (eqb_refl v.number)

pub variable-sym : (v w : Variable) → T (same_variable v w) → T (same_variable w v)
variable-sym v w t = subst (λ (x : Variable). T (same_variable x v)) (variable-eq v w t) (variable-refl v)
