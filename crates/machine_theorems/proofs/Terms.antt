-- Terms, bindings put in, and what stays when bindings grow.
use Prim.Native.Nat.{ℕ, suc, ◌+◌, ◌≤◌}
use native.Mathlib.Omega.{arith}
use mathlib.Core.Path.{◌≡◌, refl, sym, ap, ◌∙◌, subst}
use mathlib.Core.Bool.{Bool, true, false, cond, ◌||◌}
use mathlib.Core.List.{List, [], ◌∷◌, ◌++◌}
use mathlib.Core.Logic.{◌⊎◌, inl, inr}
use lib.Dec.{T}
use Rattle.machine.specs.Substitution.{Variable, same_variable, RTerm, RTerms, var, app, rnil, rcons, occurs, occurs_in, closed, closed_all, replace, replace_all, Binding, resolve}
use Rattle.machine.specs.Unifiers.{Substitution, apply, apply_all}
use Rattle.machine.proofs.Tests.{both, either, variable-eq}

-- ---- bindings put into a list of terms

unfoldable pub resolve_all : List Binding → RTerms → RTerms
resolve_all [] ts = ts
resolve_all (e ∷ b) ts = replace_all e.variable e.term (resolve_all b ts)

pub resolve-app : (b : List Binding) (f : List ℕ) (ts : RTerms) → resolve b (app f ts) ≡ app f (resolve_all b ts)
unfolding resolve resolve_all
resolve-app [] f ts = refl
resolve-app (e ∷ b) f ts = ap (replace e.variable e.term) (resolve-app b f ts)

pub resolve-nil : (b : List Binding) → resolve_all b rnil ≡ rnil
unfolding resolve_all
resolve-nil [] = refl
resolve-nil (e ∷ b) = ap (replace_all e.variable e.term) (resolve-nil b)

pub resolve-cons : (b : List Binding) (t : RTerm) (ts : RTerms) → resolve_all b (rcons t ts) ≡ rcons (resolve b t) (resolve_all b ts)
unfolding resolve resolve_all
resolve-cons [] t ts = refl
resolve-cons (e ∷ b) t ts = ap (replace_all e.variable e.term) (resolve-cons b t ts)

-- ---- a closed term stays as it is

mutual
  pub closed-replace : (v : Variable) (s : RTerm) (t : RTerm) → T (closed t) → replace v s t ≡ t
  closed-replace v s (var w) h = absurd h
  closed-replace v s (app f ts) h = ap (app f) (all-closed-replace v s ts h)

  pub all-closed-replace : (v : Variable) (s : RTerm) (ts : RTerms) → T (closed_all ts) → replace_all v s ts ≡ ts
  all-closed-replace v s rnil h = refl
  all-closed-replace v s (rcons t ts) h = λ i. rcons (closed-replace v s t (both (closed t) (closed_all ts) h).0 i) (all-closed-replace v s ts (both (closed t) (closed_all ts) h).1 i)

-- ---- growth: what is closed stays closed, what is equal stays equal

pub record Grows (b b1 : List Binding) : Type 0 where
  pub stays_closed : (t : RTerm) → T (closed (resolve b t)) → T (closed (resolve b1 t))
  pub stays_equal : (t u : RTerm) → resolve b t ≡ resolve b u → resolve b1 t ≡ resolve b1 u

pub grows-refl : (b : List Binding) → Grows b b
grows-refl b = record { stays_closed = λ t h. h; stays_equal = λ t u e. e }

pub grows-trans : {b b1 b2 : List Binding} → Grows b b1 → Grows b1 b2 → Grows b b2
grows-trans g h =
    record { stays_closed = λ t k. h.stays_closed t (g.stays_closed t k); stays_equal = λ t u e. h.stays_equal t u (g.stays_equal t u e) }

pub grows-more : (newer b : List Binding) → Grows b (newer ++ b)
unfolding resolve
grows-more [] b = grows-refl b
grows-more (e ∷ newer) b =
    let g : Grows b (newer ++ b) = grows-more newer b in
    record {
      stays_closed = λ t k. subst (λ (x : RTerm). T (closed x)) (sym (closed-replace e.variable e.term (resolve (newer ++ b) t) (g.stays_closed t k))) (g.stays_closed t k);
      stays_equal = λ t u p. ap (replace e.variable e.term) (g.stays_equal t u p);
    }

-- ---- what occurs after a replacement

-- w occurs in the term put in, or occurred before and is another variable
abbrev pub After : Variable → Variable → RTerm → Bool → Type 0
After v w s before = T (occurs w s) ⊎ (T before × (T (same_variable v w) → ⊥))

after-left : (v w : Variable) (s : RTerm) (a b : Bool) → After v w s a → After v w s (a || b)
after-left v w s true b x = x
after-left v w s false b (inl x) = inl x
after-left v w s false b (inr x) = absurd x.0

after-right : (v w : Variable) (s : RTerm) (a b : Bool) → After v w s b → After v w s (a || b)
after-right v w s true b (inl x) = inl x
after-right v w s true b (inr x) = inr (tt, x.1)
after-right v w s false b x = x

-- a variable that is looked at: the test whether it is replaced
after-variable : (v w x : Variable) (s : RTerm) (test : Bool) → (same_variable v x ≡ test) → T (occurs w (cond test s (var x))) → After v w s (same_variable w x)
after-variable v w x s true e h = inl h
after-variable v w x s false e h =
    inr (h, λ k. subst T (ap (same_variable v) (variable-eq w x h) ∙ e) k)

mutual
  pub occurs-replace : (v w : Variable) (s : RTerm) (t : RTerm) → T (occurs w (replace v s t)) → After v w s (occurs w t)
  occurs-replace v w s (var x) h = after-variable v w x s (same_variable v x) refl h
  occurs-replace v w s (app f ts) h = all-occurs-replace v w s ts h

  pub all-occurs-replace : (v w : Variable) (s : RTerm) (ts : RTerms) → T (occurs_in w (replace_all v s ts)) → After v w s (occurs_in w ts)
  all-occurs-replace v w s rnil h = absurd h
  all-occurs-replace v w s (rcons t ts) h =
      elim (either (occurs w (replace v s t)) (occurs_in w (replace_all v s ts)) h) [ inl k ↦ after-left v w s (occurs w t) (occurs_in w ts) (occurs-replace v w s t k) | inr k ↦ after-right v w s (occurs w t) (occurs_in w ts) (all-occurs-replace v w s ts k) ]

-- ---- substitutions

-- a replacement that the substitution agrees with changes nothing under it
apply-variable : (σ : Substitution) (v w : Variable) (s : RTerm) → σ v ≡ apply σ s → (test : Bool) → (T test → v ≡ w) → apply σ (cond test s (var w)) ≡ σ w
apply-variable σ v w s h true e = sym h ∙ ap σ (e tt)
apply-variable σ v w s h false e = refl

mutual
  pub apply-replace : (σ : Substitution) (v : Variable) (s : RTerm) → σ v ≡ apply σ s → (t : RTerm) → apply σ (replace v s t) ≡ apply σ t
  apply-replace σ v s h (var w) = apply-variable σ v w s h (same_variable v w) (variable-eq v w)
  apply-replace σ v s h (app f ts) = ap (app f) (all-apply-replace σ v s h ts)

  pub all-apply-replace : (σ : Substitution) (v : Variable) (s : RTerm) → σ v ≡ apply σ s → (ts : RTerms) → apply_all σ (replace_all v s ts) ≡ apply_all σ ts
  all-apply-replace σ v s h rnil = refl
  all-apply-replace σ v s h (rcons t ts) = λ i. rcons (apply-replace σ v s h t i) (all-apply-replace σ v s h ts i)

-- ---- size, for the occurs check

abbrev mutual
  pub size : RTerm → ℕ
  size (var v) = 1
  size (app f ts) = suc (size_all ts)

  pub size_all : RTerms → ℕ
  size_all rnil = 0
  size_all (rcons t ts) = size t + size_all ts

mutual
  occurs-size : (σ : Substitution) (v : Variable) (t : RTerm) → T (occurs v t) → size (σ v) ≤ size (apply σ t)
  occurs-size σ v (var w) h = let e : size (σ v) ≡ size (σ w) = ap (λ (x : Variable). size (σ x)) (variable-eq v w h) in omega arith
  occurs-size σ v (app f ts) h = let e : size (σ v) ≤ size_all (apply_all σ ts) = all-occurs-size σ v ts h in omega arith

  all-occurs-size : (σ : Substitution) (v : Variable) (ts : RTerms) → T (occurs_in v ts) → size (σ v) ≤ size_all (apply_all σ ts)
  all-occurs-size σ v rnil h = absurd h
  all-occurs-size σ v (rcons t ts) h =
      elim (either (occurs v t) (occurs_in v ts) h) [
        | inl k ↦ (let e : size (σ v) ≤ size (apply σ t) = occurs-size σ v t k in omega arith)
        | inr k ↦ (let e : size (σ v) ≤ size_all (apply_all σ ts) = all-occurs-size σ v ts k in omega arith)
      ]

-- a variable never equals a term with arguments in which it occurs
pub no-circle : (σ : Substitution) (v : Variable) (f : List ℕ) (ts : RTerms) → T (occurs_in v ts) → σ v ≡ app f (apply_all σ ts) → ⊥
no-circle σ v f ts h e =
    let k : size (σ v) ≤ size_all (apply_all σ ts) = all-occurs-size σ v ts h in
    let l : size (σ v) ≡ suc (size_all (apply_all σ ts)) = ap size e in
    omega arith
