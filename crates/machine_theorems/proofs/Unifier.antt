-- `unify` answers a most general unifier, and none only where there is no unifier: the bound on its rounds never cuts in.
use Prim.Native.Nat.{ℕ, zero, suc, ◌+◌, ◌≤◌, ◌<◌}
use native.Mathlib.Omega.{arith}
use native.Mathlib.Nat.{not-suc-le-zero}
use mathlib.Core.Path.{◌≡◌, refl, sym, ap, ◌∙◌, subst}
use mathlib.Core.Bool.{Bool, true, false, cond, ◌||◌}
use mathlib.Core.List.{List, [], ◌∷◌, ◌++◌, append_assoc}
use mathlib.Core.Option.{Option, none, some}
use mathlib.Core.Logic.{◌⊎◌, inl, inr}
use lib.Dec.{T}
use lib.ListN.{length, length-append}
use Rattle.syntax.specs.Terms.{same_name}
use Rattle.machine.specs.Substitution.{Variable, same_variable, is_later, RTerm, RTerms, var, app, rnil, rcons, occurs, occurs_in, replace, Binding, resolve}
use Rattle.machine.specs.Unification.{Difference, same, clash, apart, differ_variables, differ_mixed, or_else, differ, differ_all, bound, rounds, places, places_in, unify}
use Rattle.machine.specs.Unifiers.{Substitution, apply, apply_all, Unifies, MostGeneral, Unified}
use Rattle.machine.proofs.Tests.{either, or_left, or_right, name-eq, name-refl, variable-eq, variable-refl, variable-sym}
use Rattle.machine_theorems.proofs.Terms.{occurs-replace, apply-replace, no-circle}

-- ---- what the first difference says

-- A variable to be bound: any unifier makes it equal to the term; it does not occur in the term; it and the term's variables stand in the two.
pub record Apart (t u : RTerm) (v : Variable) (s : RTerm) : Type 0 where
  pub binds : (σ : Substitution) → apply σ t ≡ apply σ u → σ v ≡ apply σ s
  pub away : T (occurs v s) → ⊥
  pub here : T (occurs v t) ⊎ T (occurs v u)
  pub from : (w : Variable) → T (occurs w s) → T (occurs w t) ⊎ T (occurs w u)

abbrev pub Differs : RTerm → RTerm → Difference → Type 0
Differs t u same = t ≡ u
Differs t u clash = (σ : Substitution) → apply σ t ≡ apply σ u → ⊥
Differs t u (apart v s) = Apart t u v s

swap : {A B : Type 0} → A ⊎ B → B ⊎ A
swap (inl a) = inr a
swap (inr b) = inl b

flip : (t u : RTerm) (d : Difference) → Differs t u d → Differs u t d
flip t u same e = sym e
flip t u clash k = λ σ e. k σ (sym e)
flip t u (apart v s) a =
    record { binds = λ σ e. a.binds σ (sym e); away = a.away; here = swap a.here; from = λ w h. swap (a.from w h) }

variables-differ : (v w : Variable) → Differs (var v) (var w) (differ_variables v w)
unfolding differ_variables
variables-differ v w = go (same_variable v w) refl (is_later v w)
  where
    go : (a : Bool) → same_variable v w ≡ a → (b : Bool) → Differs (var v) (var w) (cond a same (cond b (apart v (var w)) (apart w (var v))))
    go true e b = ap var (variable-eq v w (subst T (sym e) tt))
    go false e true =
        record { binds = λ σ h. h; away = λ h. subst T e h; here = inl (variable-refl v); from = λ x h. inr h }
    go false e false =
        record { binds = λ σ h. sym h; away = λ h. subst T e (variable-sym w v h); here = inr (variable-refl w); from = λ x h. inl h }

mixed-differ : (v : Variable) (f : List ℕ) (ts : RTerms) → Differs (var v) (app f ts) (differ_mixed v f ts)
unfolding differ_mixed
mixed-differ v f ts = go (occurs_in v ts) refl
  where
    go : (a : Bool) → occurs_in v ts ≡ a → Differs (var v) (app f ts) (cond a clash (apart v (app f ts)))
    go true e = λ σ h. no-circle σ v f ts (subst T (sym e) tt) h
    go false e = record { binds = λ σ h. h; away = λ h. subst T e h; here = inl (variable-refl v); from = λ w h. inr h }

-- ---- in lists

wider : (a b c d : Bool) → T a ⊎ T b → T (a || c) ⊎ T (b || d)
wider a b c d (inl h) = inl (or_left a c h)
wider a b c d (inr h) = inr (or_left b d h)

deeper : (a b c d : Bool) → T c ⊎ T d → T (a || c) ⊎ T (b || d)
deeper a b c d (inl h) = inl (or_right a c h)
deeper a b c d (inr h) = inr (or_right b d h)

first-of : (f : List ℕ) (t u : RTerm) (ts us : RTerms) → app f (rcons t ts) ≡ app f (rcons u us) → t ≡ u
first-of f t u ts us e = cc

rest_of : (f : List ℕ) (t u : RTerm) (ts us : RTerms) → app f (rcons t ts) ≡ app f (rcons u us) → app f ts ≡ app f us
rest_of f t u ts us e = cc

joined : (f : List ℕ) (t u : RTerm) (ts us : RTerms) → t ≡ u → app f ts ≡ app f us → app f (rcons t ts) ≡ app f (rcons u us)
joined f t u ts us p q = cc

module _ (f : List ℕ) (t u : RTerm) (ts us : RTerms) where
  behind : t ≡ u → (e : Difference) → Differs (app f ts) (app f us) e → Differs (app f (rcons t ts)) (app f (rcons u us)) e
  behind p same q = joined f t u ts us p q
  behind p clash k = λ σ h. k σ (rest_of f (apply σ t) (apply σ u) (apply_all σ ts) (apply_all σ us) h)
  behind p (apart v s) a =
      record {
        binds = λ σ h. a.binds σ (rest_of f (apply σ t) (apply σ u) (apply_all σ ts) (apply_all σ us) h);
        away = a.away;
        here = deeper (occurs v t) (occurs v u) (occurs_in v ts) (occurs_in v us) a.here;
        from = λ w h. deeper (occurs w t) (occurs w u) (occurs_in w ts) (occurs_in w us) (a.from w h);
      }

  first : (d : Difference) → Differs t u d → (e : Difference) → Differs (app f ts) (app f us) e → Differs (app f (rcons t ts)) (app f (rcons u us)) (or_else d e)
  unfolding or_else
  first same p e q = behind p e q
  first clash k e q = λ σ h. k σ (first-of f (apply σ t) (apply σ u) (apply_all σ ts) (apply_all σ us) h)
  first (apart v s) a e q =
      record {
        binds = λ σ h. a.binds σ (first-of f (apply σ t) (apply σ u) (apply_all σ ts) (apply_all σ us) h);
        away = a.away;
        here = wider (occurs v t) (occurs v u) (occurs_in v ts) (occurs_in v us) a.here;
        from = λ w h. wider (occurs w t) (occurs w u) (occurs_in w ts) (occurs_in w us) (a.from w h);
      }

-- ---- two names

same_names : (f g : List ℕ) (ts us : RTerms) (d : Difference) → f ≡ g → Differs (app f ts) (app f us) d → Differs (app f ts) (app g us) d
same_names f g ts us d e k = subst (λ (h : List ℕ). Differs (app f ts) (app h us) d) e k

name_of : (f g : List ℕ) (ts us : RTerms) → app f ts ≡ app g us → f ≡ g
name_of f g ts us e = cc

names-differ : (f g : List ℕ) (ts us : RTerms) (d : Difference) → Differs (app f ts) (app f us) d → (a : Bool) → same_name f g ≡ a → Differs (app f ts) (app g us) (cond a d clash)
names-differ f g ts us d k true e = same_names f g ts us d (name-eq f g (subst T (sym e) tt)) k
names-differ f g ts us d k false e =
    λ σ h. subst T e (subst (λ (x : List ℕ). T (same_name f x)) (name_of f g (apply_all σ ts) (apply_all σ us) h) (name-refl f))

never : (f : List ℕ) (u : RTerm) (us : RTerms) → app f rnil ≡ app f (rcons u us) → ⊥
never f u us e = let z : ◌≡◌ {A = ℕ} 0 1 = cc in omega arith

-- the first difference of any two terms says what it should
mutual
  unfolding differ

  pub differ-spec : (t u : RTerm) → Differs t u (differ t u)
  differ-spec (var v) (var w) = variables-differ v w
  differ-spec (var v) (app g us) = mixed-differ v g us
  differ-spec (app f ts) (var w) = flip (var w) (app f ts) (differ_mixed w f ts) (mixed-differ w f ts)
  differ-spec (app f ts) (app g us) = names-differ f g ts us (differ_all ts us) (differ-all f ts us) (same_name f g) refl

  pub differ-all : (f : List ℕ) (ts us : RTerms) → Differs (app f ts) (app f us) (differ_all ts us)
  differ-all f rnil rnil = refl
  differ-all f rnil (rcons u us) = λ σ h. never f (apply σ u) (apply_all σ us) h
  differ-all f (rcons t ts) rnil = λ σ h. never f (apply σ t) (apply_all σ ts) (sym h)
  differ-all f (rcons t ts) (rcons u us) = first f t u ts us (differ t u) (differ-spec t u) (differ_all ts us) (differ-all f ts us)

-- ---- the variables that are left, as a list that each round shortens

unfoldable has : Variable → List Variable → Bool
has w [] = false
has w (x ∷ xs) = same_variable w x || has w xs

unfoldable without : Variable → List Variable → List Variable
without v [] = []
without v (x ∷ xs) = cond (same_variable v x) (without v xs) (x ∷ without v xs)

without-length : (v : Variable) (xs : List Variable) → length (without v xs) ≤ length xs
unfolding without
without-length v [] = omega arith
without-length v (x ∷ xs) = go (same_variable v x) (without-length v xs)
  where
    go : (a : Bool) → length (without v xs) ≤ length xs → length (cond a (without v xs) (x ∷ without v xs)) ≤ suc (length xs)
    go true h = omega arith
    go false h = omega arith

without-shorter : (v : Variable) (xs : List Variable) → T (has v xs) → length (without v xs) < length xs
unfolding has without
without-shorter v [] h = absurd h
without-shorter v (x ∷ xs) h = go (same_variable v x) h (λ k. without-shorter v xs k) (without-length v xs)
  where
    go : (a : Bool) → T (a || has v xs) → (T (has v xs) → length (without v xs) < length xs) → length (without v xs) ≤ length xs → length (cond a (without v xs) (x ∷ without v xs)) < suc (length xs)
    go true h ih l = omega arith
    go false h ih l = let k : length (without v xs) < length xs = ih h in omega arith

without-has : (v w : Variable) (xs : List Variable) → (T (same_variable v w) → ⊥) → T (has w xs) → T (has w (without v xs))
unfolding has without
without-has v w [] k h = h
without-has v w (x ∷ xs) k h = go (same_variable v x) refl (either (same_variable w x) (has w xs) h) (λ l. without-has v w xs k l)
  where
    go : (a : Bool) → same_variable v x ≡ a → T (same_variable w x) ⊎ T (has w xs) → (T (has w xs) → T (has w (without v xs))) → T (has w (cond a (without v xs) (x ∷ without v xs)))
    go true e (inl l) ih = absurd (k (subst (λ (y : Variable). T (same_variable v y)) (sym (variable-eq w x l)) (subst T (sym e) tt)))
    go true e (inr l) ih = ih l
    go false e (inl l) ih = or_left (same_variable w x) (has w (without v xs)) l
    go false e (inr l) ih = or_right (same_variable w x) (has w (without v xs)) (ih l)

has_left : (w : Variable) (xs ys : List Variable) → T (has w xs) → T (has w (xs ++ ys))
unfolding has
has_left w [] ys h = absurd h
has_left w (x ∷ xs) ys h =
    elim (either (same_variable w x) (has w xs) h) [ inl l ↦ or_left (same_variable w x) (has w (xs ++ ys)) l | inr l ↦ or_right (same_variable w x) (has w (xs ++ ys)) (has_left w xs ys l) ]

has_right : (w : Variable) (xs ys : List Variable) → T (has w ys) → T (has w (xs ++ ys))
unfolding has
has_right w [] ys h = h
has_right w (x ∷ xs) ys h = or_right (same_variable w x) (has w (xs ++ ys)) (has_right w xs ys h)

unfoldable mutual
  standing : RTerm → List Variable
  standing (var v) = v ∷ []
  standing (app f ts) = standing_in ts

  standing_in : RTerms → List Variable
  standing_in rnil = []
  standing_in (rcons t ts) = standing t ++ standing_in ts

mutual
  unfolding standing

  standing-places : (t : RTerm) → length (standing t) ≡ places t
  standing-places (var v) = refl
  standing-places (app f ts) = standing-places_in ts

  standing-places_in : (ts : RTerms) → length (standing_in ts) ≡ places_in ts
  standing-places_in rnil = refl
  standing-places_in (rcons t ts) =
      let p : length (standing t) ≡ places t = standing-places t in
      let q : length (standing_in ts) ≡ places_in ts = standing-places_in ts in
      omega (arith, length-append (standing t) (standing_in ts))

mutual
  unfolding standing has

  standing-has : (w : Variable) (t : RTerm) → T (occurs w t) → T (has w (standing t))
  standing-has w (var v) h = or_left (same_variable w v) false h
  standing-has w (app f ts) h = standing-has_in w ts h

  standing-has_in : (w : Variable) (ts : RTerms) → T (occurs_in w ts) → T (has w (standing_in ts))
  standing-has_in w rnil h = h
  standing-has_in w (rcons t ts) h =
      elim (either (occurs w t) (occurs_in w ts) h) [ inl l ↦ has_left w (standing t) (standing_in ts) (standing-has w t l) | inr l ↦ has_right w (standing t) (standing_in ts) (standing-has_in w ts l) ]

-- ---- the rounds

-- a list holds every variable of two terms
record Holds (xs : List Variable) (t u : RTerm) : Type 0 where
  left : (w : Variable) → T (occurs w t) → T (has w xs)
  right : (w : Variable) → T (occurs w u) → T (has w xs)

held : {xs : List Variable} {t u : RTerm} → Holds xs t u → (w : Variable) → T (occurs w t) ⊎ T (occurs w u) → T (has w xs)
held k w (inl h) = k.left w h
held k w (inr h) = k.right w h

-- after a variable is bound away the list does without it
after-bound : {xs : List Variable} {t u : RTerm} {v : Variable} {s : RTerm} → Holds xs t u → Apart t u v s → Holds (without v xs) (replace v s t) (replace v s u)
after-bound {xs} {t} {u} {v} {s} k a =
    record { left = λ w h. go w (occurs w t) (λ l. k.left w l) (occurs-replace v w s t h); right = λ w h. go w (occurs w u) (λ l. k.right w l) (occurs-replace v w s u h) }
  where
    go : (w : Variable) (before : Bool) → (T before → T (has w xs)) → T (occurs w s) ⊎ (T before × (T (same_variable v w) → ⊥)) → T (has w (without v xs))
    go w before l (inl h) =
        without-has v w xs (λ e. a.away (subst (λ (y : Variable). T (occurs y s)) (sym (variable-eq v w e)) h)) (held k w (a.from w h))
    go w before l (inr h) = without-has v w xs h.1 (l h.0)

-- one round: the difference decides
module _ (b : List Binding) (t u : RTerm) (again : List Binding → Option (List Binding)) where
  round : (d : Difference) → Differs (resolve b t) (resolve b u) d
      → ((v : Variable) (s : RTerm) → Apart (resolve b t) (resolve b u) v s → Unified (record { variable = v; term = s } ∷ b) t u (again (record { variable = v; term = s } ∷ b)))
      → Unified b t u (bound d b again)
  unfolding bound resolve
  round same e k = record { newer = []; extends = refl; equal = e; general = λ σ h x. refl }
  round clash e k = e
  round (apart v s) a k = go (again (record { variable = v; term = s } ∷ b)) (k v s a)
    where
      still : (σ : Substitution) → Unifies σ b t u → (x : RTerm) → apply σ (resolve (record { variable = v; term = s } ∷ b) x) ≡ apply σ (resolve b x)
      still σ h x = apply-replace σ v s (a.binds σ h) (resolve b x)

      unifies : (σ : Substitution) → Unifies σ b t u → Unifies σ (record { variable = v; term = s } ∷ b) t u
      unifies σ h = still σ h t ∙ (h ∙ sym (still σ h u))

      go : (r : Option (List Binding)) → Unified (record { variable = v; term = s } ∷ b) t u r → Unified b t u r
      go none n = λ σ h. n σ (unifies σ h)
      go (some b1) m =
          record {
            newer = m.newer ++ (record { variable = v; term = s } ∷ []);
            extends = m.extends ∙ sym (append_assoc m.newer (record { variable = v; term = s } ∷ []) b);
            equal = m.equal;
            general = λ σ h x. m.general σ (unifies σ h) x ∙ still σ h x;
          }

rounds-spec : (n : ℕ) (xs : List Variable) (b : List Binding) (t u : RTerm) → length xs < n → Holds xs (resolve b t) (resolve b u) → Unified b t u (rounds n b t u)
unfolding rounds resolve
rounds-spec zero xs b t u l k = absurd (not-suc-le-zero l)
rounds-spec (suc n) xs b t u l k =
    round b t u (λ b1. rounds n b1 t u) (differ (resolve b t) (resolve b u)) (differ-spec (resolve b t) (resolve b u))
    (λ v s a. rounds-spec n (without v xs) (record { variable = v; term = s } ∷ b) t u
    (let m : length (without v xs) < length xs = without-shorter v xs (held k v a.here) in omega arith)
    (after-bound k a))

module _ (b : List Binding) (t u : RTerm) where
  variables : List Variable
  variables = standing (resolve b t) ++ standing (resolve b u)

  variables-length : length variables ≡ places (resolve b t) + places (resolve b u)
  unfolding variables
  variables-length = omega (arith, length-append (standing (resolve b t)) (standing (resolve b u)), standing-places (resolve b t), standing-places (resolve b u))

  variables-hold : Holds variables (resolve b t) (resolve b u)
  unfolding variables
  variables-hold =
      record {
        left = λ w h. has_left w (standing (resolve b t)) (standing (resolve b u)) (standing-has w (resolve b t) h);
        right = λ w h. has_right w (standing (resolve b t)) (standing (resolve b u)) (standing-has w (resolve b u) h);
      }

-- `unify` answers a most general unifier, or none where there is no unifier.
pub unify-spec : (b : List Binding) (t u : RTerm) → Unified b t u (unify b t u)
unfolding unify
unify-spec b t u = rounds-spec (suc (places (resolve b t) + places (resolve b u))) (variables b t u) b t u (omega (arith, variables-length b t u)) (variables-hold b t u)

-- The bound on the rounds never cuts in: with any higher one the answer is the same.
rounds-enough : (n m : ℕ) (xs : List Variable) (b : List Binding) (t u : RTerm) → length xs < n → length xs < m → Holds xs (resolve b t) (resolve b u) → rounds n b t u ≡ rounds m b t u
unfolding rounds bound resolve
rounds-enough zero m xs b t u l k h = absurd (not-suc-le-zero l)
rounds-enough (suc n) zero xs b t u l k h = absurd (not-suc-le-zero k)
rounds-enough (suc n) (suc m) xs b t u l k h =
    go (differ (resolve b t) (resolve b u)) (differ-spec (resolve b t) (resolve b u))
    (λ v s a. rounds-enough n m (without v xs) (record { variable = v; term = s } ∷ b) t u (smaller n v a.here l) (smaller m v a.here k) (after-bound h a))
  where
    smaller : (j : ℕ) (v : Variable) → T (occurs v (resolve b t)) ⊎ T (occurs v (resolve b u)) → length xs < suc j → length (without v xs) < j
    smaller j v o q = let w : length (without v xs) < length xs = without-shorter v xs (held h v o) in omega arith

    go : (d : Difference) → Differs (resolve b t) (resolve b u) d
        → ((v : Variable) (s : RTerm) → Apart (resolve b t) (resolve b u) v s → rounds n (record { variable = v; term = s } ∷ b) t u ≡ rounds m (record { variable = v; term = s } ∷ b) t u)
        → bound d b (λ b1. rounds n b1 t u) ≡ bound d b (λ b1. rounds m b1 t u)
    go same e r = refl
    go clash e r = refl
    go (apart v s) a r = r v s a

pub unify-unbounded : (n : ℕ) (b : List Binding) (t u : RTerm) → places (resolve b t) + places (resolve b u) < n → rounds n b t u ≡ unify b t u
unfolding unify
unify-unbounded n b t u l =
    rounds-enough n (suc (places (resolve b t) + places (resolve b u))) (variables b t u) b t u (omega (arith, variables-length b t u)) (omega (arith, variables-length b t u)) (variables-hold b t u)

-- where there are bindings
pub unify-some : (b : List Binding) (t u : RTerm) (b1 : List Binding) → unify b t u ≡ some b1 → MostGeneral b t u b1
unify-some b t u b1 e = subst (Unified b t u) e (unify-spec b t u)
