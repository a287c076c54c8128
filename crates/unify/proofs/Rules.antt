-- A rule for each turn of the unifier: what it does to two rows of terms is what `unify` of the definition says. Assumes nothing.
use Prim.Native.Nat.{ℕ, zero, suc, ◌+◌, ◌/◌, ◌%◌, ◌≤◌, ◌<◌}
use native.Mathlib.Omega.{arith}
use mathlib.Core.Path.{◌≡◌, refl, sym, ap, ap₂, ◌∙◌, subst}
use mathlib.Core.Bool.{Bool, true, false, cond, ◌||◌, ◌&&◌}
use mathlib.Core.List.{List, [], ◌∷◌, ◌++◌}
use mathlib.Core.Option.{Option, none, some}
use mathlib.Core.Logic.{◌⊎◌, inl, inr}
use lib.Dec.{T, ltb, eqb}
use borrow.Author.Tests.{lt-ltb, le-ltb, ltb-true, ltb-false, eq-eqb, eqb-true}
use Rattle.syntax.specs.Terms.{same_name}
use Rattle.machine.specs.Substitution.{Variable, same_variable, is_later, RTerm, RTerms, var, app, rnil, rcons, occurs, occurs_in, replace, Binding, resolve}
use Rattle.machine.specs.Unification.{Difference, same, clash, apart, differ_variables, differ_mixed, or_else, differ, differ_all, bound, rounds, places, unify}
use Rattle.machine.specs.Unifiers.{MostGeneral}
use Rattle.machine.proofs.Tests.{variable-refl, variable-sym, name-refl}
use Rattle.machine_theorems.proofs.Terms.{resolve_all, resolve-app, resolve-nil, resolve-cons, grows-more}
use Rattle.machine_theorems.proofs.Unifier.{unify-unbounded, unify-some}
use Rattle.run_layout.specs.Regions.{copy_cells}
use Rattle.run_layout.specs.Nodes.{followed, count}
use Rattle.run_layout.specs.State.{variable_of}
use Rattle.run_layout.proofs.State.{replace-away}
use Rattle.unify.specs.Rows.{unify_rows}

-- ---- one round, without a bound

module _ (b : List Binding) (t u : RTerm) where
  one-round : (d : Difference) → differ (resolve b t) (resolve b u) ≡ d → unify b t u ≡ bound d b (λ b1. unify b1 t u)
  unfolding rounds bound
  one-round same e =
      sym (unify-unbounded (suc (places (resolve b t) + places (resolve b u))) b t u (omega arith))
      ∙ ap (λ (d : Difference). bound d b (λ b1. rounds (places (resolve b t) + places (resolve b u)) b1 t u)) e
  one-round clash e =
      sym (unify-unbounded (suc (places (resolve b t) + places (resolve b u))) b t u (omega arith))
      ∙ ap (λ (d : Difference). bound d b (λ b1. rounds (places (resolve b t) + places (resolve b u)) b1 t u)) e
  one-round (apart v s) e =
      let b1 : List Binding = record { variable = v; term = s } ∷ b in
      let n : ℕ = suc ((places (resolve b t) + places (resolve b u)) + (places (resolve b1 t) + places (resolve b1 u))) in
      sym (unify-unbounded (suc n) b t u (omega arith))
      ∙ (ap (λ (d : Difference). bound d b (λ b2. rounds n b2 t u)) e ∙ unify-unbounded n b1 t u (omega arith))

-- ---- terms whose first differences agree, now and later, unify alike

module _ (b : List Binding) (t u t' u' : RTerm) (alike : (newer : List Binding) → differ (resolve (newer ++ b) t) (resolve (newer ++ b) u) ≡ differ (resolve (newer ++ b) t') (resolve (newer ++ b) u')) where
  by-case : (n : ℕ) (newer : List Binding) (d : Difference) → ((e : Binding) → rounds n (e ∷ (newer ++ b)) t u ≡ rounds n (e ∷ (newer ++ b)) t' u') → bound d (newer ++ b) (λ b1. rounds n b1 t u) ≡ bound d (newer ++ b) (λ b1. rounds n b1 t' u')
  unfolding bound
  by-case n newer same ih = refl
  by-case n newer clash ih = refl
  by-case n newer (apart v s) ih = ih (record { variable = v; term = s })

  rounds-alike : (n : ℕ) (newer : List Binding) → rounds n (newer ++ b) t u ≡ rounds n (newer ++ b) t' u'
  unfolding rounds
  rounds-alike zero newer = refl
  rounds-alike (suc n) newer = go (differ (resolve (newer ++ b) t) (resolve (newer ++ b) u)) (differ (resolve (newer ++ b) t') (resolve (newer ++ b) u')) (alike newer) (λ e. rounds-alike n (e ∷ newer))
    where
      to : (d : Difference) → ((e : Binding) → rounds n (e ∷ (newer ++ b)) t u ≡ rounds n (e ∷ (newer ++ b)) t' u') → bound d (newer ++ b) (λ b1. rounds n b1 t u) ≡ bound d (newer ++ b) (λ b1. rounds n b1 t' u')
      to d ih = by-case n newer d ih

      go : (d d' : Difference) → d ≡ d' → ((e : Binding) → rounds n (e ∷ (newer ++ b)) t u ≡ rounds n (e ∷ (newer ++ b)) t' u') → bound d (newer ++ b) (λ b1. rounds n b1 t u) ≡ bound d' (newer ++ b) (λ b1. rounds n b1 t' u')
      go d d' q ih = to d ih ∙ ap (λ (x : Difference). bound x (newer ++ b) (λ b1. rounds n b1 t' u')) q

  unify-alike : unify b t u ≡ unify b t' u'
  unify-alike =
      let n : ℕ = suc ((places (resolve b t) + places (resolve b u)) + (places (resolve b t') + places (resolve b u'))) in
      sym (unify-unbounded n b t u (omega arith)) ∙ (rounds-alike n [] ∙ unify-unbounded n b t' u' (omega arith))

-- ---- differences of rows

or_same : (d : Difference) → or_else d same ≡ d
unfolding or_else
or_same same = refl
or_same clash = refl
or_same (apart v s) = refl

or_assoc : (d e f : Difference) → or_else (or_else d e) f ≡ or_else d (or_else e f)
unfolding or_else
or_assoc same e f = refl
or_assoc clash e f = refl
or_assoc (apart v s) e f = refl

same_test : (v : Variable) (b : Bool) → T b → (d : Difference) → cond b same d ≡ same
same_test v true h d = refl
same_test v false h d = absurd h

passed : (b : Bool) → T b → (d : Difference) → cond b d clash ≡ d
passed true h d = refl
passed false h d = absurd h

mutual
  unfolding differ differ_variables

  differ-refl : (t : RTerm) → differ t t ≡ same
  differ-refl (var v) = same_test v (same_variable v v) (variable-refl v) (cond (is_later v v) (apart v (var v)) (apart v (var v)))
  differ-refl (app f ts) = passed (same_name f f) (name-refl f) (differ_all ts ts) ∙ differ-all-refl ts

  differ-all-refl : (ts : RTerms) → differ_all ts ts ≡ same
  differ-all-refl rnil = refl
  differ-all-refl (rcons t ts) = ap₂ or_else (differ-refl t) (differ-all-refl ts) ∙ or_same same

rows-differ : (ts us : RTerms) → differ (app [] ts) (app [] us) ≡ differ_all ts us
unfolding differ
rows-differ ts us = passed (same_name [] []) (name-refl []) (differ_all ts us)

differ-followed : (ts us l r : RTerms) → count ts ≡ count us → differ_all (followed ts l) (followed us r) ≡ or_else (differ_all ts us) (differ_all l r)
unfolding differ_all followed count or_else
differ-followed rnil rnil l r e = refl
differ-followed rnil (rcons u us) l r e = absurd (let z : 0 ≡ suc (count us) = e in omega arith)
differ-followed (rcons t ts) rnil l r e = absurd (let z : suc (count ts) ≡ 0 = e in omega arith)
differ-followed (rcons t ts) (rcons u us) l r e =
    ap (or_else (differ t u)) (differ-followed ts us l r (let z : suc (count ts) ≡ suc (count us) = e in let y : count ts ≡ count us = omega arith in y)) ∙ sym (or_assoc (differ t u) (differ_all ts us) (differ_all l r))

-- ---- bindings put into rows

pub resolve-followed : (b : List Binding) (ts us : RTerms) → resolve_all b (followed ts us) ≡ followed (resolve_all b ts) (resolve_all b us)
unfolding followed
resolve-followed b rnil us = ap (λ (r : RTerms). followed r (resolve_all b us)) (sym (resolve-nil b))
resolve-followed b (rcons t ts) us =
    resolve-cons b t (followed ts us) ∙ (ap (rcons (resolve b t)) (resolve-followed b ts us) ∙ ap (λ (r : RTerms). followed r (resolve_all b us)) (sym (resolve-cons b t ts)))

pub count-resolve : (b : List Binding) (ts : RTerms) → count (resolve_all b ts) ≡ count ts
unfolding count
count-resolve b rnil = ap count (resolve-nil b)
count-resolve b (rcons t ts) = ap count (resolve-cons b t ts) ∙ ap suc (count-resolve b ts)

pub resolve-append : (newer b : List Binding) (t : RTerm) → resolve (newer ++ b) t ≡ resolve newer (resolve b t)
unfolding resolve
resolve-append [] b t = refl
resolve-append (e ∷ newer) b t = ap (replace e.variable e.term) (resolve-append newer b t)

-- the first difference of two resolved rows
row-difference : (b : List Binding) (ts us : RTerms) → differ (resolve b (app [] ts)) (resolve b (app [] us)) ≡ differ_all (resolve_all b ts) (resolve_all b us)
row-difference b ts us = ap₂ differ (resolve-app b [] ts) (resolve-app b [] us) ∙ rows-differ (resolve_all b ts) (resolve_all b us)

first-difference : (b : List Binding) (t u : RTerm) (ts us : RTerms) → differ (resolve b (app [] (rcons t ts))) (resolve b (app [] (rcons u us))) ≡ or_else (differ (resolve b t) (resolve b u)) (differ_all (resolve_all b ts) (resolve_all b us))
unfolding differ_all
first-difference b t u ts us = row-difference b (rcons t ts) (rcons u us) ∙ ap₂ differ_all (resolve-cons b t ts) (resolve-cons b u us)

-- ---- the rules

names_same : (f : List ℕ) (l r : RTerms) → differ (app f l) (app f r) ≡ differ_all l r
unfolding differ
names_same f l r = passed (same_name f f) (name-refl f) (differ_all l r)

-- to begin with: two terms are two rows of one
pub rows-begin : (b : List Binding) (t u : RTerm) → unify b t u ≡ unify_rows b (rcons t rnil) (rcons u rnil)
unfolding unify_rows
rows-begin b t u = unify-alike b t u (app [] (rcons t rnil)) (app [] (rcons u rnil)) (λ newer. sym (first (newer ++ b)))
  where
    first : (b1 : List Binding) → differ (resolve b1 (app [] (rcons t rnil))) (resolve b1 (app [] (rcons u rnil))) ≡ differ (resolve b1 t) (resolve b1 u)
    first b1 = first-difference b1 t u rnil rnil ∙ (ap (or_else (differ (resolve b1 t) (resolve b1 u))) (ap₂ differ_all (resolve-nil b1) (resolve-nil b1) ∙ differ-all-refl rnil) ∙ or_same (differ (resolve b1 t) (resolve b1 u)))

-- done: nothing is left
pub rows-done : (b : List Binding) → unify_rows b rnil rnil ≡ some b
unfolding unify_rows bound
rows-done b = one-round b (app [] rnil) (app [] rnil) same (row-difference b rnil rnil ∙ differ-all-refl (resolve_all b rnil))

-- rows that are equal already unify with no binding, and rows that do are equal
pub rows-equal : (b : List Binding) (ts us : RTerms) → resolve b (app [] ts) ≡ resolve b (app [] us) → unify_rows b ts us ≡ some b
unfolding unify_rows bound
rows-equal b ts us e = one-round b (app [] ts) (app [] us) same (ap (λ (x : RTerm). differ x (resolve b (app [] us))) e ∙ differ-refl (resolve b (app [] us)))

pub equal-rows : (b : List Binding) (ts us : RTerms) → unify_rows b ts us ≡ some b → resolve b (app [] ts) ≡ resolve b (app [] us)
unfolding unify_rows
equal-rows b ts us e = (unify-some b (app [] ts) (app [] us) b e).equal

module _ (b : List Binding) (t u : RTerm) (ts us : RTerms) where
  -- same: two terms that are equal already
  pub rows_same : resolve b t ≡ resolve b u → unify_rows b (rcons t ts) (rcons u us) ≡ unify_rows b ts us
  unfolding unify_rows or_else
  rows_same e = unify-alike b (app [] (rcons t ts)) (app [] (rcons u us)) (app [] ts) (app [] us) (λ newer. alike newer (newer ++ b) ((grows-more newer b).stays_equal t u e))
    where
      alike : (newer b1 : List Binding) → resolve b1 t ≡ resolve b1 u → differ (resolve b1 (app [] (rcons t ts))) (resolve b1 (app [] (rcons u us))) ≡ differ (resolve b1 (app [] ts)) (resolve b1 (app [] us))
      alike newer b1 q = first-difference b1 t u ts us ∙ (ap (λ (d : Difference). or_else d (differ_all (resolve_all b1 ts) (resolve_all b1 us))) (ap (λ (x : RTerm). differ x (resolve b1 u)) q ∙ differ-refl (resolve b1 u)) ∙ sym (row-difference b1 ts us))

  -- open: two names that are the same, with as many arguments
  pub rows-open : (f : List ℕ) (l r : RTerms) → resolve b t ≡ resolve b (app f l) → resolve b u ≡ resolve b (app f r) → count l ≡ count r → unify_rows b (rcons t ts) (rcons u us) ≡ unify_rows b (followed l ts) (followed r us)
  unfolding unify_rows
  rows-open f l r p q c = unify-alike b (app [] (rcons t ts)) (app [] (rcons u us)) (app [] (followed l ts)) (app [] (followed r us)) (λ newer. alike (newer ++ b) ((grows-more newer b).stays_equal t (app f l) p) ((grows-more newer b).stays_equal u (app f r) q))
    where
      inner : (b1 : List Binding) → resolve b1 t ≡ resolve b1 (app f l) → resolve b1 u ≡ resolve b1 (app f r) → differ (resolve b1 t) (resolve b1 u) ≡ differ_all (resolve_all b1 l) (resolve_all b1 r)
      inner b1 x y = ap₂ differ (x ∙ resolve-app b1 f l) (y ∙ resolve-app b1 f r) ∙ names_same f (resolve_all b1 l) (resolve_all b1 r)

      alike : (b1 : List Binding) → resolve b1 t ≡ resolve b1 (app f l) → resolve b1 u ≡ resolve b1 (app f r) → differ (resolve b1 (app [] (rcons t ts))) (resolve b1 (app [] (rcons u us))) ≡ differ (resolve b1 (app [] (followed l ts))) (resolve b1 (app [] (followed r us)))
      alike b1 x y =
          first-difference b1 t u ts us
          ∙ (ap (λ (d : Difference). or_else d (differ_all (resolve_all b1 ts) (resolve_all b1 us))) (inner b1 x y)
          ∙ (sym (differ-followed (resolve_all b1 l) (resolve_all b1 r) (resolve_all b1 ts) (resolve_all b1 us) (count-resolve b1 l ∙ (c ∙ sym (count-resolve b1 r))))
          ∙ (ap₂ differ_all (sym (resolve-followed b1 l ts)) (sym (resolve-followed b1 r us)) ∙ sym (row-difference b1 (followed l ts) (followed r us)))))

-- clash: two names that differ, or have different numbers of arguments
pub tail-of : (t u : RTerm) (ts us : RTerms) → app [] (rcons t ts) ≡ app [] (rcons u us) → t ≡ u
tail-of t u ts us e = cc

name-of-app : (f g : List ℕ) (l r : RTerms) → app f l ≡ app g r → f ≡ g
name-of-app f g l r e = cc

pub args-of-app : (f g : List ℕ) (l r : RTerms) → app f l ≡ app g r → l ≡ r
args-of-app f g l r e = cc

stands : (a : Bool) → T a → (d : Difference) → cond a clash d ≡ clash
stands true h d = refl
stands false h d = absurd h

mixed-clash-left : (v : Variable) (g : List ℕ) (r : RTerms) → T (occurs_in v r) → differ (var v) (app g r) ≡ clash
unfolding differ differ_mixed
mixed-clash-left v g r h = stands (occurs_in v r) h (apart v (app g r))

mixed-clash-right : (v : Variable) (f : List ℕ) (l : RTerms) → T (occurs_in v l) → differ (app f l) (var v) ≡ clash
unfolding differ differ_mixed
mixed-clash-right v f l h = stands (occurs_in v l) h (apart v (app f l))

replaced : (v : Variable) (s : RTerm) → replace v s (var v) ≡ s
replaced v s = go (same_variable v v) (variable-refl v)
  where
    go : (a : Bool) → T a → cond a s (var v) ≡ s
    go true h = refl
    go false h = absurd h

-- a variable bound to a term in which it does not stand is equal to it
pub left-bound : (b : List Binding) (t u : RTerm) (v : Variable) → resolve b t ≡ var v → (T (occurs v (resolve b u)) → ⊥) → resolve (record { variable = v; term = resolve b u } ∷ b) t ≡ resolve (record { variable = v; term = resolve b u } ∷ b) u
unfolding resolve
left-bound b t u v p z = ap (replace v (resolve b u)) p ∙ (replaced v (resolve b u) ∙ sym (replace-away v (resolve b u) (resolve b u) z))

pub right-bound : (b : List Binding) (t u : RTerm) (v : Variable) → resolve b u ≡ var v → (T (occurs v (resolve b t)) → ⊥) → resolve (record { variable = v; term = resolve b t } ∷ b) t ≡ resolve (record { variable = v; term = resolve b t } ∷ b) u
unfolding resolve
right-bound b t u v p z = replace-away v (resolve b t) (resolve b t) z ∙ sym (ap (replace v (resolve b t)) p ∙ replaced v (resolve b t))

module _ (b : List Binding) (t u : RTerm) (ts us : RTerms) where
  -- what unifies two rows makes their first terms equal
  first-equal : (b1 : List Binding) → unify b (app [] (rcons t ts)) (app [] (rcons u us)) ≡ some b1 → (newer : List Binding) × (resolve newer (resolve b t) ≡ resolve newer (resolve b u))
  first-equal b1 e =
      let m : MostGeneral b (app [] (rcons t ts)) (app [] (rcons u us)) b1 = unify-some b (app [] (rcons t ts)) (app [] (rcons u us)) b1 e in
      let q : resolve (m.newer ++ b) (app [] (rcons t ts)) ≡ resolve (m.newer ++ b) (app [] (rcons u us)) = subst (λ (x : List Binding). resolve x (app [] (rcons t ts)) ≡ resolve x (app [] (rcons u us))) m.extends m.equal in
      let at : (x : RTerm) (xs : RTerms) → resolve (m.newer ++ b) (app [] (rcons x xs)) ≡ app [] (rcons (resolve (m.newer ++ b) x) (resolve_all (m.newer ++ b) xs)) = (λ x xs. resolve-app (m.newer ++ b) [] (rcons x xs) ∙ ap (app []) (resolve-cons (m.newer ++ b) x xs)) in
      (m.newer, sym (resolve-append m.newer b t) ∙ (tail-of (resolve (m.newer ++ b) t) (resolve (m.newer ++ b) u) (resolve_all (m.newer ++ b) ts) (resolve_all (m.newer ++ b) us) (sym (at t ts) ∙ (q ∙ at u us)) ∙ resolve-append m.newer b u))

  pub rows-clash : (f g : List ℕ) (l r : RTerms) → resolve b t ≡ app f l → resolve b u ≡ app g r → (f ≡ g → count l ≡ count r → ⊥) → unify_rows b (rcons t ts) (rcons u us) ≡ none
  unfolding unify_rows
  rows-clash f g l r p q z = go (unify b (app [] (rcons t ts)) (app [] (rcons u us))) refl
    where
      go : (o : Option (List Binding)) → unify b (app [] (rcons t ts)) (app [] (rcons u us)) ≡ o → o ≡ none
      go none e = refl
      go (some b1) e =
          let m : (newer : List Binding) × (resolve newer (resolve b t) ≡ resolve newer (resolve b u)) = first-equal b1 e in
          let k : app f (resolve_all m.0 l) ≡ app g (resolve_all m.0 r) = sym (resolve-app m.0 f l) ∙ (ap (resolve m.0) (sym p) ∙ (m.1 ∙ (ap (resolve m.0) q ∙ resolve-app m.0 g r))) in
          absurd (z (name-of-app f g (resolve_all m.0 l) (resolve_all m.0 r) k) (sym (count-resolve m.0 l) ∙ (ap count (args-of-app f g (resolve_all m.0 l) (resolve_all m.0 r) k) ∙ count-resolve m.0 r)))

  clashing : differ (resolve b t) (resolve b u) ≡ clash → unify_rows b (rcons t ts) (rcons u us) ≡ none
  unfolding unify_rows or_else bound
  clashing e = one-round b (app [] (rcons t ts)) (app [] (rcons u us)) clash (first-difference b t u ts us ∙ ap (λ (d : Difference). or_else d (differ_all (resolve_all b ts) (resolve_all b us))) e)

  -- occurs: a variable beside a term with arguments in which it stands
  pub rows-occurs-left : (v : Variable) (g : List ℕ) (r : RTerms) → resolve b t ≡ var v → resolve b u ≡ app g r → T (occurs_in v r) → unify_rows b (rcons t ts) (rcons u us) ≡ none
  rows-occurs-left v g r p q h = clashing (ap₂ differ p q ∙ mixed-clash-left v g r h)

  pub rows-occurs-right : (v : Variable) (f : List ℕ) (l : RTerms) → resolve b t ≡ app f l → resolve b u ≡ var v → T (occurs_in v l) → unify_rows b (rcons t ts) (rcons u us) ≡ none
  rows-occurs-right v f l p q h = clashing (ap₂ differ p q ∙ mixed-clash-right v f l h)

  -- bind: the first difference is bound away
  begin : (v : Variable) (s : RTerm) → differ (resolve b t) (resolve b u) ≡ apart v s → unify_rows b (rcons t ts) (rcons u us) ≡ unify_rows (record { variable = v; term = s } ∷ b) (rcons t ts) (rcons u us)
  unfolding unify_rows or_else bound
  begin v s e = one-round b (app [] (rcons t ts)) (app [] (rcons u us)) (apart v s) (first-difference b t u ts us ∙ ap (λ (d : Difference). or_else d (differ_all (resolve_all b ts) (resolve_all b us))) e)

  bound-away : (v : Variable) (s : RTerm) → differ (resolve b t) (resolve b u) ≡ apart v s → resolve (record { variable = v; term = s } ∷ b) t ≡ resolve (record { variable = v; term = s } ∷ b) u → unify_rows b (rcons t ts) (rcons u us) ≡ unify_rows (record { variable = v; term = s } ∷ b) ts us
  bound-away v s e q = begin v s e ∙ rows_same (record { variable = v; term = s } ∷ b) t u ts us q

  pub rows-bind-left : (v : Variable) → resolve b t ≡ var v → differ (var v) (resolve b u) ≡ apart v (resolve b u) → (T (occurs v (resolve b u)) → ⊥) → unify_rows b (rcons t ts) (rcons u us) ≡ unify_rows (record { variable = v; term = resolve b u } ∷ b) ts us
  rows-bind-left v p e z = bound-away v (resolve b u) (ap (λ (x : RTerm). differ x (resolve b u)) p ∙ e) (left-bound b t u v p z)

  pub rows-bind-right : (v : Variable) → resolve b u ≡ var v → differ (resolve b t) (var v) ≡ apart v (resolve b t) → (T (occurs v (resolve b t)) → ⊥) → unify_rows b (rcons t ts) (rcons u us) ≡ unify_rows (record { variable = v; term = resolve b t } ∷ b) ts us
  rows-bind-right v p e z = bound-away v (resolve b t) (ap (differ (resolve b t)) p ∙ e) (right-bound b t u v p z)

-- ---- which variable is bound

not_same : (v w : Variable) → (T (same_variable v w) → ⊥) → (d : Difference) → cond (same_variable v w) same d ≡ d
not_same v w z d = go (same_variable v w) z
  where
    go : (a : Bool) → (T a → ⊥) → cond a same d ≡ d
    go true k = absurd (k tt)
    go false k = refl

not-clash : (a : Bool) → (T a → ⊥) → (d : Difference) → cond a clash d ≡ d
not-clash true z d = absurd (z tt)
not-clash false z d = refl

-- a variable that does not stand in a term, and comes after it where that is a variable
pub left-is-bound : (v : Variable) (s : RTerm) → (T (occurs v s) → ⊥) → ((w : Variable) → s ≡ var w → is_later v w ≡ true) → differ (var v) s ≡ apart v s
unfolding differ differ_variables differ_mixed
left-is-bound v (var w) z l = not_same v w z (cond (is_later v w) (apart v (var w)) (apart w (var v))) ∙ ap (λ (a : Bool). cond a (apart v (var w)) (apart w (var v))) (l w refl)
left-is-bound v (app f ts) z l = not-clash (occurs_in v ts) z (apart v (app f ts))

pub right-is-bound : (v : Variable) (s : RTerm) → (T (occurs v s) → ⊥) → ((w : Variable) → s ≡ var w → is_later w v ≡ false) → differ s (var v) ≡ apart v s
unfolding differ differ_variables differ_mixed
right-is-bound v (var w) z l = not_same w v (λ h. z (variable-sym w v h)) (cond (is_later w v) (apart w (var v)) (apart v (var w))) ∙ ap (λ (a : Bool). cond a (apart w (var v)) (apart v (var w))) (l w refl)
right-is-bound v (app f ts) z l = not-clash (occurs_in v ts) z (apart v (app f ts))

-- by cells: the later variable has the higher cell
later-by : (a b c d : ℕ) → (c < a) ⊎ ((c ≡ a) × (d < b)) → (ltb c a || (eqb c a && ltb d b)) ≡ true
later-by a b c d (inl h) = ap (λ (x : Bool). x || (eqb c a && ltb d b)) (lt-ltb c a h)
later-by a b c d (inr h) = go (ltb c a) (eqb c a) (ltb d b) (eq-eqb c a h.0) (lt-ltb d b h.1)
  where
    go : (x y z : Bool) → y ≡ true → z ≡ true → (x || (y && z)) ≡ true
    go true y z p q = refl
    go false y z p q = ap₂ ◌&&◌ p q

pub later-cell : (x y : ℕ) → y < x → is_later (variable_of x) (variable_of y) ≡ true
later-cell x y l = later-by (x / copy_cells) (x % copy_cells) (y / copy_cells) (y % copy_cells) (go (ltb (y / copy_cells) (x / copy_cells)) refl)
  where
    go : (a : Bool) → ltb (y / copy_cells) (x / copy_cells) ≡ a → (y / copy_cells < x / copy_cells) ⊎ ((y / copy_cells ≡ x / copy_cells) × (y % copy_cells < x % copy_cells))
    go true e = inl (ltb-true (y / copy_cells) (x / copy_cells) e)
    go false e = let h : x / copy_cells ≤ y / copy_cells = ltb-false (y / copy_cells) (x / copy_cells) e in inr (omega arith, omega arith)

earlier-by : (a b c d : ℕ) → a ≤ c → (c ≡ a → b ≤ d) → (ltb c a || (eqb c a && ltb d b)) ≡ false
earlier-by a b c d h k = ap (λ (x : Bool). x || (eqb c a && ltb d b)) (le-ltb c a h) ∙ go (eqb c a) refl
  where
    go : (y : Bool) → eqb c a ≡ y → (y && ltb d b) ≡ false
    go true e = le-ltb d b (k (eqb-true c a e))
    go false e = refl

pub earlier-cell : (x y : ℕ) → y < x → is_later (variable_of y) (variable_of x) ≡ false
earlier-cell x y l = earlier-by (y / copy_cells) (y % copy_cells) (x / copy_cells) (x % copy_cells) (omega arith) (λ e. omega arith)

-- first terms that are the same with the bindings put in
pub rows-first : (b : List Binding) (t u t' u' : RTerm) (ts us : RTerms) → resolve b t ≡ resolve b t' → resolve b u ≡ resolve b u' → unify_rows b (rcons t ts) (rcons u us) ≡ unify_rows b (rcons t' ts) (rcons u' us)
unfolding unify_rows
rows-first b t u t' u' ts us p q = unify-alike b (app [] (rcons t ts)) (app [] (rcons u us)) (app [] (rcons t' ts)) (app [] (rcons u' us)) (λ newer. alike (newer ++ b) ((grows-more newer b).stays_equal t t' p) ((grows-more newer b).stays_equal u u' q))
  where
    alike : (b1 : List Binding) → resolve b1 t ≡ resolve b1 t' → resolve b1 u ≡ resolve b1 u' → differ (resolve b1 (app [] (rcons t ts))) (resolve b1 (app [] (rcons u us))) ≡ differ (resolve b1 (app [] (rcons t' ts))) (resolve b1 (app [] (rcons u' us)))
    alike b1 x y = first-difference b1 t u ts us ∙ (ap (λ (d : Difference). or_else d (differ_all (resolve_all b1 ts) (resolve_all b1 us))) (ap₂ differ x y) ∙ sym (first-difference b1 t' u' ts us))
