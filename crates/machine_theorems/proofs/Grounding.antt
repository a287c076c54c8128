-- What is known ground is closed in the run: the modes' tests and effects, carried over to a copy under bindings (Pfenning, lecture 17, lemmas 17.1
-- and 17.2, and exercise 17.3 for equations).
use Prim.Native.Nat.{ℕ, zero, suc}
use native.Mathlib.Omega.{arith}
use mathlib.Core.Path.{◌≡◌, refl, sym, ap, ◌∙◌, subst, subst⁻¹}
use mathlib.Core.Bool.{Bool, true, false, not, ◌&&◌, ◌||◌}
use mathlib.Core.List.{List, [], ◌∷◌}
use mathlib.Core.Option.{Option, none, some}
use mathlib.Core.Logic.{◌⊎◌, inl, inr}
use lib.Dec.{T, eqb, eqb_refl}
use lib.ListN.{length, set, replicate}
use Rattle.syntax.specs.Limits.{variables}
use Rattle.syntax.specs.Terms.{Term, Terms, variable, compound, nil, cons, arity, Atom, term_of, Mark, Declaration, same_predicate, same_name}
use Rattle.mode_rules.specs.Modes.{Known, knows, none_ground, is_ground, are_ground, ground_term, ground_terms, ground_both, equate_variable, equate_same, equate, equate_all, further, go_over, passes, settle, marks_of, or_no_marks, marks_for, same_mark, list_of, open_byte, if_marked, OpenArgument, first_open, faulty, one_more, count_faulty, ground_if, ground_marked, in_both}
use Rattle.mode_rules.proofs.Terms.{is_none, ground-none}
use Rattle.mode_theorems.proofs.Bodies.{both-knows}
use Rattle.machine.specs.Substitution.{RTerm, RTerms, var, app, rnil, rcons, copied, copied_all, closed, closed_all, Binding, resolve}
use Rattle.machine.proofs.Tests.{both, and, either, name-refl}
use Rattle.machine_theorems.proofs.Terms.{resolve_all, resolve-app, resolve-nil, resolve-cons, Grows}

-- ---- closed under bindings

abbrev pub Closed : List Binding → RTerm → Type 0
Closed b t = T (closed (resolve b t))

abbrev pub ClosedAll : List Binding → RTerms → Type 0
ClosedAll b ts = T (closed_all (resolve_all b ts))

closed-app : (b : List Binding) (f : List ℕ) (ts : RTerms) → ClosedAll b ts → Closed b (app f ts)
closed-app b f ts h = subst (λ (x : RTerm). T (closed x)) (sym (resolve-app b f ts)) h

app-closed : (b : List Binding) (f : List ℕ) (ts : RTerms) → Closed b (app f ts) → ClosedAll b ts
app-closed b f ts h = subst (λ (x : RTerm). T (closed x)) (resolve-app b f ts) h

closed-cons : (b : List Binding) (t : RTerm) (ts : RTerms) → Closed b t → ClosedAll b ts → ClosedAll b (rcons t ts)
closed-cons b t ts h k = subst (λ (x : RTerms). T (closed_all x)) (sym (resolve-cons b t ts)) (and (closed (resolve b t)) (closed_all (resolve_all b ts)) h k)

cons-closed : (b : List Binding) (t : RTerm) (ts : RTerms) → ClosedAll b (rcons t ts) → Closed b t × ClosedAll b ts
cons-closed b t ts h = both (closed (resolve b t)) (closed_all (resolve_all b ts)) (subst (λ (x : RTerms). T (closed_all x)) (resolve-cons b t ts) h)

closed-nil : (b : List Binding) → ClosedAll b rnil
closed-nil b = subst (λ (x : RTerms). T (closed_all x)) (sym (resolve-nil b)) tt

-- ---- equal under bindings

-- two terms, or two lists, are equal after the bindings
abbrev pub Same : List Binding → RTerm → RTerm → Type 0
Same b t u = resolve b t ≡ resolve b u

abbrev pub SameAll : List Binding → RTerms → RTerms → Type 0
SameAll b ts us = resolve_all b ts ≡ resolve_all b us

same-closed : (b : List Binding) (t u : RTerm) → Same b t u → Closed b t → Closed b u
same-closed b t u e h = subst (λ (x : RTerm). T (closed x)) e h

pub app-same : (b : List Binding) (f g : List ℕ) (ts us : RTerms) → Same b (app f ts) (app g us) → (f ≡ g) × SameAll b ts us
app-same b f g ts us e = go (sym (resolve-app b f ts) ∙ (e ∙ resolve-app b g us))
  where
    name : (x y : RTerms) → app f x ≡ app g y → f ≡ g
    name x y p = cc

    args : (x y : RTerms) → app f x ≡ app g y → x ≡ y
    args x y p = cc

    go : app f (resolve_all b ts) ≡ app g (resolve_all b us) → (f ≡ g) × SameAll b ts us
    go p = (name (resolve_all b ts) (resolve_all b us) p, args (resolve_all b ts) (resolve_all b us) p)

pub cons_same : (b : List Binding) (t u : RTerm) (ts us : RTerms) → SameAll b (rcons t ts) (rcons u us) → Same b t u × SameAll b ts us
cons_same b t u ts us e = go (sym (resolve-cons b t ts) ∙ (e ∙ resolve-cons b u us))
  where
    head : (x y : RTerm) (xs ys : RTerms) → rcons x xs ≡ rcons y ys → x ≡ y
    head x y xs ys p = cc

    tail : (x y : RTerm) (xs ys : RTerms) → rcons x xs ≡ rcons y ys → xs ≡ ys
    tail x y xs ys p = cc

    go : rcons (resolve b t) (resolve_all b ts) ≡ rcons (resolve b u) (resolve_all b us) → Same b t u × SameAll b ts us
    go p = (head (resolve b t) (resolve b u) (resolve_all b ts) (resolve_all b us) p, tail (resolve b t) (resolve b u) (resolve_all b ts) (resolve_all b us) p)

pub nil-cons : (b : List Binding) (u : RTerm) (us : RTerms) → SameAll b rnil (rcons u us) → ⊥
nil-cons b u us e = go (resolve b u) (resolve_all b us) (sym (resolve-nil b) ∙ (e ∙ resolve-cons b u us))
  where
    go : (x : RTerm) (xs : RTerms) → rnil ≡ rcons x xs → ⊥
    go x xs p = let z : ◌≡◌ {A = ℕ} 0 1 = cc in omega arith

-- equal lists have the same number of arguments
pub same-arity : (b : List Binding) (c d : ℕ) (ts us : Terms) → SameAll b (copied_all c ts) (copied_all d us) → arity ts ≡ arity us
same-arity b c d nil nil e = refl
same-arity b c d nil (cons u us) e = absurd (nil-cons b (copied d u) (copied_all d us) e)
same-arity b c d (cons t ts) nil e = absurd (nil-cons b (copied c t) (copied_all c ts) (sym e))
same-arity b c d (cons t ts) (cons u us) e = ap suc (same-arity b c d ts us (cons_same b (copied c t) (copied d u) (copied_all c ts) (copied_all d us) e).1)

-- ---- known ground

-- each variable known ground is closed in the copy
abbrev pub Sound : Known → ℕ → List Binding → Type 0
Sound τ c b = (i : ℕ) → T (knows τ i) → Closed b (var (record { copy = c; number = i }))

pub sound-grows : (τ : Known) (c : ℕ) {b b1 : List Binding} → Grows b b1 → Sound τ c b → Sound τ c b1
sound-grows τ c g s = λ i h. g.stays_closed (var (record { copy = c; number = i })) (s i h)

replicate-false : (n i : ℕ) → T (knows (replicate n false) i) → ⊥
replicate-false zero i h = h
replicate-false (suc n) zero h = h
replicate-false (suc n) (suc i) h = replicate-false n i h

pub sound-nothing : (c : ℕ) (b : List Binding) → Sound none_ground c b
unfolding none_ground
sound-nothing c b = λ i h. absurd (replicate-false variables i h)

set_known : (τ : Known) (i j : ℕ) → T (knows (set τ i true) j) → (j ≡ i) ⊎ T (knows τ j)
set_known [] i j h = inr h
set_known (x ∷ xs) zero zero h = inl refl
set_known (x ∷ xs) zero (suc j) h = inr h
set_known (x ∷ xs) (suc i) zero h = inr h
set_known (x ∷ xs) (suc i) (suc j) h = elim (set_known xs i j h) [ inl e ↦ inl (ap suc e) | inr k ↦ inr k ]

mutual
  unfolding is_ground

  pub ground-closed : (τ : Known) (c : ℕ) (b : List Binding) → Sound τ c b → (t : Term) → T (is_ground τ t) → Closed b (copied c t)
  ground-closed τ c b s (variable i at) h = s i h
  ground-closed τ c b s (compound at f ts) h = closed-app b f (copied_all c ts) (all-ground-closed τ c b s ts h)

  all-ground-closed : (τ : Known) (c : ℕ) (b : List Binding) → Sound τ c b → (ts : Terms) → T (are_ground τ ts) → ClosedAll b (copied_all c ts)
  all-ground-closed τ c b s nil h = closed-nil b
  all-ground-closed τ c b s (cons t ts) h =
      closed-cons b (copied c t) (copied_all c ts) (ground-closed τ c b s t (both (is_ground τ t) (are_ground τ ts) h).0) (all-ground-closed τ c b s ts (both (is_ground τ t) (are_ground τ ts) h).1)

sound-set : (τ : Known) (c : ℕ) (b : List Binding) (i : ℕ) → Sound τ c b → Closed b (var (record { copy = c; number = i })) → Sound (set τ i true) c b
sound-set τ c b i s k = λ j h. go j (set_known τ i j h)
  where
    go : (j : ℕ) → (j ≡ i) ⊎ T (knows τ j) → Closed b (var (record { copy = c; number = j }))
    go j (inl e) = subst (λ (x : ℕ). Closed b (var (record { copy = c; number = x }))) (sym e) k
    go j (inr h) = s j h

mutual
  unfolding ground_term

  sound-term : (t : Term) (τ : Known) (c : ℕ) (b : List Binding) → Sound τ c b → Closed b (copied c t) → Sound (ground_term t τ) c b
  sound-term (variable i at) τ c b s h = sound-set τ c b i s h
  sound-term (compound at f ts) τ c b s h = sound-terms ts τ c b s (app-closed b f (copied_all c ts) h)

  sound-terms : (ts : Terms) (τ : Known) (c : ℕ) (b : List Binding) → Sound τ c b → ClosedAll b (copied_all c ts) → Sound (ground_terms ts τ) c b
  sound-terms nil τ c b s h = s
  sound-terms (cons t ts) τ c b s h =
      sound-terms ts (ground_term t τ) c b (sound-term t τ c b s (cons-closed b (copied c t) (copied_all c ts) h).0) (cons-closed b (copied c t) (copied_all c ts) h).1

-- ---- equations

sound-both : (t u : Term) (τ : Known) (c : ℕ) (b : List Binding) → Sound τ c b → Same b (copied c t) (copied c u) → Sound (equate_variable t u τ) c b
unfolding equate_variable ground_both
sound-both t u τ c b s e = go (is_ground τ t || is_ground τ u) (λ h. either (is_ground τ t) (is_ground τ u) h)
  where
    sides : T (is_ground τ t) ⊎ T (is_ground τ u) → Closed b (copied c t) × Closed b (copied c u)
    sides (inl h) = (ground-closed τ c b s t h, same-closed b (copied c t) (copied c u) e (ground-closed τ c b s t h))
    sides (inr h) = (same-closed b (copied c u) (copied c t) (sym e) (ground-closed τ c b s u h), ground-closed τ c b s u h)

    go : (x : Bool) → (T x → T (is_ground τ t) ⊎ T (is_ground τ u)) → Sound (ground_both x t u τ) c b
    go true k = sound-term u (ground_term t τ) c b (sound-term t τ c b s (sides (k tt)).0) (sides (k tt)).1
    go false k = s

pub same-predicate : (f g : List ℕ) (m n : ℕ) → f ≡ g → m ≡ n → T (same_predicate f m g n)
same-predicate f g m n p q =
    subst (λ (x : ℕ). T (same_predicate f m g x)) q (subst (λ (x : List ℕ). T (same_predicate f m x m)) p (and (eqb m m) (same_name f f) (eqb_refl m) (name-refl f)))

sound-same : (x : Bool) (pairs : Known → Known) (τ : Known) (c : ℕ) (b : List Binding) → T x → Sound (pairs τ) c b → Sound (equate_same x pairs τ) c b
unfolding equate_same
sound-same true pairs τ c b h s = s
sound-same false pairs τ c b h s = absurd h

mutual
  unfolding equate

  sound-equate : (t u : Term) (τ : Known) (c : ℕ) (b : List Binding) → Sound τ c b → Same b (copied c t) (copied c u) → Sound (equate t u τ) c b
  sound-equate (variable i at) u τ c b s e = sound-both (variable i at) u τ c b s e
  sound-equate (compound at f ts) (variable j bt) τ c b s e = sound-both (compound at f ts) (variable j bt) τ c b s e
  sound-equate (compound at f ts) (compound bt g us) τ c b s e =
      sound-same (same_predicate f (arity ts) g (arity us)) (λ σ. equate_all ts us σ) τ c b
      (same-predicate f g (arity ts) (arity us) (app-same b f g (copied_all c ts) (copied_all c us) e).0 (same-arity b c c ts us (app-same b f g (copied_all c ts) (copied_all c us) e).1))
      (sound-pairs ts us τ c b s (app-same b f g (copied_all c ts) (copied_all c us) e).1)

  sound-pairs : (ts us : Terms) (τ : Known) (c : ℕ) (b : List Binding) → Sound τ c b → SameAll b (copied_all c ts) (copied_all c us) → Sound (equate_all ts us τ) c b
  sound-pairs nil nil τ c b s e = s
  sound-pairs nil (cons u us) τ c b s e = absurd (nil-cons b (copied c u) (copied_all c us) e)
  sound-pairs (cons t ts) nil τ c b s e = absurd (nil-cons b (copied c t) (copied_all c ts) (sym e))
  sound-pairs (cons t ts) (cons u us) τ c b s e =
      sound-pairs ts us (equate t u τ) c b (sound-equate t u τ c b s (cons_same b (copied c t) (copied c u) (copied_all c ts) (copied_all c us) e).0) (cons_same b (copied c t) (copied c u) (copied_all c ts) (copied_all c us) e).1

-- each pass begins from what the last one left
sound-passes : (t u : Term) (k : ℕ) (τ : Known) (c : ℕ) (b : List Binding) → Sound τ c b → Same b (copied c t) (copied c u) → Sound (passes k t u τ) c b
unfolding passes go_over
sound-passes t u zero τ c b s e = s
sound-passes t u (suc k) τ c b s e =
    by (further τ (equate t u τ)) (sound-equate t u τ c b s e) (sound-passes t u k (equate t u τ) c b (sound-equate t u τ c b s e) e)
  where
    by : (x : Bool) → Sound (equate t u τ) c b → Sound (passes k t u (equate t u τ)) c b
        → Sound (elim x as (λ _. Known) [ true ↦ passes k t u (equate t u τ) | false ↦ equate t u τ ]) c b
    by true last more = more
    by false last more = last

pub sound-settle : (t u : Term) (τ : Known) (c : ℕ) (b : List Binding) → Sound τ c b → Same b (copied c t) (copied c u) → Sound (settle t u τ) c b
unfolding settle
sound-settle t u τ c b s e = sound-passes t u variables τ c b s e

-- what is known after both sides of a bracket is known after each of them
pub sound-left : (σ ρ : Known) (c : ℕ) (b : List Binding) → Sound σ c b → Sound (in_both σ ρ) c b
sound-left σ ρ c b s i t = s i (both (knows σ i) (knows ρ i) (subst T (both-knows σ ρ i) t)).0

pub sound-right : (σ ρ : Known) (c : ℕ) (b : List Binding) → Sound ρ c b → Sound (in_both σ ρ) c b
sound-right σ ρ c b s i t = s i (both (knows σ i) (knows ρ i) (subst T (both-knows σ ρ i) t)).1

-- ---- marked arguments

-- each argument with the mark is closed in the copy
unfoldable pub Marked : Mark → List Binding → ℕ → List Mark → List Term → Type 0
Marked m b c [] ts = Unit {0}
Marked m b c (k ∷ ks) [] = Unit {0}
Marked m b c (k ∷ ks) (t ∷ ts) = (T (same_mark m k) → Closed b (copied c t)) × Marked m b c ks ts

pub marked-grows : (m : Mark) {b b1 : List Binding} (c : ℕ) (ks : List Mark) (ts : List Term) → Grows b b1 → Marked m b c ks ts → Marked m b1 c ks ts
unfolding Marked
marked-grows m c [] ts g h = tt
marked-grows m c (k ∷ ks) [] g h = tt
marked-grows m c (k ∷ ks) (t ∷ ts) g h = (λ l. g.stays_closed (copied c t) (h.0 l), marked-grows m c ks ts g h.1)

-- none is at fault where the mode test finds none
pub marked-known : (m : Mark) (τ : Known) (c : ℕ) (b : List Binding) → Sound τ c b → (ks : List Mark) (ts : List Term) (n : ℕ) → first_open m τ ks ts n ≡ none → Marked m b c ks ts
unfolding Marked first_open if_marked
marked-known m τ c b s [] ts n e = tt
marked-known m τ c b s (k ∷ ks) [] n e = tt
marked-known m τ c b s (k ∷ ks) (t ∷ ts) n e =
    go (same_mark m k) (open_byte τ t) (λ l. ground-closed τ c b s t (subst⁻¹ T (ground-none τ t) l)) (λ l. marked-known m τ c b s ks ts (suc n) l) e
  where
    go : (x : Bool) (o : Option ℕ) → (T (is_none o) → Closed b (copied c t)) → (first_open m τ ks ts (suc n) ≡ none → Marked m b c ks ts)
        → ◌≡◌ {A = Option OpenArgument} (elim (if_marked x o) as (λ _. Option OpenArgument) [ none ↦ first_open m τ ks ts (suc n) | some i ↦ some (record { argument = n; byte = i }) ]) none
        → (T x → Closed b (copied c t)) × Marked m b c ks ts
    go true none p q l = (λ z. p tt, q l)
    go true (some i) p q l = let z : ◌≡◌ {A = ℕ} 0 1 = cc in absurd (let w : ⊥ = omega arith in w)
    go false o p q l = (λ z. absurd z, q l)

-- and counted they are none
pub marked-count : (m : Mark) (b : List Binding) (c : ℕ) (ks : List Mark) (ts : List Term) → Marked m b c ks ts → count_faulty m (λ (t : Term). closed (resolve b (copied c t))) ks ts ≡ 0
unfolding Marked count_faulty faulty one_more
marked-count m b c [] ts h = refl
marked-count m b c (k ∷ ks) [] h = refl
marked-count m b c (k ∷ ks) (t ∷ ts) h = go (same_mark m k) (closed (resolve b (copied c t))) h.0 (marked-count m b c ks ts h.1)
  where
    go : (x y : Bool) → (T x → T y) → count_faulty m (λ (t : Term). closed (resolve b (copied c t))) ks ts ≡ 0 → one_more (x && not y) (count_faulty m (λ (t : Term). closed (resolve b (copied c t))) ks ts) ≡ 0
    go true true p q = q
    go true false p q = absurd (p tt)
    go false y p q = q

pub sound-marked : (m : Mark) (ks : List Mark) (ts : List Term) (τ : Known) (c : ℕ) (b : List Binding) → Sound τ c b → Marked m b c ks ts → Sound (ground_marked m ks ts τ) c b
unfolding Marked ground_marked ground_if
sound-marked m [] ts τ c b s h = s
sound-marked m (k ∷ ks) [] τ c b s h = s
sound-marked m (k ∷ ks) (t ∷ ts) τ c b s h = sound-marked m ks ts (ground_if (same_mark m k) t τ) c b (go (same_mark m k) h.0) h.1
  where
    go : (x : Bool) → (T x → Closed b (copied c t)) → Sound (ground_if x t τ) c b
    go true p = sound-term t τ c b s (p tt)
    go false p = s

-- from a list of arguments to one that equals it
marked-same : (m : Mark) (b : List Binding) (c d : ℕ) (ks : List Mark) (ts us : Terms) → SameAll b (copied_all c ts) (copied_all d us) → Marked m b c ks (list_of ts) → Marked m b d ks (list_of us)
unfolding Marked
marked-same m b c d [] ts us e h = tt
marked-same m b c d (k ∷ ks) ts nil e h = tt
marked-same m b c d (k ∷ ks) nil (cons u us) e h = absurd (nil-cons b (copied d u) (copied_all d us) e)
marked-same m b c d (k ∷ ks) (cons t ts) (cons u us) e h =
    (λ l. same-closed b (copied c t) (copied d u) (cons_same b (copied c t) (copied d u) (copied_all c ts) (copied_all d us) e).0 (h.0 l), marked-same m b c d ks ts us (cons_same b (copied c t) (copied d u) (copied_all c ts) (copied_all d us) e).1 h.1)

-- the marks depend on the predicate alone
pub marks-same : (ds : List Declaration) (a h : Atom) → a.name ≡ h.name → arity a.args ≡ arity h.args → marks_of ds a ≡ marks_of ds h
unfolding marks_of
marks-same [] a h p q = refl
marks-same (d ∷ ds) a h p q = let r : marks_of ds a ≡ marks_of ds h = marks-same ds a h p q in
    λ i. elim (same_predicate d.name (length d.marks) (p i) (q i)) [ true ↦ some d.marks | false ↦ r i ]

-- from an atom to one that equals it after the bindings, as a call and the head that it unified with
pub marked-across : (ds : List Declaration) (m : Mark) (b : List Binding) (c d : ℕ) (a h : Atom) → Same b (copied c (term_of a)) (copied d (term_of h))
    → Marked m b c (marks_for ds a) (list_of a.args) → Marked m b d (marks_for ds h) (list_of h.args)
unfolding marks_for
marked-across ds m b c d a h e k =
    let s : (a.name ≡ h.name) × SameAll b (copied_all c a.args) (copied_all d h.args) = app-same b a.name h.name (copied_all c a.args) (copied_all d h.args) e in
    let q : marks_for ds a ≡ marks_for ds h = ap or_no_marks (marks-same ds a h s.0 (same-arity b c d a.args h.args s.1)) in
    marked-same m b c d (marks_for ds h) a.args h.args s.1 (subst (λ (ms : List Mark). Marked m b c ms (list_of a.args)) q k)
