-- What the replay accepts are exactly the derivations by leftmost resolution that make the recorded choices, and its answer is the most general one.
use Prim.Native.Nat.{ℕ, suc, ◌<◌}
use native.Mathlib.Omega.{arith}
use mathlib.Core.Path.{◌≡◌, refl, sym, ap, ◌∙◌, subst}
use mathlib.Core.Bool.{Bool, true, false, cond}
use mathlib.Core.List.{List, [], ◌∷◌}
use mathlib.Core.Option.{Option, none, some}
use lib.Dec.{T, ltb, lt→ltb, ltb→lt}
use Rattle.syntax.specs.Limits.{longest_path}
use Rattle.syntax.specs.Terms.{Atom, term_of, Literal, call, equation, truth, falsity, either, Body, Clause, Sheet, Goal}
use Rattle.machine.specs.Substitution.{RTerm, RTerms, var, app, rnil, rcons, copied, Binding, resolve}
use Rattle.machine.specs.Unification.{unify}
use Rattle.machine.specs.Unifiers.{Substitution, apply, apply_all, Unifies, MostGeneral, Unified}
use Rattle.machine.specs.Machine.{Pending, pending, clause_at}
use Rattle.machine_theorems.proofs.Terms.{resolve_all, resolve-app, resolve-nil, resolve-cons, Grows, grows-refl, grows-trans, grows-more}
use Rattle.machine_theorems.proofs.Unifier.{unify-spec, unify-some}
use Rattle.derivations.specs.Workings.{Choice, Numbered, Left, Right, Records, no_more, malformed, next, Resolvent, failed, solved, at_call, at_bracket, unified, met, settled, taken, led, Replayed, answered, stopped, behind, used, finished, replay, begun, record_bytes}
use Rattle.derivations.specs.Derivations.{Derivation, nothing_left, by_truth, by_equation, by_clause, by_left, by_right, GoalDerivation, recorded_then, recorded, put_in, ReplaysExactly}

-- ---- bindings as a substitution

mutual
  is-put-in : (b : List Binding) (t : RTerm) → apply (put_in b) t ≡ resolve b t
  is-put-in b (var v) = refl
  is-put-in b (app f ts) = ap (app f) (all-put-in b ts) ∙ sym (resolve-app b f ts)

  all-put-in : (b : List Binding) (ts : RTerms) → apply_all (put_in b) ts ≡ resolve_all b ts
  all-put-in b rnil = sym (resolve-nil b)
  all-put-in b (rcons t ts) =
      (let e : rcons (apply (put_in b) t) (apply_all (put_in b) ts) ≡ rcons (resolve b t) (resolve_all b ts) = λ i. rcons (is-put-in b t i) (all-put-in b ts i) in e)
      ∙ sym (resolve-cons b t ts)

-- what is equal after some bindings is so after later ones, put in
pub equal-put-in : {b e : List Binding} → Grows b e → (t u : RTerm) → resolve b t ≡ resolve b u → apply (put_in e) t ≡ apply (put_in e) u
equal-put-in {b} {e} g t u q = is-put-in e t ∙ (g.stays_equal t u q ∙ sym (is-put-in e u))

pub unify-grows : {b b1 : List Binding} {t u : RTerm} → MostGeneral b t u b1 → Grows b b1
unify-grows {b} {b1} m = subst (λ (x : List Binding). Grows b x) (sym m.extends) (grows-more m.newer b)

-- ---- a replay that answers, so a derivation

answered-eq : (b c : List Binding) → answered b ≡ answered c → b ≡ c
answered-eq b c e = cc

pub stopped-answered : {i : ℕ} {b : List Binding} → stopped i ≡ answered b → ⊥
stopped-answered e = let z : ◌≡◌ {A = ℕ} 0 1 = cc in omega arith

failed-stops : (sh : Sheet) (rs : Records) → replay sh rs failed ≡ stopped 0
unfolding replay finished led used
failed-stops sh no_more = refl
failed-stops sh malformed = refl
failed-stops sh (next m rs) = refl

pub failed-answers : (sh : Sheet) (rs : Records) (e : List Binding) → replay sh rs failed ≡ answered e → ⊥
failed-answers sh rs e q = stopped-answered (sym (failed-stops sh rs) ∙ q)

-- a record that is used up: what comes of the rest is the answer
pub used-answers : (sh : Sheet) (n : ℕ) (rs : Records) (s : Resolvent) (e : List Binding) → used n s (replay sh rs s) ≡ answered e → replay sh rs s ≡ answered e
unfolding used behind
used-answers sh n rs failed e q = absurd (stopped-answered q)
used-answers sh n rs (solved b) e q = go (replay sh rs (solved b)) q
  where
    go : (r : Replayed) → behind n r ≡ answered e → r ≡ answered e
    go (answered c) p = p
    go (stopped i) p = absurd (stopped-answered p)
used-answers sh n rs (at_call k b c a rest) e q = go (replay sh rs (at_call k b c a rest)) q
  where
    go : (r : Replayed) → behind n r ≡ answered e → r ≡ answered e
    go (answered c) p = p
    go (stopped i) p = absurd (stopped-answered p)
used-answers sh n rs (at_bracket k b c y z rest) e q = go (replay sh rs (at_bracket k b c y z rest)) q
  where
    go : (r : Replayed) → behind n r ≡ answered e → r ≡ answered e
    go (answered c) p = p
    go (stopped i) p = absurd (stopped-answered p)

pub answers-used : (sh : Sheet) (n : ℕ) (rs : Records) (s : Resolvent) (e : List Binding) → replay sh rs s ≡ answered e → used n s (replay sh rs s) ≡ answered e
unfolding used behind
answers-used sh n rs failed e q = absurd (failed-answers sh rs e q)
answers-used sh n rs (solved b) e q = ap (behind n) q
answers-used sh n rs (at_call k b c a rest) e q = ap (behind n) q
answers-used sh n rs (at_bracket k b c y z rest) e q = ap (behind n) q

-- what a replay that answers shows of the literals that it began with
pub record Led (sh : Sheet) (rs : Records) (k : ℕ) (b : List Binding) (lits : List Pending) (e : List Binding) : Type 0 where
  pub choices : List Choice
  pub is : rs ≡ recorded choices
  pub grows : Grows b e
  pub derives : Derivation sh (put_in e) k lits choices

module _ (sh : Sheet) (rs : Records) (e : List Binding)
    (base-complete : (k : ℕ) (b : List Binding) → replay sh rs (solved b) ≡ answered e → Led sh rs k b [] e)
    (base-call : (k : ℕ) (b : List Binding) (c : ℕ) (a : Atom) (rest : List Pending) → replay sh rs (at_call k b c a rest) ≡ answered e
    → Led sh rs k b (record { copy = c; literal = call a } ∷ rest) e)
    (base-bracket : (k : ℕ) (b : List Binding) (c : ℕ) (y z : Body) (rest : List Pending) → replay sh rs (at_bracket k b c y z rest) ≡ answered e
    → Led sh rs k b (record { copy = c; literal = either y z } ∷ rest) e) where
  through : (lits : List Pending) (k : ℕ) (b : List Binding) → replay sh rs (settled k b lits) ≡ answered e → Led sh rs k b lits e
  unfolding settled met unified
  through [] k b q = base-complete k b q
  through (p ∷ rest) k b q = go p.literal (λ b1 x. through rest k b1 x) q
    where
      c : ℕ
      c = p.copy

      go : (l : Literal) → ((b1 : List Binding) → replay sh rs (settled k b1 rest) ≡ answered e → Led sh rs k b1 rest e)
          → replay sh rs (met k b c l rest (λ b1. settled k b1 rest)) ≡ answered e → Led sh rs k b (record { copy = c; literal = l } ∷ rest) e
      go (call a) ih r = base-call k b c a rest r
      go (equation t u) ih r = by (unify b (copied c t) (copied c u)) refl r
        where
          by : (o : Option (List Binding)) → unify b (copied c t) (copied c u) ≡ o → replay sh rs (unified o (λ b1. settled k b1 rest)) ≡ answered e
              → Led sh rs k b (record { copy = c; literal = equation t u } ∷ rest) e
          by none h x = absurd (failed-answers sh rs e x)
          by (some b1) h x =
              let l : Led sh rs k b1 rest e = ih b1 x in
              let m : MostGeneral b (copied c t) (copied c u) b1 = unify-some b (copied c t) (copied c u) b1 h in
              record {
                choices = l.choices;
                is = l.is;
                grows = grows-trans (unify-grows m) l.grows;
                derives = by_equation (equal-put-in l.grows (copied c t) (copied c u) m.equal) l.derives;
              }
      go truth ih r =
          let l : Led sh rs k b rest e = ih b r in
          record { choices = l.choices; is = l.is; grows = l.grows; derives = by_truth l.derives }
      go falsity ih r = absurd (failed-answers sh rs e r)
      go (either y z) ih r = base-bracket k b c y z rest r

-- a record, and what its choice leads to
module _ (sh : Sheet) (rs : Records) (e : List Binding)
    (ih : (lits : List Pending) (k : ℕ) (b : List Binding) → replay sh rs (settled k b lits) ≡ answered e → Led sh rs k b lits e) where
  never : (A : Type 0) → replay sh rs failed ≡ answered e → A
  never A q = absurd (failed-answers sh rs e q)

  call-led : (k : ℕ) (b : List Binding) (c : ℕ) (a : Atom) (rest : List Pending) (m : Choice) → replay sh rs (led sh m (at_call k b c a rest)) ≡ answered e
      → Led sh (next m rs) k b (record { copy = c; literal = call a } ∷ rest) e
  unfolding led taken unified recorded_then
  call-led k b c a rest Left q = never (Led sh (next Left rs) k b (record { copy = c; literal = call a } ∷ rest) e) q
  call-led k b c a rest Right q = never (Led sh (next Right rs) k b (record { copy = c; literal = call a } ∷ rest) e) q
  call-led k b c a rest (Numbered n) q = by (ltb k longest_path) refl q
    where
      Goal-is : Type 0
      Goal-is = Led sh (next (Numbered n) rs) k b (record { copy = c; literal = call a } ∷ rest) e

      by-unify : (cl : Clause) → k < longest_path → clause_at sh n ≡ some cl → (o : Option (List Binding)) → unify b (copied c (term_of a)) (copied (suc k) (term_of cl.head)) ≡ o
          → replay sh rs (unified o (λ b1. settled (suc k) b1 (pending (suc k) cl.body rest))) ≡ answered e → Goal-is
      by-unify cl low there none h x = never Goal-is x
      by-unify cl low there (some b1) h x =
          let l : Led sh rs (suc k) b1 (pending (suc k) cl.body rest) e = ih (pending (suc k) cl.body rest) (suc k) b1 x in
          let m : MostGeneral b (copied c (term_of a)) (copied (suc k) (term_of cl.head)) b1 = unify-some b (copied c (term_of a)) (copied (suc k) (term_of cl.head)) b1 h in
          record {
            choices = Numbered n ∷ l.choices;
            is = ap (next (Numbered n)) l.is;
            grows = grows-trans (unify-grows m) l.grows;
            derives = by_clause low there (equal-put-in l.grows (copied c (term_of a)) (copied (suc k) (term_of cl.head)) m.equal) l.derives;
          }

      by-clause : k < longest_path → (o : Option Clause) → clause_at sh n ≡ o → replay sh rs (taken k b c a rest o) ≡ answered e → Goal-is
      by-clause low none h x = never Goal-is x
      by-clause low (some cl) h x = by-unify cl low h (unify b (copied c (term_of a)) (copied (suc k) (term_of cl.head))) refl x

      by : (t : Bool) → ltb k longest_path ≡ t → replay sh rs (cond t (taken k b c a rest (clause_at sh n)) failed) ≡ answered e → Goal-is
      by true h x = by-clause (ltb→lt k longest_path (subst T (sym h) tt)) (clause_at sh n) refl x
      by false h x = never Goal-is x

  bracket-led : (k : ℕ) (b : List Binding) (c : ℕ) (y z : Body) (rest : List Pending) (m : Choice) → replay sh rs (led sh m (at_bracket k b c y z rest)) ≡ answered e
      → Led sh (next m rs) k b (record { copy = c; literal = either y z } ∷ rest) e
  unfolding led recorded_then
  bracket-led k b c y z rest (Numbered n) q = never (Led sh (next (Numbered n) rs) k b (record { copy = c; literal = either y z } ∷ rest) e) q
  bracket-led k b c y z rest Left q =
      let l : Led sh rs k b (pending c y rest) e = ih (pending c y rest) k b q in
      record { choices = Left ∷ l.choices; is = ap (next Left) l.is; grows = l.grows; derives = by_left l.derives }
  bracket-led k b c y z rest Right q =
      let l : Led sh rs k b (pending c z rest) e = ih (pending c z rest) k b q in
      record { choices = Right ∷ l.choices; is = ap (next Right) l.is; grows = l.grows; derives = by_right l.derives }

pub sound : (sh : Sheet) (rs : Records) (e : List Binding) (lits : List Pending) (k : ℕ) (b : List Binding) → replay sh rs (settled k b lits) ≡ answered e → Led sh rs k b lits e
unfolding replay finished recorded_then led used
sound sh no_more e =
    through sh no_more e
    (λ k b q. (let h : b ≡ e = answered-eq b e q in record { choices = []; is = refl; grows = subst (λ (x : List Binding). Grows b x) h (grows-refl b); derives = nothing_left }))
    (λ k b c a rest q. absurd (stopped-answered q))
    (λ k b c y z rest q. absurd (stopped-answered q))
sound sh malformed e =
    through sh malformed e (λ k b q. absurd (stopped-answered q)) (λ k b c a rest q. absurd (stopped-answered q)) (λ k b c y z rest q. absurd (stopped-answered q))
sound sh (next m rs) e =
    through sh (next m rs) e
    (λ k b q. absurd (stopped-answered q))
    (λ k b c a rest q. call-led sh rs e (sound sh rs e) k b c a rest m (used-answers sh (record_bytes m) rs (led sh m (at_call k b c a rest)) e q))
    (λ k b c y z rest q. bracket-led sh rs e (sound sh rs e) k b c y z rest m (used-answers sh (record_bytes m) rs (led sh m (at_bracket k b c y z rest)) e q))

-- ---- a derivation, so a replay that answers

-- a substitution is an instance of the bindings
abbrev pub Instance : Substitution → List Binding → Type 0
Instance σ b = (x : RTerm) → apply σ (resolve b x) ≡ apply σ x

unifies : (σ : Substitution) (b : List Binding) → Instance σ b → (t u : RTerm) → apply σ t ≡ apply σ u → Unifies σ b t u
unifies σ b i t u q = i t ∙ (q ∙ sym (i u))

-- what the answer of unification is where a substitution that is an instance of the bindings makes the two equal
pub record Joined (σ : Substitution) (b : List Binding) (t u : RTerm) : Type 0 where
  pub bindings : List Binding
  pub is : unify b t u ≡ some bindings
  pub instance-of : Instance σ bindings

pub joined : (σ : Substitution) (b : List Binding) → Instance σ b → (t u : RTerm) → apply σ t ≡ apply σ u → Joined σ b t u
joined σ b i t u q = go (unify b t u) refl (unify-spec b t u)
  where
    go : (o : Option (List Binding)) → unify b t u ≡ o → Unified b t u o → Joined σ b t u
    go none h n = absurd (n σ (unifies σ b i t u q))
    go (some b1) h m = record { bindings = b1; is = h; instance-of = λ x. m.general σ (unifies σ b i t u q) x ∙ i x }

-- a replay that answers with bindings of which the substitution is an instance
pub record Found (sh : Sheet) (σ : Substitution) (ms : List Choice) (s : Resolvent) : Type 0 where
  pub bindings : List Binding
  pub is : replay sh (recorded ms) s ≡ answered bindings
  pub instance-of : Instance σ bindings

found-next : (sh : Sheet) (σ : Substitution) (m : Choice) (ms : List Choice) (s s1 : Resolvent) → led sh m s ≡ s1 → Found sh σ ms s1 → Found sh σ (m ∷ ms) s
unfolding replay recorded_then
found-next sh σ m ms s s1 e f =
    record {
      bindings = f.bindings;
      is = answers-used sh (record_bytes m) (recorded ms) (led sh m s) f.bindings (ap (replay sh (recorded ms)) e ∙ f.is);
      instance-of = f.instance-of;
    }

pub is-true : (t : Bool) → T t → t ≡ true
is-true true h = refl
is-true false h = absurd h

-- a record of kind 1 leads to the clause's body
pub led-clause : (sh : Sheet) (k : ℕ) (b : List Binding) (c n : ℕ) (a : Atom) (cl : Clause) (rest : List Pending) (b1 : List Binding) → k < longest_path → clause_at sh n ≡ some cl
    → unify b (copied c (term_of a)) (copied (suc k) (term_of cl.head)) ≡ some b1 → led sh (Numbered n) (at_call k b c a rest) ≡ settled (suc k) b1 (pending (suc k) cl.body rest)
unfolding led taken unified
led-clause sh k b c n a cl rest b1 low there q =
    ap (λ (t : Bool). cond t (taken k b c a rest (clause_at sh n)) failed) (is-true (ltb k longest_path) (lt→ltb k longest_path low))
    ∙ ap (taken k b c a rest) there
    ∙ ap (λ (o : Option (List Binding)). unified o (λ b2. settled (suc k) b2 (pending (suc k) cl.body rest))) q

-- and where the head does not unify it does not fit
pub led-clash : (sh : Sheet) (k : ℕ) (b : List Binding) (c n : ℕ) (a : Atom) (cl : Clause) (rest : List Pending) → k < longest_path → clause_at sh n ≡ some cl
    → unify b (copied c (term_of a)) (copied (suc k) (term_of cl.head)) ≡ none → led sh (Numbered n) (at_call k b c a rest) ≡ failed
unfolding led taken unified
led-clash sh k b c n a cl rest low there q =
    ap (λ (t : Bool). cond t (taken k b c a rest (clause_at sh n)) failed) (is-true (ltb k longest_path) (lt→ltb k longest_path low))
    ∙ ap (taken k b c a rest) there
    ∙ ap (λ (o : Option (List Binding)). unified o (λ b2. settled (suc k) b2 (pending (suc k) cl.body rest))) q

pub total : (sh : Sheet) (σ : Substitution) (k : ℕ) (lits : List Pending) (ms : List Choice) → Derivation sh σ k lits ms → (b : List Binding) → Instance σ b
    → Found sh σ ms (settled k b lits)
unfolding settled met unified led taken recorded_then
total sh σ k lits ms nothing_left b i = record { bindings = b; is = unfold replay in unfold finished in refl; instance-of = i }
total sh σ k lits ms (by_truth d) b i = total sh σ _ _ _ d b i
total sh σ k lits ms (by_equation {k = p} {c = c} {t = t} {u = u} {rest = rest} {ms = ns} q d) b i =
    let j : Joined σ b (copied c t) (copied c u) = joined σ b i (copied c t) (copied c u) q in
    subst (λ (o : Option (List Binding)). Found sh σ ns (unified o (λ b1. settled p b1 rest))) (sym j.is) (total sh σ p rest ns d j.bindings j.instance-of)
total sh σ k lits ms (by_clause {k = p} {c = c} {n = n} {a = a} {cl = cl} {rest = rest} low there q d) b i =
    let j : Joined σ b (copied c (term_of a)) (copied (suc p) (term_of cl.head)) = joined σ b i (copied c (term_of a)) (copied (suc p) (term_of cl.head)) q in
    found-next sh σ (Numbered n) _ _ _ (led-clause sh p b c n a cl rest j.bindings low there j.is) (total sh σ _ _ _ d j.bindings j.instance-of)
total sh σ k lits ms (by_left d) b i = found-next sh σ Left _ _ _ refl (total sh σ _ _ _ d b i)
total sh σ k lits ms (by_right d) b i = found-next sh σ Right _ _ _ refl (total sh σ _ _ _ d b i)

-- ---- the theorem

recorded-eq : (ms ns : List Choice) → recorded ms ≡ recorded ns → ms ≡ ns
unfolding recorded_then
recorded-eq [] [] e = refl
recorded-eq [] (n ∷ ns) e = absurd (let z : ◌≡◌ {A = ℕ} 0 1 = cc in let w : ⊥ = omega arith in w)
recorded-eq (m ∷ ms) [] e = absurd (let z : ◌≡◌ {A = ℕ} 0 1 = cc in let w : ⊥ = omega arith in w)
recorded-eq (m ∷ ms) (n ∷ ns) e = go (first m n (recorded ms) (recorded ns) e) (recorded-eq ms ns (behind-first m n (recorded ms) (recorded ns) e))
  where
    first : (m n : Choice) (rs ss : Records) → next m rs ≡ next n ss → m ≡ n
    first m n rs ss q = cc

    behind-first : (m n : Choice) (rs ss : Records) → next m rs ≡ next n ss → rs ≡ ss
    behind-first m n rs ss q = cc

    go : m ≡ n → ms ≡ ns → ◌≡◌ {A = List Choice} (m ∷ ms) (n ∷ ns)
    go p q = λ i. p i ∷ q i

-- nothing bound: every substitution is an instance
pub instance-none : (σ : Substitution) → Instance σ []
unfolding resolve
instance-none σ x = refl

-- The replay answers exactly where the records are those of a derivation of the goal by leftmost resolution, and then with the most general answer of it.
pub exactly : (sh : Sheet) (g : Goal) (rs : Records) → ReplaysExactly sh g rs (replay sh rs (begun g))
unfolding ReplaysExactly begun
exactly sh g rs = go (replay sh rs (begun g)) refl
  where
    found : (ms : List Choice) (σ : Substitution) → GoalDerivation sh g σ ms → Found sh σ ms (begun g)
    found ms σ d = total sh σ 0 (pending 0 g.body []) ms d [] (instance-none σ)

    go : (r : Replayed) → replay sh rs (begun g) ≡ r → ReplaysExactly sh g rs r
    go (answered e) q =
        let l : Led sh rs 0 [] (pending 0 g.body []) e = sound sh rs e (pending 0 g.body []) 0 [] q in (
          l.choices,
          l.is,
          record {
            derives = l.derives;
            general = λ σ d x. (
                let f : Found sh σ l.choices (begun g) = found l.choices σ d in
                let h : f.bindings ≡ e = answered-eq f.bindings e (sym f.is ∙ (ap (λ (y : Records). replay sh y (begun g)) (sym l.is) ∙ q)) in
                subst (λ (y : List Binding). apply σ (resolve y x) ≡ apply σ x) h (f.instance-of x)
                );
          },
        )
    go (stopped i) q = λ ms σ h d. (
        let f : Found sh σ ms (begun g) = found ms σ d in
        stopped-answered (sym q ∙ (ap (λ (y : Records). replay sh y (begun g)) h ∙ f.is))
        )
