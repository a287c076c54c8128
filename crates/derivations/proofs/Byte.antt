-- The byte of refusal 17 is that of the records used up.
use Prim.Native.Nat.{ℕ, suc, ◌+◌, ◌≤◌, ◌<◌}
use native.Mathlib.Omega.{arith}
use mathlib.Core.Path.{◌≡◌, refl, sym, ap, ◌∙◌, subst}
use mathlib.Core.Bool.{Bool, true, false, cond}
use mathlib.Core.List.{List, [], ◌∷◌}
use mathlib.Core.Option.{Option, none, some}
use mathlib.Core.Logic.{◌⊎◌, inl, inr}
use lib.Dec.{T, ltb, ltb→lt}
use Rattle.syntax.specs.Limits.{longest_path}
use Rattle.syntax.specs.Terms.{Atom, term_of, Literal, call, equation, truth, falsity, either, Body, Clause, Sheet, Goal}
use Rattle.machine.specs.Substitution.{copied, Binding}
use Rattle.machine.specs.Unification.{unify}
use Rattle.machine.specs.Unifiers.{Substitution, MostGeneral}
use Rattle.machine.specs.Machine.{Pending, pending, clause_at}
use Rattle.machine_theorems.proofs.Terms.{Grows, grows-refl, grows-trans}
use Rattle.machine_theorems.proofs.Unifier.{unify-some}
use Rattle.derivations.specs.Workings.{Choice, Numbered, Left, Right, Records, no_more, malformed, next, Resolvent, failed, solved, at_call, at_bracket, unified, met, settled, taken, led, Replayed, answered, stopped, behind, used, finished, replay, begun, record_bytes}
use Rattle.derivations.specs.Derivations.{recorded_then, put_in, IsDue, DueFirst, PartialDerivation, arrives, past_truth, past_equation, past_call, past_left, past_right, UsedUp, bytes_in, ByteIsRight}
use Rattle.derivations.proofs.Exactly.{Instance, Joined, joined, instance-none, equal-put-in, unify-grows, led-clause, stopped-answered}

abbrev pub NotFailed : Resolvent → Type 0
NotFailed failed = ⊥
NotFailed (solved b) = Unit {0}
NotFailed (at_call k b c a rest) = Unit {0}
NotFailed (at_bracket k b c y z rest) = Unit {0}

pub behind-zero : (r : Replayed) → r ≡ behind 0 r
unfolding behind
behind-zero (answered b) = refl
behind-zero (stopped i) = ap stopped (let z : i ≡ 0 + i = omega arith in z)

pub behind-behind : (m n : ℕ) (r : Replayed) → behind m (behind n r) ≡ behind (m + n) r
unfolding behind
behind-behind m n (answered b) = refl
behind-behind m n (stopped i) = ap stopped (let z : m + (n + i) ≡ (m + n) + i = omega arith in z)

pub used-not-failed : (n : ℕ) (s : Resolvent) (r : Replayed) → NotFailed s → used n s r ≡ behind n r
unfolding used
used-not-failed n failed r h = absurd h
used-not-failed n (solved b) r h = refl
used-not-failed n (at_call k b c a rest) r h = refl
used-not-failed n (at_bracket k b c y z rest) r h = refl

-- ---- what is used up is passed

record Reaches (sh : Sheet) (ms : List Choice) (s : Resolvent) : Type 0 where
  to : Resolvent
  here : NotFailed s
  on : (rs : Records) → replay sh (recorded_then ms rs) s ≡ behind (bytes_in ms) (replay sh rs to)

reaches-next : (sh : Sheet) (m : Choice) (ms : List Choice) (s s1 : Resolvent) → NotFailed s → led sh m s ≡ s1 → Reaches sh ms s1 → Reaches sh (m ∷ ms) s
unfolding replay recorded_then bytes_in
reaches-next sh m ms s s1 h e r =
    record {
      to = r.to;
      here = h;
      on = λ rs. ap (λ (x : Resolvent). used (record_bytes m) x (replay sh (recorded_then ms rs) x)) e
          ∙ used-not-failed (record_bytes m) s1 (replay sh (recorded_then ms rs) s1) r.here
          ∙ ap (behind (record_bytes m)) (r.on rs)
          ∙ behind-behind (record_bytes m) (bytes_in ms) (replay sh rs r.to);
    }

due-not-failed : (k : ℕ) (b : List Binding) (lits : List Pending) → DueFirst lits → NotFailed (settled k b lits)
unfolding settled met
due-not-failed k b [] w = tt
due-not-failed k b (p ∷ rest) w = go p.literal w
  where
    go : (l : Literal) → IsDue l → NotFailed (met k b p.copy l rest (λ b1. settled k b1 rest))
    go (call a) w = tt
    go (equation t u) w = absurd w
    go truth w = absurd w
    go falsity w = absurd w
    go (either y z) w = tt

reaches : (sh : Sheet) (σ : Substitution) (k : ℕ) (lits : List Pending) (ms : List Choice) → PartialDerivation sh σ k lits ms → (b : List Binding) → Instance σ b → Reaches sh ms (settled k b lits)
unfolding settled met unified led taken recorded_then
reaches sh σ k lits ms (arrives w) b i =
    record { to = settled k b lits; here = due-not-failed k b lits w; on = λ rs. unfold bytes_in in behind-zero (replay sh rs (settled k b lits)) }
reaches sh σ k lits ms (past_truth d) b i = reaches sh σ _ _ _ d b i
reaches sh σ k lits ms (past_equation {k = p} {c = c} {t = t} {u = u} {rest = rest} {ms = ns} q d) b i =
    let j : Joined σ b (copied c t) (copied c u) = joined σ b i (copied c t) (copied c u) q in
    subst (λ (o : Option (List Binding)). Reaches sh ns (unified o (λ b1. settled p b1 rest))) (sym j.is) (reaches sh σ p rest ns d j.bindings j.instance-of)
reaches sh σ k lits ms (past_call {k = p} {c = c} {n = n} {a = a} {cl = cl} {rest = rest} low there q d) b i =
    let j : Joined σ b (copied c (term_of a)) (copied (suc p) (term_of cl.head)) = joined σ b i (copied c (term_of a)) (copied (suc p) (term_of cl.head)) q in
    reaches-next sh (Numbered n) _ _ _ tt (led-clause sh p b c n a cl rest j.bindings low there j.is) (reaches sh σ _ _ _ d j.bindings j.instance-of)
reaches sh σ k lits ms (past_left d) b i = reaches-next sh Left _ _ _ tt refl (reaches sh σ _ _ _ d b i)
reaches sh σ k lits ms (past_right d) b i = reaches-next sh Right _ _ _ tt refl (reaches sh σ _ _ _ d b i)

stopped-eq : (i j : ℕ) → stopped i ≡ stopped j → i ≡ j
stopped-eq i j e = cc

behind-low : (n i : ℕ) (r : Replayed) → behind n r ≡ stopped i → n ≤ i
unfolding behind
behind-low n i (answered b) e = absurd (stopped-answered (sym e))
behind-low n i (stopped j) e = let q : n + j ≡ i = stopped-eq (n + j) i e in omega arith

most-used : (sh : Sheet) (g : Goal) (rs : Records) (i : ℕ) → replay sh rs (begun g) ≡ stopped i → (ms : List Choice) → UsedUp sh g rs ms → bytes_in ms ≤ i
unfolding begun
most-used sh g rs i e ms u =
    let r : Reaches sh ms (settled 0 [] (pending 0 g.body [])) = reaches sh u.by 0 (pending 0 g.body []) ms u.leads [] (instance-none u.by) in
    behind-low (bytes_in ms) i (replay sh u.others r.to) (sym (r.on u.others) ∙ (ap (λ (x : Records). replay sh x (settled 0 [] (pending 0 g.body []))) (sym u.first) ∙ e))

-- ---- and no more is

record Got (sh : Sheet) (rs : Records) (i k : ℕ) (b : List Binding) (lits : List Pending) : Type 0 where
  choices : List Choice
  others : Records
  first : rs ≡ recorded_then choices others
  bytes-are : bytes_in choices ≡ i
  last : List Binding
  grows : Grows b last
  leads : PartialDerivation sh (put_in last) k lits choices

-- nothing is used up behind here
got-none : (sh : Sheet) (rs : Records) (i k : ℕ) (b : List Binding) (lits : List Pending) → DueFirst lits → 0 ≡ i → Got sh rs i k b lits
unfolding recorded_then bytes_in
got-none sh rs i k b lits w e = record { choices = []; others = rs; first = refl; bytes-are = e; last = b; grows = grows-refl b; leads = arrives w }

-- of literals that go through to where a record is due; or they are failed
module _ (sh : Sheet) (rs : Records) (i : ℕ)
    (base : (k : ℕ) (b : List Binding) (lits : List Pending) → DueFirst lits → replay sh rs (settled k b lits) ≡ stopped i → Got sh rs i k b lits) where
  passed : (lits : List Pending) (k : ℕ) (b : List Binding) → replay sh rs (settled k b lits) ≡ stopped i → (settled k b lits ≡ failed) ⊎ Got sh rs i k b lits
  unfolding settled met unified
  passed [] k b q = inr (base k b [] tt q)
  passed (p ∷ rest) k b q = go p.literal (λ b1 x. passed rest k b1 x) (λ l w x. base k b (record { copy = p.copy; literal = l } ∷ rest) w x) q
    where
      c : ℕ
      c = p.copy

      At : Literal → Type 0
      At l = (met k b c l rest (λ b1. settled k b1 rest) ≡ failed) ⊎ Got sh rs i k b (record { copy = c; literal = l } ∷ rest)

      go : (l : Literal) → ((b1 : List Binding) → replay sh rs (settled k b1 rest) ≡ stopped i → (settled k b1 rest ≡ failed) ⊎ Got sh rs i k b1 rest)
          → ((l : Literal) → IsDue l → replay sh rs (met k b c l rest (λ b1. settled k b1 rest)) ≡ stopped i → Got sh rs i k b (record { copy = c; literal = l } ∷ rest))
          → replay sh rs (met k b c l rest (λ b1. settled k b1 rest)) ≡ stopped i → At l
      go (call a) ih here r = inr (here (call a) tt r)
      go (equation t u) ih here r = by (unify b (copied c t) (copied c u)) refl r
        where
          by : (o : Option (List Binding)) → unify b (copied c t) (copied c u) ≡ o → replay sh rs (unified o (λ b1. settled k b1 rest)) ≡ stopped i
              → (unified o (λ b1. settled k b1 rest) ≡ failed) ⊎ Got sh rs i k b (record { copy = c; literal = equation t u } ∷ rest)
          by none h x = inl refl
          by (some b1) h x = elim (ih b1 x) [
            | inl e ↦ inl e
            | inr l ↦ inr (let m : MostGeneral b (copied c t) (copied c u) b1 = unify-some b (copied c t) (copied c u) b1 h in
                record {
                  choices = l.choices;
                  others = l.others;
                  first = l.first;
                  bytes-are = l.bytes-are;
                  last = l.last;
                  grows = grows-trans (unify-grows m) l.grows;
                  leads = past_equation (equal-put-in l.grows (copied c t) (copied c u) m.equal) l.leads;
                })
          ]
      go truth ih here r = elim (ih b r) [
        | inl e ↦ inl e
        | inr l ↦ inr (record { choices = l.choices; others = l.others; first = l.first; bytes-are = l.bytes-are; last = l.last; grows = l.grows; leads = past_truth l.leads })
      ]
      go falsity ih here r = inl refl
      go (either y z) ih here r = inr (here (either y z) tt r)

-- what a used record leaves
behind-stopped : (n i : ℕ) (r : Replayed) → behind n r ≡ stopped i → (j : ℕ) × (r ≡ stopped j) × (n + j ≡ i)
unfolding behind
behind-stopped n i (answered b) e = absurd (stopped-answered (sym e))
behind-stopped n i (stopped j) e = (j, refl, stopped-eq (n + j) i e)

used-stopped : (n i : ℕ) (s : Resolvent) (r : Replayed) → used n s r ≡ stopped i → (0 ≡ i) ⊎ ((s ≡ failed → ⊥) × ((j : ℕ) × (r ≡ stopped j) × (n + j ≡ i)))
unfolding used
used-stopped n i failed r e = inl (stopped-eq 0 i e)
used-stopped n i (solved b) r e = inr ((λ q. (let z : ◌≡◌ {A = ℕ} 0 1 = cc in let w : ⊥ = omega arith in w)), behind-stopped n i r e)
used-stopped n i (at_call k b c a rest) r e = inr ((λ q. (let z : ◌≡◌ {A = ℕ} 0 1 = cc in let w : ⊥ = omega arith in w)), behind-stopped n i r e)
used-stopped n i (at_bracket k b c y z rest) r e = inr ((λ q. (let z : ◌≡◌ {A = ℕ} 0 1 = cc in let w : ⊥ = omega arith in w)), behind-stopped n i r e)

-- a record that is used up, and what its choice leads to
module _ (sh : Sheet) (rs : Records) (ih : (i : ℕ) (lits : List Pending) (k : ℕ) (b : List Binding) → replay sh rs (settled k b lits) ≡ stopped i → (settled k b lits ≡ failed) ⊎ Got sh rs i k b lits) where
  call-got : (i k : ℕ) (b : List Binding) (c : ℕ) (a : Atom) (rest : List Pending) (m : Choice) (j : ℕ) → (led sh m (at_call k b c a rest) ≡ failed → ⊥) → replay sh rs (led sh m (at_call k b c a rest)) ≡ stopped j
      → record_bytes m + j ≡ i → Got sh (next m rs) i k b (record { copy = c; literal = call a } ∷ rest)
  unfolding led taken unified recorded_then bytes_in
  call-got i k b c a rest Left j u q e = absurd (u refl)
  call-got i k b c a rest Right j u q e = absurd (u refl)
  call-got i k b c a rest (Numbered n) j u q e = by (ltb k longest_path) refl u q
    where
      Goal-is : Type 0
      Goal-is = Got sh (next (Numbered n) rs) i k b (record { copy = c; literal = call a } ∷ rest)

      by-unify : (cl : Clause) → k < longest_path → clause_at sh n ≡ some cl → (o : Option (List Binding)) → unify b (copied c (term_of a)) (copied (suc k) (term_of cl.head)) ≡ o
          → (unified o (λ b1. settled (suc k) b1 (pending (suc k) cl.body rest)) ≡ failed → ⊥)
          → replay sh rs (unified o (λ b1. settled (suc k) b1 (pending (suc k) cl.body rest))) ≡ stopped j → Goal-is
      by-unify cl low there none h v x = absurd (v refl)
      by-unify cl low there (some b1) h v x = elim (ih j (pending (suc k) cl.body rest) (suc k) b1 x) [
        | inl y ↦ absurd (v y)
        | inr l ↦ (let m : MostGeneral b (copied c (term_of a)) (copied (suc k) (term_of cl.head)) b1 = unify-some b (copied c (term_of a)) (copied (suc k) (term_of cl.head)) b1 h in
            record {
              choices = Numbered n ∷ l.choices;
              others = l.others;
              first = ap (next (Numbered n)) l.first;
              bytes-are = (let y : bytes_in l.choices ≡ j = l.bytes-are in omega (arith, e));
              last = l.last;
              grows = grows-trans (unify-grows m) l.grows;
              leads = past_call low there (equal-put-in l.grows (copied c (term_of a)) (copied (suc k) (term_of cl.head)) m.equal) l.leads;
            })
      ]

      by-clause : k < longest_path → (o : Option Clause) → clause_at sh n ≡ o → (taken k b c a rest o ≡ failed → ⊥) → replay sh rs (taken k b c a rest o) ≡ stopped j → Goal-is
      by-clause low none h v x = absurd (v refl)
      by-clause low (some cl) h v x = by-unify cl low h (unify b (copied c (term_of a)) (copied (suc k) (term_of cl.head))) refl v x

      by : (t : Bool) → ltb k longest_path ≡ t → (cond t (taken k b c a rest (clause_at sh n)) failed ≡ failed → ⊥) → replay sh rs (cond t (taken k b c a rest (clause_at sh n)) failed) ≡ stopped j → Goal-is
      by true h v x = by-clause (ltb→lt k longest_path (subst T (sym h) tt)) (clause_at sh n) refl v x
      by false h v x = absurd (v refl)

  bracket-got : (i k : ℕ) (b : List Binding) (c : ℕ) (y z : Body) (rest : List Pending) (m : Choice) (j : ℕ) → (led sh m (at_bracket k b c y z rest) ≡ failed → ⊥)
      → replay sh rs (led sh m (at_bracket k b c y z rest)) ≡ stopped j → record_bytes m + j ≡ i → Got sh (next m rs) i k b (record { copy = c; literal = either y z } ∷ rest)
  unfolding led recorded_then bytes_in
  bracket-got i k b c y z rest (Numbered n) j u q e = absurd (u refl)
  bracket-got i k b c y z rest Left j u q e = elim (ih j (pending c y rest) k b q) [
    | inl x ↦ absurd (u x)
    | inr l ↦ record { choices = Left ∷ l.choices; others = l.others; first = ap (next Left) l.first; bytes-are = (let x : bytes_in l.choices ≡ j = l.bytes-are in omega (arith, e)); last = l.last; grows = l.grows; leads = past_left l.leads }
  ]
  bracket-got i k b c y z rest Right j u q e = elim (ih j (pending c z rest) k b q) [
    | inl x ↦ absurd (u x)
    | inr l ↦ record { choices = Right ∷ l.choices; others = l.others; first = ap (next Right) l.first; bytes-are = (let x : bytes_in l.choices ≡ j = l.bytes-are in omega (arith, e)); last = l.last; grows = l.grows; leads = past_right l.leads }
  ]

got : (sh : Sheet) (rs : Records) (i : ℕ) (lits : List Pending) (k : ℕ) (b : List Binding) → replay sh rs (settled k b lits) ≡ stopped i → (settled k b lits ≡ failed) ⊎ Got sh rs i k b lits
unfolding replay finished settled met led used
got sh no_more i = passed sh no_more i (λ k b lits w q. by k b lits w q)
  where
    by : (k : ℕ) (b : List Binding) (lits : List Pending) → DueFirst lits → finished (settled k b lits) ≡ stopped i → Got sh no_more i k b lits
    by k b [] w q = absurd (stopped-answered (sym q))
    by k b (p ∷ rest) w q = go p.literal w q
      where
        go : (l : Literal) → IsDue l → finished (met k b p.copy l rest (λ b1. settled k b1 rest)) ≡ stopped i → Got sh no_more i k b (record { copy = p.copy; literal = l } ∷ rest)
        go (call a) w q = got-none sh no_more i k b (record { copy = p.copy; literal = call a } ∷ rest) tt (stopped-eq 0 i q)
        go (equation t u) w q = absurd w
        go truth w q = absurd w
        go falsity w q = absurd w
        go (either y z) w q = got-none sh no_more i k b (record { copy = p.copy; literal = either y z } ∷ rest) tt (stopped-eq 0 i q)
got sh malformed i = passed sh malformed i (λ k b lits w q. got-none sh malformed i k b lits w (stopped-eq 0 i q))
got sh (next m rs) i = passed sh (next m rs) i (λ k b lits w q. by (got sh rs) k b lits w q)
  where
    by : ((i : ℕ) (lits : List Pending) (k : ℕ) (b : List Binding) → replay sh rs (settled k b lits) ≡ stopped i → (settled k b lits ≡ failed) ⊎ Got sh rs i k b lits)
        → (k : ℕ) (b : List Binding) (lits : List Pending) → DueFirst lits → used (record_bytes m) (led sh m (settled k b lits)) (replay sh rs (led sh m (settled k b lits))) ≡ stopped i → Got sh (next m rs) i k b lits
    by ih k b [] w q = got-none sh (next m rs) i k b [] tt (stopped-eq 0 i q)
    by ih k b (p ∷ rest) w q = go p.literal w q
      where
        go : (l : Literal) → IsDue l → used (record_bytes m) (led sh m (met k b p.copy l rest (λ b1. settled k b1 rest))) (replay sh rs (led sh m (met k b p.copy l rest (λ b1. settled k b1 rest)))) ≡ stopped i
            → Got sh (next m rs) i k b (record { copy = p.copy; literal = l } ∷ rest)
        go (call a) w q = elim (used-stopped (record_bytes m) i (led sh m (at_call k b p.copy a rest)) (replay sh rs (led sh m (at_call k b p.copy a rest))) q) [
          | inl e ↦ got-none sh (next m rs) i k b (record { copy = p.copy; literal = call a } ∷ rest) tt e
          | inr x ↦ call-got sh rs ih i k b p.copy a rest m x.1.0 x.0 x.1.1 x.1.2
        ]
        go (equation t u) w q = absurd w
        go truth w q = absurd w
        go falsity w q = absurd w
        go (either y z) w q = elim (used-stopped (record_bytes m) i (led sh m (at_bracket k b p.copy y z rest)) (replay sh rs (led sh m (at_bracket k b p.copy y z rest))) q) [
          | inl e ↦ got-none sh (next m rs) i k b (record { copy = p.copy; literal = either y z } ∷ rest) tt e
          | inr x ↦ bracket-got sh rs ih i k b p.copy y z rest m x.1.0 x.0 x.1.1 x.1.2
        ]

failed-zero : (sh : Sheet) (rs : Records) → replay sh rs failed ≡ stopped 0
unfolding replay finished led used
failed-zero sh no_more = refl
failed-zero sh malformed = refl
failed-zero sh (next m rs) = refl

-- REFUSAL 17's BYTE: the bytes of the most records, from the first on, that are used up; 0 where the goal breaks before any.
pub byte-right : (sh : Sheet) (g : Goal) (rs : Records) → ByteIsRight sh g rs (replay sh rs (begun g))
unfolding begun
byte-right sh g rs = go (replay sh rs (settled 0 [] (pending 0 g.body []))) refl
  where
    go : (r : Replayed) → replay sh rs (settled 0 [] (pending 0 g.body [])) ≡ r → ByteIsRight sh g rs r
    go (answered b) q = tt
    go (stopped i) q =
        record {
          most = most-used sh g rs i (unfold begun in q);
          attained = elim (got sh rs i (pending 0 g.body []) 0 [] q) [
            | inl e ↦ inl (sym (stopped-eq 0 i (sym (failed-zero sh rs) ∙ (ap (replay sh rs) (sym e) ∙ q))))
            | inr l ↦ inr (l.choices, l.bytes-are, record { others = l.others; first = l.first; by = put_in l.last; leads = l.leads })
          ];
        }
