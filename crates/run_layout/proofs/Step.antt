-- What the definition's step makes of the pile that the words mean. Assumes nothing.
use Prim.Native.Nat.{ℕ, zero, suc, ◌+◌, ◌≤◌, ◌<◌}
use native.Mathlib.Omega.{arith}
use mathlib.Core.Path.{◌≡◌, refl, sym, ap, ap₂, ◌∙◌, subst, subst⁻¹}
use mathlib.Core.Bool.{Bool, true, false}
use mathlib.Core.List.{List, [], ◌∷◌, ◌++◌}
use mathlib.Core.Option.{Option, none, some}
use lib.Dec.{eqb}
use lib.ListN.{length}
use borrow.Author.Tests.{eqb-true, eqb-false}
use Rattle.syntax.specs.Words.{literal_length, call_kind}
use Rattle.syntax.specs.Limits.{longest_path}
use Rattle.syntax.specs.Terms.{Term, term_of, Atom, Literal, call, equation, truth, falsity, either, Body, done, also, Clause, Sheet, Goal}
use Rattle.machine.specs.Substitution.{Binding, copied}
use Rattle.machine.specs.Unification.{unify}
use Rattle.machine.specs.Machine.{Pending, Call, Alternative, pending, next_for, next_of, topmost, clause_at, new_alternative, gone, equated, moved_on, laid, tried, on_top, called, worked, worked_on, outcome, step}
use Rattle.run_layout.specs.Regions.{frames, next_literal}
use Rattle.run_layout.specs.Nodes.{Symbol}
use Rattle.run_layout.specs.State.{bindings, Store, WithinCopies, BindingsKept}
use Rattle.run_layout.specs.Program.{body_at, record_kind, other_at, Program}
use Rattle.run_layout.specs.Pile.{body_then, Calls, caller_of, call_of, rest_from, left_behind, left_from, calls_up_to, copy_at, literal_at, next_at, mark_at, path_at, alternative_at, pile_of, RecordOf, NoJump, Frame, NextFor, Stacked, Piled}
use Rattle.run_layout.proofs.State.{bindings-same}
use Rattle.run_layout.proofs.Pile.{Parting, HeadStands, place-stands, rest-next, left-under, calls_count, climb, next-for, SameFrames, same-frame, same_left, same-calls, kept-left, Written, Stand, Means, topped, replaced, moved, Pushing, pushed, pushed-left}

-- ---- the literals left

-- a body's literals before those of another
pending-joined : (c : ℕ) (b r : Body) (rest : List Pending) → pending c b (pending c r rest) ≡ pending c (body_then b r) rest
unfolding pending body_then
pending-joined c done r rest = refl
pending-joined c (also x b) r rest = ap (λ (y : List Pending). record { copy = c; literal = x } ∷ y) (pending-joined c b r rest)

module _ (sh : Sheet) (g : Goal) (code state : List ℕ) where
  -- nothing is left behind the goal
  pub left-goal : (k : ℕ) → left_behind sh g code state k 0 ≡ []
  unfolding left_behind
  left-goal zero = refl
  left-goal (suc k) = left-under sh g code state k 0 (omega arith) ∙ left-goal k

  pub left-done : (k c l : ℕ) → c ≡ 0 → rest_from sh g code state c l ≡ done → left_from sh g code state k c l ≡ []
  unfolding left_from pending
  left-done k c l z e = ap₂ (λ (b : Body) (y : ℕ). pending c b (left_behind sh g code state k y)) e z ∙ left-goal k

  -- the first of the literals left
  pub left-first : (k c l : ℕ) {x : Literal} {b : Body} → rest_from sh g code state c l ≡ also x b
      → left_from sh g code state k c l ≡ record { copy = c; literal = x } ∷ pending c b (left_behind sh g code state k c)
  unfolding left_from pending
  left-first k c l e = ap (λ (y : Body). pending c y (left_behind sh g code state k c)) e

  -- a side of a bracket is left, and then what is behind the bracket
  left-side : (k c l : ℕ) (b r : Body) → rest_from sh g code state c l ≡ body_then b r
      → pending c b (pending c r (left_behind sh g code state k c)) ≡ left_from sh g code state k c l
  unfolding left_from
  left-side k c l b r e = pending-joined c b r (left_behind sh g code state k c) ∙ ap (λ (y : Body). pending c y (left_behind sh g code state k c)) (sym e)

-- and the others, where the first is no bracket
pub left-also : {ss : List Symbol} {sh : Sheet} {g : Goal} {nodes code state : List ℕ} (k : ℕ) {c l : ℕ} → Program ss sh g nodes code → RecordOf sh g code state c l → NoJump code l
    → {x : Literal} {b : Body} → literal_length x ≡ 1 → rest_from sh g code state c l ≡ also x b
    → left_from sh g code state k c l ≡ record { copy = c; literal = x } ∷ left_from sh g code state k c (next_literal l)
unfolding left_from
left-also {ss} {sh} {g} {nodes} {code} {state} k {c} {l} program at stays {x} {b} one e =
    left-first sh g code state k c l e
    ∙ ap (λ (y : Body). record { copy = c; literal = x } ∷ pending c y (left_behind sh g code state k c)) (sym (rest-next program at stays one e))

-- a copy other than the goal is at its end
pub record Rising (sh : Sheet) (g : Goal) (code state : List ℕ) (k c l : ℕ) : Type 0 where
  pub left : left_from sh g code state k c l ≡ left_from sh g code state k (caller_of state c) (next_literal (call_of state c))
  pub place : RecordOf sh g code state (caller_of state c) (next_literal (call_of state c))
  pub below : caller_of state c < c

pub rise : {ss : List Symbol} {sh : Sheet} {g : Goal} {nodes code : List ℕ} → Program ss sh g nodes code → (state : List ℕ) (k c l : ℕ)
    → ((i : ℕ) → i < k → Frame sh g code state (suc i)) → 1 ≤ c → c ≤ k → rest_from sh g code state c l ≡ done → Rising sh g code state k c l
rise program state k zero l frames h low e = absurd (let z : 1 ≤ 0 = h in omega arith)
rise program state k (suc c) l frames h low e =
    record {
      left = (climb program state k c l frames low e).left;
      place = (climb program state k c l frames low e).place;
      below = (climb program state k c l frames low e).below;
    }

-- ---- the next clause of a new literal

call-eq : (a b : Atom) → call a ≡ call b → a ≡ b
call-eq a b e = cc

-- x is the word that a place's first literal gives: the topmost clause for a call, else 0
pub record Fresh (sh : Sheet) (g : Goal) (code state : List ℕ) (k c l x : ℕ) : Type 0 where
  pub stand : Stand sh g code state c l x
  pub topmost_is : x ≡ topmost sh (left_from sh g code state k c l)

pub fresh : (ss : List Symbol) (sh : Sheet) (g : Goal) (nodes code state : List ℕ) (k c l x : ℕ) → Program ss sh g nodes code → RecordOf sh g code state c l → NoJump code l → (rest_from sh g code state c l ≡ done → c ≡ 0)
    → (record_kind code l ≡ call_kind → x ≡ other_at code l) → ((record_kind code l ≡ call_kind → ⊥) → x ≡ 0) → Fresh sh g code state k c l x
unfolding topmost next_of
fresh ss sh g nodes code state k c l x pr at stays ends is_call other = go (rest_from sh g code state c l) refl (place-stands pr at stays)
  where
    none-next : x ≡ 0 → Stand sh g code state c l x
    none-next z = record { place = at; stays = stays; ends = ends; next = λ a q. subst⁻¹ (NextFor sh a) z tt }

    first : (y : Literal) (b : Body) → rest_from sh g code state c l ≡ also y b → x ≡ next_of sh y → x ≡ topmost sh (left_from sh g code state k c l)
    first y b e q = q ∙ sym (ap (topmost sh) (left-first sh g code state k c l e))

    no_call : (y : Literal) (b : Body) → rest_from sh g code state c l ≡ also y b → next_of sh y ≡ 0 → (record_kind code l ≡ call_kind → ⊥) → Fresh sh g code state k c l x
    no_call y b e q n =
        let z : x ≡ 0 = other n in
        record { stand = none-next z; topmost_is = first y b e (z ∙ sym q) }

    go : (b : Body) → rest_from sh g code state c l ≡ b → HeadStands ss sh nodes code l b → Fresh sh g code state k c l x
    go done e s =
        let z : x ≡ 0 = other (λ q. omega (arith, q, s)) in
        record { stand = none-next z; topmost_is = z ∙ sym (ap (topmost sh) (left-done sh g code state k c l (ends e) e)) }
    go (also (call a) b) e s =
        let q : x ≡ next_for sh a 0 = is_call s.0 ∙ s.2 in
        record {
          stand = record { place = at; stays = stays; ends = ends; next = λ o w. subst (λ (y : Atom). NextFor sh y x) (call-eq a o (subst (λ (y : Body). Calls y o) e w)) (subst⁻¹ (NextFor sh a) q (next-for sh a 0)) };
          topmost_is = first (call a) b e q;
        }
    go (also (equation t u) b) e s = no_call (equation t u) b e refl (λ q. omega (arith, q, s.0))
    go (also truth b) e s = no_call truth b e refl (λ q. omega (arith, q, s))
    go (also falsity b) e s = no_call falsity b e refl (λ q. omega (arith, q, s))
    go (also (either y z) b) e s = no_call (either y z) b e refl (λ q. omega (arith, q, s))

-- ---- a step of the pile, by the top's first literal

module _ (ss : List Symbol) (sh : Sheet) (g : Goal) (nodes code state : List ℕ) (h : ℕ) where
  step-on : (lits : List Pending) → left_from sh g code state (path_at state h) (copy_at state h) (literal_at state h) ≡ lits
      → step sh (pile_of ss sh g nodes code state (suc h)) ≡ worked_on sh (alternative_at ss sh g nodes code state h) lits ++ pile_of ss sh g nodes code state h
  unfolding pile_of step outcome alternative_at
  step-on lits e = ap (λ (y : List Pending). worked_on sh (alternative_at ss sh g nodes code state h) y ++ pile_of ss sh g nodes code state h) e

  -- no literal is left
  pub step-answer : (rest_from sh g code state (copy_at state h) (literal_at state h) ≡ done → copy_at state h ≡ 0) → rest_from sh g code state (copy_at state h) (literal_at state h) ≡ done
      → step sh (pile_of ss sh g nodes code state (suc h)) ≡ pile_of ss sh g nodes code state h
  unfolding worked_on
  step-answer ends e = step-on [] (left-done sh g code state (path_at state h) (copy_at state h) (literal_at state h) (ends e) e)

  module _ (program : Program ss sh g nodes code) {n : ℕ} (top : Stacked sh g code state n h) (r : Body) where
    -- a bracket: its sides, each with what is behind it, the left one on top
    pub step-split : (y z : Body) → Parting sh g code state (copy_at state h) (literal_at state h) y z r
        → step sh (pile_of ss sh g nodes code state (suc h))
        ≡ new_alternative sh (left_from sh g code state (path_at state h) (copy_at state h) (next_literal (literal_at state h))) (bindings ss nodes state (mark_at state h)) (calls_up_to sh g code state (path_at state h))
        ∷ new_alternative sh (left_from sh g code state (path_at state h) (copy_at state h) (other_at code (literal_at state h))) (bindings ss nodes state (mark_at state h)) (calls_up_to sh g code state (path_at state h))
        ∷ pile_of ss sh g nodes code state h
    unfolding worked_on worked gone alternative_at
    step-split y z p =
        step-on (record { copy = copy_at state h; literal = either y z } ∷ pending (copy_at state h) r (left_behind sh g code state (path_at state h) (copy_at state h)))
        (left-first sh g code state (path_at state h) (copy_at state h) (literal_at state h) p.rest)
        ∙ ap₂ (λ (left right : List Pending). new_alternative sh left (bindings ss nodes state (mark_at state h)) (calls_up_to sh g code state (path_at state h))
        ∷ new_alternative sh right (bindings ss nodes state (mark_at state h)) (calls_up_to sh g code state (path_at state h)) ∷ pile_of ss sh g nodes code state h)
        (left-side sh g code state (path_at state h) (copy_at state h) (next_literal (literal_at state h)) y r p.left_rest)
        (left-side sh g code state (path_at state h) (copy_at state h) (other_at code (literal_at state h)) z r p.right_rest)

    step-literal : (y : Literal) → literal_length y ≡ 1 → rest_from sh g code state (copy_at state h) (literal_at state h) ≡ also y r
        → step sh (pile_of ss sh g nodes code state (suc h)) ≡ worked sh (alternative_at ss sh g nodes code state h) (copy_at state h) (left_from sh g code state (path_at state h) (copy_at state h) (next_literal (literal_at state h))) y ++ pile_of ss sh g nodes code state h
    unfolding worked_on
    step-literal y one e =
        step-on (record { copy = copy_at state h; literal = y } ∷ left_from sh g code state (path_at state h) (copy_at state h) (next_literal (literal_at state h))) (left-also (path_at state h) program top.place top.stays one e)

    pub step-falsity : rest_from sh g code state (copy_at state h) (literal_at state h) ≡ also falsity r → step sh (pile_of ss sh g nodes code state (suc h)) ≡ pile_of ss sh g nodes code state h
    unfolding worked literal_length
    step-falsity e = step-literal falsity refl e

    pub step-truth : rest_from sh g code state (copy_at state h) (literal_at state h) ≡ also truth r
        → step sh (pile_of ss sh g nodes code state (suc h)) ≡ new_alternative sh (left_from sh g code state (path_at state h) (copy_at state h) (next_literal (literal_at state h))) (bindings ss nodes state (mark_at state h)) (calls_up_to sh g code state (path_at state h)) ∷ pile_of ss sh g nodes code state h
    unfolding worked gone alternative_at literal_length
    step-truth e = step-literal truth refl e

    pub step-unequal : (t u : Term) → rest_from sh g code state (copy_at state h) (literal_at state h) ≡ also (equation t u) r
        → unify (bindings ss nodes state (mark_at state h)) (copied (copy_at state h) t) (copied (copy_at state h) u) ≡ none
        → step sh (pile_of ss sh g nodes code state (suc h)) ≡ pile_of ss sh g nodes code state h
    unfolding worked equated alternative_at literal_length
    step-unequal t u e q =
        step-literal (equation t u) refl e
        ∙ ap (λ (o : Option (List Binding)). equated sh (alternative_at ss sh g nodes code state h) (left_from sh g code state (path_at state h) (copy_at state h) (next_literal (literal_at state h))) o ++ pile_of ss sh g nodes code state h) q

    pub step-equal : (t u : Term) (b : List Binding) → rest_from sh g code state (copy_at state h) (literal_at state h) ≡ also (equation t u) r
        → unify (bindings ss nodes state (mark_at state h)) (copied (copy_at state h) t) (copied (copy_at state h) u) ≡ some b
        → step sh (pile_of ss sh g nodes code state (suc h)) ≡ new_alternative sh (left_from sh g code state (path_at state h) (copy_at state h) (next_literal (literal_at state h))) b (calls_up_to sh g code state (path_at state h)) ∷ pile_of ss sh g nodes code state h
    unfolding worked equated gone alternative_at literal_length
    step-equal t u b e q =
        step-literal (equation t u) refl e
        ∙ ap (λ (o : Option (List Binding)). equated sh (alternative_at ss sh g nodes code state h) (left_from sh g code state (path_at state h) (copy_at state h) (next_literal (literal_at state h))) o ++ pile_of ss sh g nodes code state h) q

    -- a call without a further clause
    pub step-exhausted : (a : Atom) → rest_from sh g code state (copy_at state h) (literal_at state h) ≡ also (call a) r → next_at state h ≡ 0
        → step sh (pile_of ss sh g nodes code state (suc h)) ≡ pile_of ss sh g nodes code state h
    unfolding worked called clause_at alternative_at literal_length
    step-exhausted a e q =
        step-literal (call a) refl e
        ∙ ap (λ (m : ℕ). called sh (alternative_at ss sh g nodes code state h) (copy_at state h) a (left_from sh g code state (path_at state h) (copy_at state h) (next_literal (literal_at state h))) (clause_at sh m) ++ pile_of ss sh g nodes code state h) q

    module _ (a : Atom) (cl : Clause) (e : rest_from sh g code state (copy_at state h) (literal_at state h) ≡ also (call a) r) (q : clause_at sh (next_at state h) ≡ some cl) where
      path-is : length (alternative_at ss sh g nodes code state h).calls ≡ path_at state h
      unfolding alternative_at
      path-is = calls_count sh g code state (path_at state h)

      step-called : step sh (pile_of ss sh g nodes code state (suc h))
          ≡ on_top (laid sh (alternative_at ss sh g nodes code state h) (copy_at state h) a (left_from sh g code state (path_at state h) (copy_at state h) (next_literal (literal_at state h))) cl
          (unify (bindings ss nodes state (mark_at state h)) (copied (copy_at state h) (term_of a)) (copied (suc (path_at state h)) (term_of cl.head)))) (moved_on sh (alternative_at ss sh g nodes code state h) a) ++ pile_of ss sh g nodes code state h
      unfolding worked called tried alternative_at literal_length
      step-called =
          step-literal (call a) refl e
          ∙ (ap (λ (o : Option Clause). called sh (alternative_at ss sh g nodes code state h) (copy_at state h) a (left_from sh g code state (path_at state h) (copy_at state h) (next_literal (literal_at state h))) o ++ pile_of ss sh g nodes code state h) q
          ∙ ap (λ (k : ℕ). on_top (laid sh (alternative_at ss sh g nodes code state h) (copy_at state h) a (left_from sh g code state (path_at state h) (copy_at state h) (next_literal (literal_at state h))) cl
          (unify (bindings ss nodes state (mark_at state h)) (copied (copy_at state h) (term_of a)) (copied (suc k) (term_of cl.head)))) (moved_on sh (alternative_at ss sh g nodes code state h) a) ++ pile_of ss sh g nodes code state h) path-is)

      -- the head unifies
      pub step-tried : (b : List Binding) → unify (bindings ss nodes state (mark_at state h)) (copied (copy_at state h) (term_of a)) (copied (suc (path_at state h)) (term_of cl.head)) ≡ some b
          → step sh (pile_of ss sh g nodes code state (suc h))
          ≡ new_alternative sh (pending (suc (path_at state h)) cl.body (left_from sh g code state (path_at state h) (copy_at state h) (next_literal (literal_at state h)))) b (record { copy = copy_at state h; atom = a } ∷ calls_up_to sh g code state (path_at state h))
          ∷ record { literals = left_from sh g code state (path_at state h) (copy_at state h) (literal_at state h); bindings = bindings ss nodes state (mark_at state h); next = next_for sh a (next_at state h); calls = calls_up_to sh g code state (path_at state h) }
          ∷ pile_of ss sh g nodes code state h
      unfolding laid on_top moved_on alternative_at
      step-tried b u =
          step-called
          ∙ (ap (λ (o : Option (List Binding)). on_top (laid sh (alternative_at ss sh g nodes code state h) (copy_at state h) a (left_from sh g code state (path_at state h) (copy_at state h) (next_literal (literal_at state h))) cl o) (moved_on sh (alternative_at ss sh g nodes code state h) a) ++ pile_of ss sh g nodes code state h) u
          ∙ ap (λ (k : ℕ). new_alternative sh (pending (suc k) cl.body (left_from sh g code state (path_at state h) (copy_at state h) (next_literal (literal_at state h)))) b (record { copy = copy_at state h; atom = a } ∷ calls_up_to sh g code state (path_at state h))
          ∷ record { literals = left_from sh g code state (path_at state h) (copy_at state h) (literal_at state h); bindings = bindings ss nodes state (mark_at state h); next = next_for sh a (next_at state h); calls = calls_up_to sh g code state (path_at state h) }
          ∷ pile_of ss sh g nodes code state h) path-is)

-- ---- words after a step

-- The top goes on at another record of its copy: what is left from there begins at l of copy c, and the trail has n1 entries.
pub record Going (ss : List Symbol) (sh : Sheet) (g : Goal) (nodes code state state1 state2 : List ℕ) (h n n1 p to c l x : ℕ) : Type 0 where
  pub piled : Piled ss sh g nodes code state (suc h) n
  pub mark : mark_at state h ≡ n
  pub path : path_at state h ≡ p
  pub keeps : BindingsKept n state state1
  pub store : Store ss nodes state1 n1
  pub within : WithinCopies p state1 n1
  pub more : n ≤ n1
  pub copy : c ≤ p
  pub left : left_from sh g code state1 p c l ≡ left_from sh g code state1 p (copy_at state h) to
  pub fresh : Fresh sh g code state1 p c l x
  pub written : Written h c l x n1 p state1 state2

pub literal-goes : (ss : List Symbol) (sh : Sheet) (g : Goal) (nodes code state state1 state2 : List ℕ) (h n n1 p to c l x : ℕ) → Going ss sh g nodes code state state1 state2 h n n1 p to c l x
    → Means ss sh g nodes code state2 (suc h) n1 (new_alternative sh (left_from sh g code state (path_at state h) (copy_at state h) to) (bindings ss nodes state1 n1) (calls_up_to sh g code state (path_at state h)) ∷ pile_of ss sh g nodes code state h)
literal-goes ss sh g nodes code state state1 state2 h n n1 p to c l x t =
    let all : Means ss sh g nodes code state2 (suc h) n1 (record { literals = left_from sh g code state1 p c l; bindings = bindings ss nodes state1 n1; next = x; calls = calls_up_to sh g code state p } ∷ pile_of ss sh g nodes code state h) =
    replaced ss sh g nodes code state state1 state2 h n n1 p c l x t.piled t.mark t.path t.keeps t.store t.within t.more t.copy t.fresh.stand t.written in
    let lits : left_from sh g code state1 p c l ≡ left_from sh g code state (path_at state h) (copy_at state h) to =
    t.left ∙ (ap (λ (y : ℕ). left_from sh g code state1 y (copy_at state h) to) (sym t.path) ∙ kept-left ss sh g nodes code state state1 h n n t.piled t.keeps (copy_at state h) to (t.piled.each h (omega arith)).copy) in
    let next : x ≡ topmost sh (left_from sh g code state (path_at state h) (copy_at state h) to) = t.fresh.topmost_is ∙ ap (topmost sh) lits in
    let calls : calls_up_to sh g code state p ≡ calls_up_to sh g code state (path_at state h) = ap (calls_up_to sh g code state) (sym t.path) in
    record {
      piled = all.piled;
      is = all.is ∙ (λ i. record { literals = lits i; bindings = bindings ss nodes state1 n1; next = next i; calls = calls i } ∷ pile_of ss sh g nodes code state h);
    }

-- `true`
pub truth-step : (ss : List Symbol) (sh : Sheet) (g : Goal) (nodes code state after : List ℕ) (h n p c l x : ℕ) (r : Body) → Going ss sh g nodes code state state after h n n p (next_literal (literal_at state h)) c l x
    → rest_from sh g code state (copy_at state h) (literal_at state h) ≡ also truth r → Means ss sh g nodes code after (suc h) n (step sh (pile_of ss sh g nodes code state (suc h)))
truth-step ss sh g nodes code state after h n p c l x r t e =
    let all : Means ss sh g nodes code after (suc h) n (new_alternative sh (left_from sh g code state (path_at state h) (copy_at state h) (next_literal (literal_at state h))) (bindings ss nodes state n) (calls_up_to sh g code state (path_at state h)) ∷ pile_of ss sh g nodes code state h) =
    literal-goes ss sh g nodes code state state after h n n p (next_literal (literal_at state h)) c l x t in
    record {
      piled = all.piled;
      is = all.is
          ∙ (ap (λ (y : ℕ). new_alternative sh (left_from sh g code state (path_at state h) (copy_at state h) (next_literal (literal_at state h))) (bindings ss nodes state y) (calls_up_to sh g code state (path_at state h)) ∷ pile_of ss sh g nodes code state h) (sym t.mark)
          ∙ sym (step-truth ss sh g nodes code state h t.piled.program (t.piled.each h (omega arith)) r e));
    }

-- an equation whose sides unify
pub equal-step : (ss : List Symbol) (sh : Sheet) (g : Goal) (nodes code state state1 state2 : List ℕ) (h n n1 p c l x : ℕ) (r : Body) (t u : Term) → Going ss sh g nodes code state state1 state2 h n n1 p (next_literal (literal_at state h)) c l x
    → rest_from sh g code state (copy_at state h) (literal_at state h) ≡ also (equation t u) r
    → unify (bindings ss nodes state n) (copied (copy_at state h) t) (copied (copy_at state h) u) ≡ some (bindings ss nodes state1 n1)
    → Means ss sh g nodes code state2 (suc h) n1 (step sh (pile_of ss sh g nodes code state (suc h)))
equal-step ss sh g nodes code state state1 state2 h n n1 p c l x r t u w e q =
    let all : Means ss sh g nodes code state2 (suc h) n1 (new_alternative sh (left_from sh g code state (path_at state h) (copy_at state h) (next_literal (literal_at state h))) (bindings ss nodes state1 n1) (calls_up_to sh g code state (path_at state h)) ∷ pile_of ss sh g nodes code state h) =
    literal-goes ss sh g nodes code state state1 state2 h n n1 p (next_literal (literal_at state h)) c l x w in
    let unified : unify (bindings ss nodes state (mark_at state h)) (copied (copy_at state h) t) (copied (copy_at state h) u) ≡ some (bindings ss nodes state1 n1) =
    ap (λ (y : ℕ). unify (bindings ss nodes state y) (copied (copy_at state h) t) (copied (copy_at state h) u)) w.mark ∙ q in
    record { piled = all.piled; is = all.is ∙ sym (step-equal ss sh g nodes code state h w.piled.program (w.piled.each h (omega arith)) r t u (bindings ss nodes state1 n1) e unified) }

-- A bracket: the top goes on in the right side, and then the left side is laid on it, at l of copy c.
pub record Laying (sh : Sheet) (g : Goal) (code state1 state2 : List ℕ) (h n p from to c l x : ℕ) : Type 0 where
  pub copy : c ≤ p
  pub left : left_from sh g code state1 p c l ≡ left_from sh g code state1 p from to
  pub fresh : Fresh sh g code state1 p c l x
  pub written : Written (suc h) c l x n p state1 state2

module _ {ss : List Symbol} {sh : Sheet} {g : Goal} {nodes code state state1 state2 : List ℕ} {h n p c d l m x y : ℕ}
    (right : Going ss sh g nodes code state state state1 h n n p (other_at code (literal_at state h)) c l x)
    (left : Laying sh g code state1 state2 h n p (copy_at state h) (next_literal (literal_at state h)) d m y) where
  split-top : Stacked sh g code state n h
  split-top = right.piled.each h (omega arith)

  abbrev split-calls : List Call
  split-calls = calls_up_to sh g code state (path_at state h)

  below_left : Means ss sh g nodes code state1 (suc h) n
      (new_alternative sh (left_from sh g code state (path_at state h) (copy_at state h) (other_at code (literal_at state h))) (bindings ss nodes state n) split-calls ∷ pile_of ss sh g nodes code state h)
  below_left = literal-goes ss sh g nodes code state state state1 h n n p (other_at code (literal_at state h)) c l x right

  same-frames : SameFrames longest_path state state1
  same-frames j q k = right.written.others j (omega arith)

  path-low : p ≤ longest_path
  path-low = let a : path_at state h ≤ longest_path = split-top.low in let b : path_at state h ≡ p = right.path in omega arith

  frames-low : (i : ℕ) → i < p → Frame sh g code state (suc i)
  frames-low i q = split-top.frame i (let b : path_at state h ≡ p = right.path in omega arith)

  copy-low : copy_at state h ≤ p
  copy-low = let a : copy_at state h ≤ path_at state h = split-top.copy in let b : path_at state h ≡ p = right.path in omega arith

  left-lits : left_from sh g code state1 p d m ≡ left_from sh g code state (path_at state h) (copy_at state h) (next_literal (literal_at state h))
  left-lits =
      left.left
      ∙ (same_left sh g code state state1 longest_path same-frames p (copy_at state h) (next_literal (literal_at state h)) path-low copy-low frames-low
      ∙ ap (λ (k : ℕ). left_from sh g code state k (copy_at state h) (next_literal (literal_at state h))) (sym right.path))

  left-calls : calls_up_to sh g code state1 p ≡ split-calls
  left-calls = same-calls sh g code state state1 longest_path same-frames p path-low frames-low ∙ ap (calls_up_to sh g code state) (sym right.path)

  left-binds : bindings ss nodes state1 n ≡ bindings ss nodes state n
  left-binds = bindings-same ss nodes state state1 n right.store (right.written.long, λ j q. right.written.others j (omega arith))

  on-top : Means ss sh g nodes code state2 (suc (suc h)) n
      (record { literals = left_from sh g code state1 p d m; bindings = bindings ss nodes state1 n; next = y; calls = calls_up_to sh g code state1 p } ∷ pile_of ss sh g nodes code state1 (suc h))
  on-top =
      topped ss sh g nodes code state1 state2 (suc h) n n p d m y below_left.piled (omega arith) path-low left.copy
      (λ j q. paths j q (eqb j h) refl) (λ j q. (below_left.piled.each j q).mark)
      (subst (λ (k : ℕ). WithinCopies k state1 n) right.written.path (subst (WithinCopies (path_at state1 h) state1) right.written.mark (below_left.piled.each h (omega arith)).within))
      (λ i q. same-frame sh g code state state1 longest_path same-frames i (let a : p ≤ longest_path = path-low in omega arith) (frames-low i q))
      left.fresh.stand left.written
    where
      paths : (j : ℕ) → j < suc h → (b : Bool) → eqb j h ≡ b → path_at state1 j ≤ p
      paths j q true e = let a : path_at state1 j ≡ p = ap (path_at state1) (eqb-true j h e) ∙ right.written.path in omega arith
      paths j q false e =
          let a : path_at state1 j ≤ path_at state1 h = below_left.piled.longer j h (let z : j ≡ h → ⊥ = eqb-false j h e in omega (arith, z)) (omega arith) in
          let b : path_at state1 h ≡ p = right.written.path in
          omega arith

  -- the words mean the step of the pile
  pub either_step : {u v r : Body} → Parting sh g code state (copy_at state h) (literal_at state h) u v r
      → Means ss sh g nodes code state2 (suc (suc h)) n (step sh (pile_of ss sh g nodes code state (suc h)))
  either_step {u} {v} {r} parting =
      let next : y ≡ topmost sh (left_from sh g code state (path_at state h) (copy_at state h) (next_literal (literal_at state h))) = left.fresh.topmost_is ∙ ap (topmost sh) left-lits in
      let first : ◌≡◌ {A = Alternative}
      (record { literals = left_from sh g code state1 p d m; bindings = bindings ss nodes state1 n; next = y; calls = calls_up_to sh g code state1 p })
      (new_alternative sh (left_from sh g code state (path_at state h) (copy_at state h) (next_literal (literal_at state h))) (bindings ss nodes state n) split-calls) =
      (λ i. record { literals = left-lits i; bindings = left-binds i; next = next i; calls = left-calls i }) in
      record {
        piled = on-top.piled;
        is = on-top.is
            ∙ ((λ i. first i ∷ below_left.is i)
            ∙ (ap (λ (k : ℕ). new_alternative sh (left_from sh g code state (path_at state h) (copy_at state h) (next_literal (literal_at state h))) (bindings ss nodes state k) split-calls
            ∷ new_alternative sh (left_from sh g code state (path_at state h) (copy_at state h) (other_at code (literal_at state h))) (bindings ss nodes state k) split-calls ∷ pile_of ss sh g nodes code state h) (sym right.mark)
            ∙ sym (step-split ss sh g nodes code state h right.piled.program split-top r u v parting)));
      }

-- The top, at a call, goes on to the clause after: `moved` has it in `after`.
module _ (ss : List Symbol) (sh : Sheet) (g : Goal) (nodes code state after : List ℕ) (h n : ℕ) (a : Atom) (cl : Clause) (r : Body) (piled : Piled ss sh g nodes code state (suc h) n)
    (e : rest_from sh g code state (copy_at state h) (literal_at state h) ≡ also (call a) r) (q : clause_at sh (next_at state h) ≡ some cl)
    (w : Written h (copy_at state h) (literal_at state h) (next_for sh a (next_at state h)) (mark_at state h) (path_at state h) state after) where
  pub call-moved : Means ss sh g nodes code after (suc h) n (record { literals = left_from sh g code state (path_at state h) (copy_at state h) (literal_at state h); bindings = bindings ss nodes state (mark_at state h); next = next_for sh a (next_at state h); calls = calls_up_to sh g code state (path_at state h) } ∷ pile_of ss sh g nodes code state h)
  call-moved =
      moved ss sh g nodes code state after h n (next_for sh a (next_at state h)) piled
      (λ o z. subst (λ (y : Atom). NextFor sh y (next_for sh a (next_at state h))) (call-eq a o (subst (λ (y : Body). Calls y o) e z)) (next-for sh a (next_at state h))) w

  same_after : SameFrames longest_path state after
  same_after j l k = w.others j (omega arith)

  after-calls : calls_up_to sh g code after (path_at after h) ≡ calls_up_to sh g code state (path_at state h)
  after-calls = ap (calls_up_to sh g code after) w.path ∙ same-calls sh g code state after longest_path same_after (path_at state h) (piled.each h (omega arith)).low (piled.each h (omega arith)).frame

  after-left : left_from sh g code after (path_at after h) (copy_at after h) (next_literal (literal_at after h)) ≡ left_from sh g code state (path_at state h) (copy_at state h) (next_literal (literal_at state h))
  after-left =
      (λ i. left_from sh g code after (w.path i) (w.copy i) (next_literal (w.literal i)))
      ∙ same_left sh g code state after longest_path same_after (path_at state h) (copy_at state h) (next_literal (literal_at state h)) (piled.each h (omega arith)).low (piled.each h (omega arith)).copy (piled.each h (omega arith)).frame

  -- the head unifies: the clause's body is laid on top of the alternative that has moved on
  pub tried-step : (state1 state2 state3 : List ℕ) (n1 p m c l x : ℕ) → Pushing ss sh g nodes code after state1 state2 h n n1 p m a cl
      → unify (bindings ss nodes state (mark_at state h)) (copied (copy_at state h) (term_of a)) (copied (suc (path_at state h)) (term_of cl.head)) ≡ some (bindings ss nodes state1 n1)
      → c ≤ p → left_from sh g code state2 p c l ≡ left_from sh g code state2 p p (body_at code m) → Fresh sh g code state2 p c l x → Written (suc h) c l x n1 p state2 state3
      → Means ss sh g nodes code state3 (suc (suc h)) n1 (step sh (pile_of ss sh g nodes code state (suc h)))
  tried-step state1 state2 state3 n1 p m c l x t u low left f v =
      let all : Means ss sh g nodes code state3 (suc (suc h)) n1 (record { literals = left_from sh g code state2 p c l; bindings = bindings ss nodes state1 n1; next = x; calls = record { copy = copy_at after h; atom = a } ∷ calls_up_to sh g code after (path_at after h) } ∷ pile_of ss sh g nodes code after (suc h)) =
      pushed ss sh g nodes code after state1 state2 h n n1 p m a cl t state3 c l x low f.stand v in
      let path : p ≡ suc (path_at state h) = (let y : p ≡ path_at after h + 1 = t.path in let z : path_at after h ≡ path_at state h = w.path in omega arith) in
      let lits : left_from sh g code state2 p c l ≡ pending (suc (path_at state h)) cl.body (left_from sh g code state (path_at state h) (copy_at state h) (next_literal (literal_at state h))) =
      left ∙ (pushed-left ss sh g nodes code after state1 state2 h n n1 p m a cl t ∙ ap₂ (λ (y : ℕ) (o : List Pending). pending y cl.body o) path after-left) in
      let next : x ≡ topmost sh (pending (suc (path_at state h)) cl.body (left_from sh g code state (path_at state h) (copy_at state h) (next_literal (literal_at state h)))) = f.topmost_is ∙ ap (topmost sh) lits in
      let made : ◌≡◌ {A = Alternative}
      (record { literals = left_from sh g code state2 p c l; bindings = bindings ss nodes state1 n1; next = x; calls = record { copy = copy_at after h; atom = a } ∷ calls_up_to sh g code after (path_at after h) })
      (new_alternative sh (pending (suc (path_at state h)) cl.body (left_from sh g code state (path_at state h) (copy_at state h) (next_literal (literal_at state h)))) (bindings ss nodes state1 n1) (record { copy = copy_at state h; atom = a } ∷ calls_up_to sh g code state (path_at state h))) =
      (λ i. record { literals = lits i; bindings = bindings ss nodes state1 n1; next = next i; calls = record { copy = w.copy i; atom = a } ∷ after-calls i }) in
      record {
        piled = all.piled;
        is = all.is ∙ ((λ i. made i ∷ call-moved.is i) ∙ sym (step-tried ss sh g nodes code state h piled.program (piled.each h (omega arith)) r a cl e q (bindings ss nodes state1 n1) u));
      }
