-- Laws of what the words of a pile mean: places in a body, frames, alternatives, and how a step changes them. Assumes nothing.
use Prim.Native.Nat.{ℕ, zero, suc, ◌+◌, ◌-◌, ◌*◌, ◌/◌, ◌≤◌, ◌<◌}
use native.Mathlib.Omega.{arith}
use mathlib.Core.Path.{◌≡◌, refl, sym, ap, ap₂, ◌∙◌, subst, subst⁻¹}
use mathlib.Core.Bool.{Bool, true, false}
use mathlib.Core.List.{List, [], ◌∷◌}
use mathlib.Core.Option.{some}
use lib.Dec.{T, eqb, eqb→eq}
use lib.ListN.{length, get_or, drop, set, length-set}
use lib.Seq.{get_or-set_same, get_or-set_other}
use borrow.Author.Tests.{eqb-true, eqb-false, eq-eqb, ne_eqb}
use Rattle.syntax.specs.Limits.{longest_path, literals}
use Rattle.syntax.specs.Terms.{Term, term_of, Atom, Literal, call, equation, truth, falsity, either, Body, done, also, Clause, Sheet, Goal, arity, same_name, same_predicate}
use Rattle.syntax.specs.Words.{literal_length, body_length, truth_kind, falsity_kind, call_kind, equation_kind}
use Rattle.machine.specs.Machine.{Pending, Alternative, path, pending, is_for, first_for, next_for, nth_clause, clause_at}
use Rattle.machine.specs.Low.{Low}
use Rattle.machine.proofs.Tests.{some-none, both, name-eq}
use Rattle.run_layout.specs.Regions.{store_words, frames, alternatives, most_alternatives, state_words, frame_of, alternative_of, literal_size, body_end_kind, split_kind, jump_kind, next_literal, frame_size, alternative_size, literal_from}
use Rattle.run_layout.specs.Rooms.{Clean}
use Rattle.run_layout.specs.Nodes.{Symbol, TermLoaded}
use Rattle.run_layout.specs.State.{bindings, Store, WithinCopies, SameBindings, BindingsKept}
use Rattle.run_layout.specs.Program.{body_at, record_kind, record_place, other_at, PlainLoaded, BodyLoaded, Program}
use Rattle.run_layout.specs.Pile.{body_in, body_of, body_then, drop_body, atom_in, first_atom, Calls, clause_in, caller_of, call_of, rest_from, left_behind, left_from, calls_up_to, copy_at, literal_at, next_at, mark_at, path_at, alternative_at, pile_of, RecordOf, NoJump, Frame, NextFor, Stacked, Piled}
use Rattle.run_layout.proofs.Places.{Item, the_end, a_literal, a_split, a_jump, item-at, drop-none, body-first}
use Rattle.run_layout.proofs.State.{bindings-agree, agrees, within-agrees, SameStore, same-agrees, store_same, bindings-same, no-bindings}

-- ---- bodies

body-clash : (x : Literal) (b : Body) → done ≡ also x b → ⊥
body-clash x b e = let z : ◌≡◌ {A = ℕ} 0 1 = cc in omega arith

also-first : {x y : Literal} {b c : Body} → also x b ≡ also y c → x ≡ y
also-first e = cc

also-rest : {x y : Literal} {b c : Body} → also x b ≡ also y c → b ≡ c
also-rest e = cc

-- a body that begins with a call
pub calls-also : (b : Body) (a : Atom) → Calls b a → (r : Body) × (b ≡ also (call a) r)
calls-also done a h = absurd h
calls-also (also x b) a h = (b, ap (λ (y : Literal). also y b) h)

-- the clause of a number, and numbers of clauses
nth-some : (cls : List Clause) (k : ℕ) → k < length cls → (cl : Clause) × (nth_clause cls k ≡ some cl)
unfolding nth_clause
nth-some [] k l = absurd (let z : k < 0 = l in omega arith)
nth-some (cl ∷ cls) zero l = (cl, refl)
nth-some (cl ∷ cls) (suc k) l = nth-some cls k (let z : suc k < suc (length cls) = l in omega arith)

nth-low : (cls : List Clause) (k : ℕ) (cl : Clause) → nth_clause cls k ≡ some cl → k < length cls
unfolding nth_clause
nth-low [] k cl e = absurd (some-none cl (sym e))
nth-low (x ∷ cls) zero cl e = omega arith
nth-low (x ∷ cls) (suc k) cl e = let z : k < length cls = nth-low cls k cl e in omega arith

pub clause-some : (sh : Sheet) (m : ℕ) → 1 ≤ m → m ≤ length sh.clauses → (cl : Clause) × (clause_at sh m ≡ some cl)
unfolding clause_at
clause-some sh zero h l = absurd (let z : 1 ≤ 0 = h in omega arith)
clause-some sh (suc k) h l = nth-some sh.clauses k (omega arith)

pub clause-low : (sh : Sheet) (m : ℕ) (cl : Clause) → clause_at sh m ≡ some cl → m ≤ length sh.clauses
unfolding clause_at
clause-low sh zero cl e = omega arith
clause-low sh (suc k) cl e = let z : k < length sh.clauses = nth-low sh.clauses k cl e in omega arith

pub clause-body : (sh : Sheet) (g : Goal) (m : ℕ) (cl : Clause) → clause_at sh m ≡ some cl → body_of sh g m ≡ cl.body
unfolding body_of body_in clause_at
clause-body sh g zero cl e = absurd (some-none cl (sym e))
clause-body sh g (suc k) cl e = ap body_in e

-- ---- places

-- the body of a number stands where its word says
body-stands : (ss : List Symbol) (sh : Sheet) (nodes code : List ℕ) (g : Goal) (m : ℕ) → Program ss sh g nodes code → m ≤ length sh.clauses
    → BodyLoaded ss sh nodes code (body_at code m) (body_of sh g m)
unfolding body_of
body-stands ss sh nodes code g zero pr l = pr.goal
body-stands ss sh nodes code g (suc k) pr l =
    let c : (cl : Clause) × (clause_at sh (suc k) ≡ some cl) = clause-some sh (suc k) (omega arith) l in
    subst⁻¹ (BodyLoaded ss sh nodes code (body_at code (suc k))) (clause-body sh g (suc k) c.0 c.1) (pr.clause (suc k) c.0 c.1).body

-- A bracket stands at l: its sides, each with what is behind it, go on from the next record and from the one that is named.
pub record Parting (sh : Sheet) (g : Goal) (code state : List ℕ) (c l : ℕ) (y z r : Body) : Type 0 where
  pub rest : rest_from sh g code state c l ≡ also (either y z) r
  pub left : RecordOf sh g code state c (next_literal l)
  pub left_rest : rest_from sh g code state c (next_literal l) ≡ body_then y r
  pub right : RecordOf sh g code state c (other_at code l)
  pub right_rest : rest_from sh g code state c (other_at code l) ≡ body_then z r

-- A side ends at l: the record that is named is a later one, and the same goes on from there.
pub record Jumping (sh : Sheet) (g : Goal) (code state : List ℕ) (c l : ℕ) : Type 0 where
  pub later : l < other_at code l
  pub place : RecordOf sh g code state c (other_at code l)
  pub rest : rest_from sh g code state c (other_at code l) ≡ rest_from sh g code state c l

-- what stands at a place, and what goes on from there
pub data Here (ss : List Symbol) (sh : Sheet) (g : Goal) (nodes code state : List ℕ) (c l : ℕ) : Type 0 where
  at_end : record_kind code l ≡ body_end_kind → rest_from sh g code state c l ≡ done → Here ss sh g nodes code state c l
  at_literal : (x : Literal) → PlainLoaded ss sh nodes code l x → RecordOf sh g code state c (next_literal l)
      → rest_from sh g code state c l ≡ also x (rest_from sh g code state c (next_literal l)) → Here ss sh g nodes code state c l
  at_split : (y z r : Body) → record_kind code l ≡ split_kind → Parting sh g code state c l y z r → Here ss sh g nodes code state c l
  at_jump : record_kind code l ≡ jump_kind → Jumping sh g code state c l → Here ss sh g nodes code state c l

module _ (ss : List Symbol) (sh : Sheet) (g : Goal) (nodes code state : List ℕ) (c : ℕ) where
  abbrev start : ℕ
  start = body_at code (clause_in state c)

  abbrev stop : ℕ
  stop = body_length (body_of sh g (clause_in state c))

  -- what goes on from record i
  abbrev from : ℕ → Body
  from i = rest_from sh g code state c (literal_from start i)

  from_is : (i : ℕ) → from i ≡ drop_body i (body_of sh g (clause_in state c))
  unfolding rest_from
  from_is i =
      let e : (literal_from start i - start) / literal_size ≡ i = omega arith in
      ap (λ (k : ℕ). drop_body k (body_of sh g (clause_in state c))) e

  module _ (low : clause_in state c ≤ length sh.clauses) where
    place_of : (i l : ℕ) → i ≤ stop → l ≡ literal_from start i → RecordOf sh g code state c l
    place_of i l q e = record { clause = low; index = i; is = e; low = q }

    from-item : (i : ℕ) → Item ss sh nodes code start stop from i → Here ss sh g nodes code state c (literal_from start i)
    from-item i (the_end k e) = at_end k e
    from-item i (a_literal x s q e) =
        let next : next_literal (literal_from start i) ≡ literal_from start (suc i) = omega arith in
        at_literal x s (place_of (suc i) (next_literal (literal_from start i)) q next) (e ∙ ap (λ (y : ℕ). also x (rest_from sh g code state c y)) (sym next))
    from-item i (a_split y z r m n q p e left right) =
        let next : next_literal (literal_from start i) ≡ literal_from start (suc i) = omega arith in
        at_split y z r n.0
        (record {
          rest = e;
          left = place_of (suc i) (next_literal (literal_from start i)) q next;
          left_rest = ap (rest_from sh g code state c) next ∙ left;
          right = place_of m (other_at code (literal_from start i)) p n.1;
          right_rest = ap (rest_from sh g code state c) n.1 ∙ right;
        })
    from-item i (a_jump m n q p e) =
        let other : other_at code (literal_from start i) ≡ literal_from start m = n.1 in
        at_jump n.0
        (record {
          later = (let y : literal_from start i < other_at code (literal_from start i) = omega (arith, q) in y);
          place = place_of m (other_at code (literal_from start i)) p other;
          rest = ap (rest_from sh g code state c) other ∙ e;
        })

-- what stands at a literal's first record, and at the first of a body or its end
abbrev pub FirstStands : List Symbol → Sheet → List ℕ → List ℕ → ℕ → Literal → Type 0
FirstStands ss sh nodes code l (call a) = PlainLoaded ss sh nodes code l (call a)
FirstStands ss sh nodes code l (equation t u) = PlainLoaded ss sh nodes code l (equation t u)
FirstStands ss sh nodes code l truth = PlainLoaded ss sh nodes code l truth
FirstStands ss sh nodes code l falsity = PlainLoaded ss sh nodes code l falsity
FirstStands ss sh nodes code l (either y z) = record_kind code l ≡ split_kind

abbrev pub HeadStands : List Symbol → Sheet → List ℕ → List ℕ → ℕ → Body → Type 0
HeadStands ss sh nodes code l done = record_kind code l ≡ body_end_kind
HeadStands ss sh nodes code l (also x b) = FirstStands ss sh nodes code l x

plain-first : (ss : List Symbol) (sh : Sheet) (nodes code : List ℕ) (l : ℕ) (x : Literal) → PlainLoaded ss sh nodes code l x → FirstStands ss sh nodes code l x
plain-first ss sh nodes code l (call a) s = s
plain-first ss sh nodes code l (equation t u) s = s
plain-first ss sh nodes code l truth s = s
plain-first ss sh nodes code l falsity s = s
plain-first ss sh nodes code l (either y z) s = absurd s

plain-low : (ss : List Symbol) (sh : Sheet) (nodes code : List ℕ) (l : ℕ) (x : Literal) → PlainLoaded ss sh nodes code l x → record_kind code l < body_end_kind
plain-low ss sh nodes code l (call a) s = omega (arith, s.0)
plain-low ss sh nodes code l (equation t u) s = omega (arith, s.0)
plain-low ss sh nodes code l truth s = omega (arith, s)
plain-low ss sh nodes code l falsity s = omega (arith, s)
plain-low ss sh nodes code l (either y z) s = absurd s

side-long : {x : Literal} {y z : Body} → either y z ≡ x → literal_length x ≡ 1 → ⊥
unfolding literal_length
side-long {x} {y} {z} e one = let two : literal_length (either y z) ≡ 1 = ap literal_length e ∙ one in omega (arith, two)

module _ {ss : List Symbol} {sh : Sheet} {g : Goal} {nodes code state : List ℕ} {c l : ℕ} where
  jump-by : record_kind code l ≡ jump_kind → Here ss sh g nodes code state c l → Jumping sh g code state c l
  jump-by k (at_end e r) = absurd (omega (arith, k, e))
  jump-by k (at_literal x s p r) = absurd (omega (arith, k, plain-low ss sh nodes code l x s))
  jump-by k (at_split y z r e p) = absurd (omega (arith, k, e))
  jump-by k (at_jump e j) = j

  split_by : record_kind code l ≡ split_kind → Here ss sh g nodes code state c l → (y : Body) × (z : Body) × (r : Body) × Parting sh g code state c l y z r
  split_by k (at_end e r) = absurd (omega (arith, k, e))
  split_by k (at_literal x s p r) = absurd (omega (arith, k, plain-low ss sh nodes code l x s))
  split_by k (at_split y z r e p) = (y, z, r, p)
  split_by k (at_jump e j) = absurd (omega (arith, k, e))

  head-by : NoJump code l → Here ss sh g nodes code state c l → HeadStands ss sh nodes code l (rest_from sh g code state c l)
  head-by stays (at_end k e) = subst⁻¹ (HeadStands ss sh nodes code l) e k
  head-by stays (at_literal x s p e) = subst⁻¹ (HeadStands ss sh nodes code l) e (plain-first ss sh nodes code l x s)
  head-by stays (at_split y z r k p) = subst⁻¹ (HeadStands ss sh nodes code l) p.rest k
  head-by stays (at_jump k j) = absurd (stays k)

  next-by : NoJump code l → {x : Literal} {b : Body} → literal_length x ≡ 1 → rest_from sh g code state c l ≡ also x b → Here ss sh g nodes code state c l
      → RecordOf sh g code state c (next_literal l) × (rest_from sh g code state c (next_literal l) ≡ b)
  next-by stays {x} {b} one e (at_end k r) = absurd (body-clash x b (sym r ∙ e))
  next-by stays {x} {b} one e (at_literal y s p r) = (p, also-rest (sym r ∙ e))
  next-by stays {x} {b} one e (at_split y z r k p) = absurd (side-long (also-first (sym p.rest ∙ e)) one)
  next-by stays {x} {b} one e (at_jump k j) = absurd (stays k)

module _ {ss : List Symbol} {sh : Sheet} {g : Goal} {nodes code state : List ℕ} {c l : ℕ} (program : Program ss sh g nodes code) (at : RecordOf sh g code state c l) where
  place-body : BodyLoaded ss sh nodes code (body_at code (clause_in state c)) (body_of sh g (clause_in state c))
  place-body = body-stands ss sh nodes code g (clause_in state c) program at.clause

  pub place_here : Here ss sh g nodes code state c l
  place_here =
      subst⁻¹ (Here ss sh g nodes code state c) at.is
      (from-item ss sh g nodes code state c at.clause at.index
      (item-at ss sh nodes code (body_at code (clause_in state c)) (body_of sh g (clause_in state c)) (from ss sh g nodes code state c) place-body (from_is ss sh g nodes code state c) at.index at.low))

  pub place-room : l + literal_size ≤ length code
  place-room =
      let e : l ≡ literal_from (body_at code (clause_in state c)) at.index = at.is in
      let low : at.index ≤ body_length (body_of sh g (clause_in state c)) = at.low in
      let room : literal_from (body_at code (clause_in state c)) (body_length (body_of sh g (clause_in state c)) + 1) ≤ length code = place-body.room in
      omega arith

  pub place-jump : record_kind code l ≡ jump_kind → Jumping sh g code state c l
  place-jump k = jump-by k place_here

  pub place-split : record_kind code l ≡ split_kind → (y : Body) × (z : Body) × (r : Body) × Parting sh g code state c l y z r
  place-split k = split_by k place_here

  module _ (stays : NoJump code l) where
    -- what is left of a copy's body from a place on begins with what stands there
    pub place-stands : HeadStands ss sh nodes code l (rest_from sh g code state c l)
    place-stands = head-by stays place_here

    -- behind a literal that is no bracket is a place, and what follows it
    module _ {x : Literal} {b : Body} (one : literal_length x ≡ 1) (e : rest_from sh g code state c l ≡ also x b) where
      pub place-next : RecordOf sh g code state c (next_literal l)
      place-next = (next-by stays one e place_here).0

      pub rest-next : rest_from sh g code state c (next_literal l) ≡ b
      rest-next = (next-by stays one e place_here).1

-- ---- what a record's kind tells

module _ (ss : List Symbol) (sh : Sheet) (nodes code : List ℕ) (l : ℕ) where
  pub kind-small : (b : Body) → HeadStands ss sh nodes code l b → record_kind code l ≤ split_kind
  kind-small done h = omega (arith, h)
  kind-small (also (call a) b) h = omega (arith, h.0)
  kind-small (also (equation t u) b) h = omega (arith, h.0)
  kind-small (also truth b) h = omega (arith, h)
  kind-small (also falsity b) h = omega (arith, h)
  kind-small (also (either y z) b) h = omega (arith, h)

  pub kind-done : (b : Body) → HeadStands ss sh nodes code l b → record_kind code l ≡ body_end_kind → b ≡ done
  kind-done done h k = refl
  kind-done (also (call a) b) h k = absurd (omega (arith, h.0, k))
  kind-done (also (equation t u) b) h k = absurd (omega (arith, h.0, k))
  kind-done (also truth b) h k = absurd (omega (arith, h, k))
  kind-done (also falsity b) h k = absurd (omega (arith, h, k))
  kind-done (also (either y z) b) h k = absurd (omega (arith, h, k))

  pub kind-truth : (b : Body) → HeadStands ss sh nodes code l b → record_kind code l ≡ truth_kind → (r : Body) × (b ≡ also truth r)
  kind-truth done h k = absurd (omega (arith, h, k))
  kind-truth (also (call a) b) h k = absurd (omega (arith, h.0, k))
  kind-truth (also (equation t u) b) h k = absurd (omega (arith, h.0, k))
  kind-truth (also truth b) h k = (b, refl)
  kind-truth (also falsity b) h k = absurd (omega (arith, h, k))
  kind-truth (also (either y z) b) h k = absurd (omega (arith, h, k))

  pub kind-falsity : (b : Body) → HeadStands ss sh nodes code l b → record_kind code l ≡ falsity_kind → (r : Body) × (b ≡ also falsity r)
  kind-falsity done h k = absurd (omega (arith, h, k))
  kind-falsity (also (call a) b) h k = absurd (omega (arith, h.0, k))
  kind-falsity (also (equation t u) b) h k = absurd (omega (arith, h.0, k))
  kind-falsity (also truth b) h k = absurd (omega (arith, h, k))
  kind-falsity (also falsity b) h k = (b, refl)
  kind-falsity (also (either y z) b) h k = absurd (omega (arith, h, k))

  -- a call: its atom stands at its place, and its other word is the topmost clause
  pub kind-call : (b : Body) → HeadStands ss sh nodes code l b → record_kind code l ≡ call_kind → (a : Atom) × (r : Body) × (b ≡ also (call a) r) × TermLoaded ss nodes (record_place code l) (term_of a) × (other_at code l ≡ next_for sh a 0)
  kind-call done h k = absurd (omega (arith, h, k))
  kind-call (also (call a) b) h k = (a, b, refl, h.1, h.2)
  kind-call (also (equation t u) b) h k = absurd (omega (arith, h.0, k))
  kind-call (also truth b) h k = absurd (omega (arith, h, k))
  kind-call (also falsity b) h k = absurd (omega (arith, h, k))
  kind-call (also (either y z) b) h k = absurd (omega (arith, h, k))

  pub kind-equation : (b : Body) → HeadStands ss sh nodes code l b → record_kind code l ≡ equation_kind → (t : Term) × (u : Term) × (r : Body) × (b ≡ also (equation t u) r) × TermLoaded ss nodes (record_place code l) t × TermLoaded ss nodes (other_at code l) u
  kind-equation done h k = absurd (omega (arith, h, k))
  kind-equation (also (call a) b) h k = absurd (omega (arith, h.0, k))
  kind-equation (also (equation t u) b) h k = (t, u, b, refl, h.1, h.2)
  kind-equation (also truth b) h k = absurd (omega (arith, h, k))
  kind-equation (also falsity b) h k = absurd (omega (arith, h, k))
  kind-equation (also (either y z) b) h k = absurd (omega (arith, h, k))

-- ---- what is left behind a copy

module _ (sh : Sheet) (g : Goal) (code state : List ℕ) where
  -- what copy suc k leaves behind, by whether c is that copy
  abbrev behind : ℕ → ℕ → Bool → List Pending
  behind k c b =
      elim b [
        | true ↦ pending (caller_of state (suc k)) (rest_from sh g code state (caller_of state (suc k)) (next_literal (call_of state (suc k)))) (left_behind sh g code state k (caller_of state (suc k)))
        | false ↦ left_behind sh g code state k c
      ]

  pub left_here : (k : ℕ) → left_behind sh g code state (suc k) (suc k) ≡ pending (caller_of state (suc k)) (rest_from sh g code state (caller_of state (suc k)) (next_literal (call_of state (suc k)))) (left_behind sh g code state k (caller_of state (suc k)))
  unfolding left_behind
  left_here k = ap (behind k (suc k)) (eq-eqb (suc k) (suc k) refl)

  pub left-under : (k c : ℕ) → c ≤ k → left_behind sh g code state (suc k) c ≡ left_behind sh g code state k c
  unfolding left_behind
  left-under k c l = ap (behind k c) (ne_eqb c (suc k) (λ e. omega arith))

  -- Frames above a copy are of no account for what it leaves behind.
  pub left-same-top : (k c : ℕ) → c ≤ k → left_behind sh g code state k c ≡ left_behind sh g code state c c
  left-same-top zero c l = let e : c ≡ 0 = omega arith in subst⁻¹ (λ (y : ℕ). left_behind sh g code state 0 y ≡ left_behind sh g code state y y) e refl
  left-same-top (suc k) c l = go (eqb c (suc k)) refl (λ h. left-under k c h ∙ left-same-top k c h)
    where
      go : (b : Bool) → eqb c (suc k) ≡ b → (c ≤ k → left_behind sh g code state (suc k) c ≡ left_behind sh g code state c c) → left_behind sh g code state (suc k) c ≡ left_behind sh g code state c c
      go true e ih = subst⁻¹ (λ (y : ℕ). left_behind sh g code state (suc k) y ≡ left_behind sh g code state y y) (eqb-true c (suc k) e) refl
      go false e ih = ih (let z : c ≡ suc k → ⊥ = eqb-false c (suc k) e in omega (arith, z))

-- copy suc c is at its end: its caller goes on behind the call
pub record Climbed (sh : Sheet) (g : Goal) (code state : List ℕ) (k c l : ℕ) : Type 0 where
  pub left : left_from sh g code state k (suc c) l ≡ left_from sh g code state k (caller_of state (suc c)) (next_literal (call_of state (suc c)))
  pub place : RecordOf sh g code state (caller_of state (suc c)) (next_literal (call_of state (suc c)))
  pub below : caller_of state (suc c) < suc c

one-call : (a : Atom) → literal_length (call a) ≡ 1
unfolding literal_length
one-call a = refl

module _ {ss : List Symbol} {sh : Sheet} {g : Goal} {nodes code : List ℕ} (program : Program ss sh g nodes code) (state : List ℕ) where
  pub frame-next : (k : ℕ) → Frame sh g code state k → RecordOf sh g code state (caller_of state k) (next_literal (call_of state k))
  frame-next k f =
      let r : (r : Body) × (rest_from sh g code state (caller_of state k) (call_of state k) ≡ also (call f.atom) r) = calls-also (rest_from sh g code state (caller_of state k) (call_of state k)) f.atom f.calls in
      place-next program f.place f.stays (one-call f.atom) r.1

  pub climb : (k c l : ℕ) → ((i : ℕ) → i < k → Frame sh g code state (suc i)) → suc c ≤ k → rest_from sh g code state (suc c) l ≡ done → Climbed sh g code state k c l
  unfolding left_from pending
  climb k c l frames low e =
      let f : Frame sh g code state (suc c) = frames c (omega arith) in
      let b : caller_of state (suc c) < suc c = f.below in
      let up : left_behind sh g code state c (caller_of state (suc c)) ≡ left_behind sh g code state k (caller_of state (suc c)) =
      left-same-top sh g code state c (caller_of state (suc c)) (omega arith) ∙ sym (left-same-top sh g code state k (caller_of state (suc c)) (omega arith)) in
      record {
        left = ap (λ (y : Body). pending (suc c) y (left_behind sh g code state k (suc c))) e
            ∙ (left-same-top sh g code state k (suc c) low
            ∙ (left_here sh g code state c
            ∙ ap (pending (caller_of state (suc c)) (rest_from sh g code state (caller_of state (suc c)) (next_literal (call_of state (suc c))))) up));
        place = frame-next (suc c) f;
        below = b;
      }

-- ---- words that are as they were

-- the frames of copies 0 to k
abbrev pub SameFrames : ℕ → List ℕ → List ℕ → Type 0
SameFrames k before after = (j : ℕ) → store_words ≤ j → j < frame_of (k + 1) → get_or after j 0 ≡ get_or before j 0

-- the first h alternatives, the frames of copies 0 to k, and the first n entries of the trail
pub record SameUpTo (h k n : ℕ) (before after : List ℕ) : Type 0 where
  pub frame : SameFrames k before after
  pub alternative : (j : ℕ) → alternatives ≤ j → j < alternative_of h → get_or after j 0 ≡ get_or before j 0
  pub agree : SameBindings n before after

agrees-less : (m n : ℕ) (before after : List ℕ) → m ≤ n → SameBindings n before after → SameBindings m before after
agrees-less m n before after l a = record { entry = λ i q. a.entry i (omega arith); cell = λ i q. a.cell i (omega arith) }

pub keeps_same : (h k n : ℕ) (before after : List ℕ) → BindingsKept n before after → SameUpTo h k n before after
keeps_same h k n before after s = record { frame = λ j l q. s.others j l; alternative = λ j l q. s.others j (omega arith); agree = agrees n before after s }

pub same-clause : (before after : List ℕ) (k : ℕ) → SameFrames k before after → (c : ℕ) → c ≤ k → clause_in after c ≡ clause_in before c
unfolding clause_in
same-clause before after k s zero l = refl
same-clause before after k s (suc c) l = s (frame_of (suc c)) (omega arith) (omega arith)

same-caller : (before after : List ℕ) (k : ℕ) → SameFrames k before after → (c : ℕ) → c ≤ k → caller_of after c ≡ caller_of before c
same-caller before after k s c l = s (frame_of c + 1) (omega arith) (omega arith)

same-call : (before after : List ℕ) (k : ℕ) → SameFrames k before after → (c : ℕ) → c ≤ k → call_of after c ≡ call_of before c
same-call before after k s c l = s (frame_of c + 2) (omega arith) (omega arith)

module _ (sh : Sheet) (g : Goal) (code before after : List ℕ) (k : ℕ) (same : SameFrames k before after) where
  pub same_rest : (c l : ℕ) → c ≤ k → rest_from sh g code after c l ≡ rest_from sh g code before c l
  unfolding rest_from
  same_rest c l q = ap (λ (m : ℕ). drop_body ((l - body_at code m) / literal_size) (body_of sh g m)) (same-clause before after k same c q)

  pub same_place : (c l : ℕ) → c ≤ k → RecordOf sh g code before c l → RecordOf sh g code after c l
  same_place c l q p =
      let e : clause_in after c ≡ clause_in before c = same-clause before after k same c q in
      record {
        clause = subst⁻¹ (λ (m : ℕ). m ≤ length sh.clauses) e p.clause;
        index = p.index;
        is = subst⁻¹ (λ (m : ℕ). l ≡ literal_from (body_at code m) p.index) e p.is;
        low = subst⁻¹ (λ (m : ℕ). p.index ≤ body_length (body_of sh g m)) e p.low;
      }

  pub same-frame : (c : ℕ) → suc c ≤ k → Frame sh g code before (suc c) → Frame sh g code after (suc c)
  same-frame c q f =
      let e : caller_of after (suc c) ≡ caller_of before (suc c) = same-caller before after k same (suc c) q in
      let d : call_of after (suc c) ≡ call_of before (suc c) = same-call before after k same (suc c) q in
      let b : caller_of before (suc c) < suc c = f.below in
      let low : caller_of before (suc c) ≤ k = omega arith in
      record {
        clause = subst⁻¹ (λ (m : ℕ). m ≤ length sh.clauses) (same-clause before after k same (suc c) q) f.clause;
        below = (let z : caller_of after (suc c) < suc c = omega arith in z);
        place = subst⁻¹ (λ (y : ℕ). RecordOf sh g code after y (call_of after (suc c))) e (subst⁻¹ (RecordOf sh g code after (caller_of before (suc c))) d (same_place (caller_of before (suc c)) (call_of before (suc c)) low f.place));
        stays = subst⁻¹ (NoJump code) d f.stays;
        atom = f.atom;
        calls = subst⁻¹ (λ (y : Body). Calls y f.atom) (ap₂ (rest_from sh g code after) e d ∙ same_rest (caller_of before (suc c)) (call_of before (suc c)) low) f.calls;
      }

  pub same-behind : (p c : ℕ) → p ≤ k → c ≤ p → ((i : ℕ) → i < p → Frame sh g code before (suc i)) → left_behind sh g code after p c ≡ left_behind sh g code before p c
  unfolding left_behind
  same-behind zero c q l frames = refl
  same-behind (suc p) c q l frames =
      let f : Frame sh g code before (suc p) = frames p (omega arith) in
      let b : caller_of before (suc p) < suc p = f.below in
      let e : caller_of after (suc p) ≡ caller_of before (suc p) = same-caller before after k same (suc p) q in
      let d : call_of after (suc p) ≡ call_of before (suc p) = same-call before after k same (suc p) q in
      let r : rest_from sh g code after (caller_of after (suc p)) (next_literal (call_of after (suc p))) ≡ rest_from sh g code before (caller_of before (suc p)) (next_literal (call_of before (suc p))) =
      ap₂ (λ (x y : ℕ). rest_from sh g code after x (next_literal y)) e d ∙ same_rest (caller_of before (suc p)) (next_literal (call_of before (suc p))) (omega arith) in
      let t : left_behind sh g code after p (caller_of after (suc p)) ≡ left_behind sh g code before p (caller_of before (suc p)) =
      ap (left_behind sh g code after p) e ∙ same-behind p (caller_of before (suc p)) (omega arith) (omega arith) (λ i z. frames i (omega arith)) in
      go (eqb c (suc p)) refl e r t (λ z. same-behind p c (omega arith) z (λ i y. frames i (omega arith)))
    where
      go : (b : Bool) → eqb c (suc p) ≡ b → caller_of after (suc p) ≡ caller_of before (suc p)
          → rest_from sh g code after (caller_of after (suc p)) (next_literal (call_of after (suc p))) ≡ rest_from sh g code before (caller_of before (suc p)) (next_literal (call_of before (suc p)))
          → left_behind sh g code after p (caller_of after (suc p)) ≡ left_behind sh g code before p (caller_of before (suc p))
          → (c ≤ p → left_behind sh g code after p c ≡ left_behind sh g code before p c)
          → behind sh g code after p c b ≡ behind sh g code before p c b
      go true w e r t ih = λ i. pending (e i) (r i) (t i)
      go false w e r t ih = ih (let z : c ≡ suc p → ⊥ = eqb-false c (suc p) w in omega (arith, z))

  pub same_left : (p c l : ℕ) → p ≤ k → c ≤ p → ((i : ℕ) → i < p → Frame sh g code before (suc i)) → left_from sh g code after p c l ≡ left_from sh g code before p c l
  unfolding left_from
  same_left p c l q h frames = ap₂ (pending c) (same_rest c l (omega arith)) (same-behind p c q h frames)

  pub same-calls : (p : ℕ) → p ≤ k → ((i : ℕ) → i < p → Frame sh g code before (suc i)) → calls_up_to sh g code after p ≡ calls_up_to sh g code before p
  unfolding calls_up_to
  same-calls zero q frames = refl
  same-calls (suc p) q frames =
      let f : Frame sh g code before (suc p) = frames p (omega arith) in
      let b : caller_of before (suc p) < suc p = f.below in
      let e : caller_of after (suc p) ≡ caller_of before (suc p) = same-caller before after k same (suc p) q in
      let d : call_of after (suc p) ≡ call_of before (suc p) = same-call before after k same (suc p) q in
      let r : rest_from sh g code after (caller_of after (suc p)) (call_of after (suc p)) ≡ rest_from sh g code before (caller_of before (suc p)) (call_of before (suc p)) =
      ap₂ (rest_from sh g code after) e d ∙ same_rest (caller_of before (suc p)) (call_of before (suc p)) (omega arith) in
      let t : calls_up_to sh g code after p ≡ calls_up_to sh g code before p = same-calls p (omega arith) (λ i z. frames i (omega arith)) in
      λ i. record { copy = e i; atom = first_atom (r i) } ∷ t i

-- alternatives whose words are as they were
module _ (before after : List ℕ) (h k n : ℕ) (same : SameUpTo h k n before after) (j : ℕ) (low : j < h) where
  pub same-copy_at : copy_at after j ≡ copy_at before j
  same-copy_at = same.alternative (alternative_of j) (omega arith) (omega arith)

  pub same-literal_at : literal_at after j ≡ literal_at before j
  same-literal_at = same.alternative (alternative_of j + 1) (omega arith) (omega arith)

  pub same-next_at : next_at after j ≡ next_at before j
  same-next_at = same.alternative (alternative_of j + 2) (omega arith) (omega arith)

  pub same-mark_at : mark_at after j ≡ mark_at before j
  same-mark_at = same.alternative (alternative_of j + 3) (omega arith) (omega arith)

  pub same-path_at : path_at after j ≡ path_at before j
  same-path_at = same.alternative (alternative_of j + 4) (omega arith) (omega arith)

module _ (ss : List Symbol) (sh : Sheet) (g : Goal) (nodes code before after : List ℕ) (h k n : ℕ) (same : SameUpTo h k n before after) (j n0 : ℕ) (low : j < h) (path : path_at before j ≤ k) (mark : mark_at before j ≤ n) (s : Stacked sh g code before n0 j) where
  pub same-alternative : alternative_at ss sh g nodes code after j ≡ alternative_at ss sh g nodes code before j
  unfolding alternative_at
  same-alternative =
      let p : path_at after j ≡ path_at before j = same-path_at before after h k n same j low in
      let c : copy_at after j ≡ copy_at before j = same-copy_at before after h k n same j low in
      let l : literal_at after j ≡ literal_at before j = same-literal_at before after h k n same j low in
      let m : mark_at after j ≡ mark_at before j = same-mark_at before after h k n same j low in
      let x : next_at after j ≡ next_at before j = same-next_at before after h k n same j low in
      let lits : left_from sh g code after (path_at after j) (copy_at after j) (literal_at after j) ≡ left_from sh g code before (path_at before j) (copy_at before j) (literal_at before j) =
      (λ i. left_from sh g code after (p i) (c i) (l i)) ∙ same_left sh g code before after k same.frame (path_at before j) (copy_at before j) (literal_at before j) path s.copy s.frame in
      let binds : bindings ss nodes after (mark_at after j) ≡ bindings ss nodes before (mark_at before j) =
      ap (bindings ss nodes after) m ∙ bindings-agree ss nodes before after (mark_at before j) n mark same.agree in
      let cs : calls_up_to sh g code after (path_at after j) ≡ calls_up_to sh g code before (path_at before j) =
      ap (calls_up_to sh g code after) p ∙ same-calls sh g code before after k same.frame (path_at before j) path s.frame in
      λ i. record { literals = lits i; bindings = binds i; next = x i; calls = cs i }

  pub same-stacked : (n1 : ℕ) → mark_at before j ≤ n1 → Stacked sh g code after n1 j
  same-stacked n1 q =
      let p : path_at after j ≡ path_at before j = same-path_at before after h k n same j low in
      let c : copy_at after j ≡ copy_at before j = same-copy_at before after h k n same j low in
      let l : literal_at after j ≡ literal_at before j = same-literal_at before after h k n same j low in
      let m : mark_at after j ≡ mark_at before j = same-mark_at before after h k n same j low in
      let x : next_at after j ≡ next_at before j = same-next_at before after h k n same j low in
      let cp : copy_at before j ≤ path_at before j = s.copy in
      let pl : path_at before j ≤ longest_path = s.low in
      let cl : copy_at before j ≤ k = omega arith in
      let r : rest_from sh g code after (copy_at after j) (literal_at after j) ≡ rest_from sh g code before (copy_at before j) (literal_at before j) =
      ap₂ (rest_from sh g code after) c l ∙ same_rest sh g code before after k same.frame (copy_at before j) (literal_at before j) cl in
      let ag : SameBindings (mark_at before j) before after = agrees-less (mark_at before j) n before after mark same.agree in
      record {
        low = (let z : path_at after j ≤ longest_path = omega arith in z);
        copy = (let z : copy_at after j ≤ path_at after j = omega arith in z);
        mark = (let z : mark_at after j ≤ n1 = omega arith in z);
        within = subst⁻¹ (λ (y : ℕ). WithinCopies y after (mark_at after j)) p (subst⁻¹ (WithinCopies (path_at before j) after) m (within-agrees (path_at before j) (mark_at before j) (mark_at before j) before after (omega arith) ag s.within));
        frame = λ i z. same-frame sh g code before after k same.frame i (omega arith) (s.frame i (let y : i < path_at after j = z in omega arith));
        place = subst⁻¹ (λ (y : ℕ). RecordOf sh g code after y (literal_at after j)) c (subst⁻¹ (RecordOf sh g code after (copy_at before j)) l (same_place sh g code before after k same.frame (copy_at before j) (literal_at before j) cl s.place));
        stays = subst⁻¹ (NoJump code) l s.stays;
        ends = λ e. c ∙ s.ends (sym r ∙ e);
        next = λ a w. subst⁻¹ (NextFor sh a) x (s.next a (subst (λ (y : Body). Calls y a) r w));
      }

pub same-pile : (ss : List Symbol) (sh : Sheet) (g : Goal) (nodes code before after : List ℕ) (h k n n0 : ℕ) → SameUpTo h k n before after → ((j : ℕ) → j < h → Stacked sh g code before n0 j × (path_at before j ≤ k) × (mark_at before j ≤ n)) → pile_of ss sh g nodes code after h ≡ pile_of ss sh g nodes code before h
unfolding pile_of
same-pile ss sh g nodes code before after zero k n n0 same each = refl
same-pile ss sh g nodes code before after (suc h) k n n0 same each =
    let e : Stacked sh g code before n0 h × (path_at before h ≤ k) × (mark_at before h ≤ n) = each h (omega arith) in
    let top : alternative_at ss sh g nodes code after h ≡ alternative_at ss sh g nodes code before h = same-alternative ss sh g nodes code before after (suc h) k n same h n0 (omega arith) e.1 e.2 e.0 in
    let rest : pile_of ss sh g nodes code after h ≡ pile_of ss sh g nodes code before h = same-pile ss sh g nodes code before after h k n n0 (record { frame = same.frame; alternative = λ j l q. same.alternative j l (omega arith); agree = same.agree }) (λ j l. each j (omega arith)) in
    λ i. top i ∷ rest i

-- ---- a body's first literal

-- from its first literal on, all of a body is left
body-place : (sh : Sheet) (g : Goal) (code state : List ℕ) (c m : ℕ) → clause_in state c ≡ m → m ≤ length sh.clauses → RecordOf sh g code state c (body_at code m)
body-place sh g code state c m e l =
    record {
      clause = subst⁻¹ (λ (y : ℕ). y ≤ length sh.clauses) e l;
      index = 0;
      is = subst⁻¹ (λ (y : ℕ). body_at code m ≡ literal_from (body_at code y) 0) e (let z : body_at code m ≡ literal_from (body_at code m) 0 = omega arith in z);
      low = omega arith;
    }

body-rest : (sh : Sheet) (g : Goal) (code state : List ℕ) (c m : ℕ) → clause_in state c ≡ m → rest_from sh g code state c (body_at code m) ≡ body_of sh g m
unfolding rest_from
body-rest sh g code state c m e =
    let z : (body_at code m - body_at code m) / literal_size ≡ 0 = omega arith in
    ap (λ (y : ℕ). drop_body ((body_at code m - body_at code y) / literal_size) (body_of sh g y)) e ∙ (ap (λ (i : ℕ). drop_body i (body_of sh g m)) z ∙ drop-none (body_of sh g m))

pub entered-place : (sh : Sheet) (g : Goal) (code state : List ℕ) (k m : ℕ) (cl : Clause) → clause_at sh m ≡ some cl → clause_in state (suc k) ≡ m → RecordOf sh g code state (suc k) (body_at code m)
entered-place sh g code state k m cl q e = body-place sh g code state (suc k) m e (clause-low sh m cl q)

pub entered-rest : (sh : Sheet) (g : Goal) (code state : List ℕ) (k m : ℕ) (cl : Clause) → clause_at sh m ≡ some cl → clause_in state (suc k) ≡ m → rest_from sh g code state (suc k) (body_at code m) ≡ cl.body
entered-rest sh g code state k m cl q e = body-rest sh g code state (suc k) m e ∙ clause-body sh g m cl q

pub goal-place : (sh : Sheet) (g : Goal) (code state : List ℕ) → RecordOf sh g code state 0 (body_at code 0)
unfolding clause_in
goal-place sh g code state = body-place sh g code state 0 0 refl (omega arith)

pub goal-rest : (sh : Sheet) (g : Goal) (code state : List ℕ) → rest_from sh g code state 0 (body_at code 0) ≡ g.body
unfolding clause_in body_of
goal-rest sh g code state = body-rest sh g code state 0 0 refl

-- a body's first record ends no side
pub body-stays : {ss : List Symbol} {sh : Sheet} {g : Goal} {nodes code : List ℕ} → Program ss sh g nodes code → (m : ℕ) → m ≤ length sh.clauses → NoJump code (body_at code m)
body-stays {ss} {sh} {g} {nodes} {code} program m l = body-first ss sh nodes code (body_at code m) (body_of sh g m) (body-stands ss sh nodes code g m program l)

-- ---- next clauses

nth_drop : (k i : ℕ) (cls : List Clause) → nth_clause cls (k + i) ≡ nth_clause (drop k cls) i
unfolding nth_clause
nth_drop zero i cls = ap (nth_clause cls) (let e : 0 + i ≡ i = omega arith in e)
nth_drop (suc k) i [] = refl
nth_drop (suc k) i (cl ∷ cls) = ap (nth_clause (cl ∷ cls)) (let e : suc k + i ≡ suc (k + i) = omega arith in e) ∙ nth_drop k i cls

-- the search among clauses that have the numbers from suc k on
first-for : (sh : Sheet) (a : Atom) (k : ℕ) (cls : List Clause) → ((i : ℕ) → clause_at sh (suc (k + i)) ≡ nth_clause cls i) → NextFor sh a (first_for a (suc k) cls)
unfolding first_for nth_clause
first-for sh a k [] same = tt
first-for sh a k (cl ∷ cls) same = go (is_for a cl) refl (first-for sh a (suc k) cls (λ i. ap (clause_at sh) (let e : suc (suc k + i) ≡ suc (k + suc i) = omega arith in e) ∙ same (suc i)))
  where
    go : (b : Bool) → is_for a cl ≡ b → NextFor sh a (first_for a (suc (suc k)) cls) → NextFor sh a (elim b [ true ↦ suc k | false ↦ first_for a (suc (suc k)) cls ])
    go true e ih = (cl, ap (clause_at sh) (let e : suc k ≡ suc (k + 0) = omega arith in e) ∙ same 0, subst T (sym e) tt)
    go false e ih = ih

-- The next clause for an atom is one of its predicate, or none.
pub next-for : (sh : Sheet) (a : Atom) (k : ℕ) → NextFor sh a (next_for sh a k)
unfolding next_for clause_at
next-for sh a k = first-for sh a k (drop k sh.clauses) (λ i. nth_drop k i sh.clauses)

pub next-clause : (sh : Sheet) (a : Atom) (m : ℕ) → 1 ≤ m → NextFor sh a m → (cl : Clause) × (clause_at sh m ≡ some cl) × T (is_for a cl)
next-clause sh a zero l n = absurd (let z : 1 ≤ 0 = l in omega arith)
next-clause sh a (suc k) l n = n

pub next_low : (sh : Sheet) (a : Atom) (m : ℕ) → NextFor sh a m → m ≤ length sh.clauses
next_low sh a zero n = omega arith
next_low sh a (suc k) n = clause-low sh (suc k) n.0 n.1

first-same : (a b : Atom) (k : ℕ) (cls : List Clause) → a.name ≡ b.name → arity a.args ≡ arity b.args → first_for a k cls ≡ first_for b k cls
unfolding first_for
first-same a b k [] p q = refl
first-same a b k (cl ∷ cls) p q =
    let e : is_for a cl ≡ is_for b cl = (λ i. same_predicate cl.head.name (arity cl.head.args) (p i) (q i)) in
    ap₂ (λ (t : Bool) (r : ℕ). elim t [ true ↦ k | false ↦ r ]) e (first-same a b (suc k) cls p q)

-- Clauses of one predicate have the same next clauses.
pub next-head : (sh : Sheet) (a : Atom) (cl : Clause) (k : ℕ) → T (is_for a cl) → next_for sh a k ≡ next_for sh cl.head k
unfolding next_for
next-head sh a cl k h =
    let w : T (eqb (arity cl.head.args) (arity a.args)) × T (same_name cl.head.name a.name) = both (eqb (arity cl.head.args) (arity a.args)) (same_name cl.head.name a.name) h in
    first-same a cl.head (suc k) (drop k sh.clauses) (sym (name-eq cl.head.name a.name w.1)) (sym (eqb→eq (arity cl.head.args) (arity a.args) w.0))

-- ---- the height of a pile

-- as many calls as copies made
pub calls_count : (sh : Sheet) (g : Goal) (code state : List ℕ) (k : ℕ) → length (calls_up_to sh g code state k) ≡ k
unfolding calls_up_to
calls_count sh g code state zero = refl
calls_count sh g code state (suc k) = ap suc (calls_count sh g code state k)

module _ (ss : List Symbol) (sh : Sheet) (g : Goal) (nodes code state : List ℕ) where
  pub pile-count : (h : ℕ) → length (pile_of ss sh g nodes code state h) ≡ h
  unfolding pile_of
  pile-count zero = refl
  pile-count (suc h) = ap suc (pile-count h)

  -- the height over the top's path
  pub path-high : (h : ℕ) → Low (pile_of ss sh g nodes code state (suc h)) → suc h ≤ literals * (path_at state h + 1)
  unfolding pile_of alternative_at
  path-high h low =
      let a : suc (length (pile_of ss sh g nodes code state h)) ≤ literals * suc (path (alternative_at ss sh g nodes code state h)) = low.0.height in
      let b : length (pile_of ss sh g nodes code state h) ≡ h = pile-count h in
      let d : path (alternative_at ss sh g nodes code state h) ≡ path_at state h = calls_count sh g code state (path_at state h) in
      omega arith

pub height : (ss : List Symbol) (sh : Sheet) (g : Goal) (nodes code state : List ℕ) (h n : ℕ) → Piled ss sh g nodes code state h n → Low (pile_of ss sh g nodes code state h) → h ≤ most_alternatives
height ss sh g nodes code state zero n piled low = omega arith
height ss sh g nodes code state (suc h) n piled low =
    let a : suc h ≤ literals * (path_at state h + 1) = path-high ss sh g nodes code state h low in
    let b : path_at state h ≤ longest_path = (piled.each h (omega arith)).low in
    omega arith

-- paths and trails of the lower alternatives are no longer than those of the top
module _ (ss : List Symbol) (sh : Sheet) (g : Goal) (nodes code state : List ℕ) (h n : ℕ) (piled : Piled ss sh g nodes code state (suc h) n) (j : ℕ) (low : j < suc h) where
  pub mark-top : mark_at state j ≤ mark_at state h
  mark-top = go (eqb j h) refl
    where
      go : (b : Bool) → eqb j h ≡ b → mark_at state j ≤ mark_at state h
      go true e = subst⁻¹ (λ (y : ℕ). mark_at state y ≤ mark_at state h) (eqb-true j h e) (omega arith)
      go false e = piled.later j h (let z : j ≡ h → ⊥ = eqb-false j h e in omega (arith, z)) (omega arith)

  pub path-top : path_at state j ≤ path_at state h
  path-top = go (eqb j h) refl
    where
      go : (b : Bool) → eqb j h ≡ b → path_at state j ≤ path_at state h
      go true e = subst⁻¹ (λ (y : ℕ). path_at state y ≤ path_at state h) (eqb-true j h e) (omega arith)
      go false e = piled.longer j h (let z : j ≡ h → ⊥ = eqb-false j h e in omega (arith, z)) (omega arith)

-- ---- changes of the words

-- The words of alternative h are written; its sixth word, and what lies above, are of no account.
pub record Written (h c l x m p : ℕ) (before after : List ℕ) : Type 0 where
  pub long : length after ≡ length before
  pub copy : copy_at after h ≡ c
  pub literal : literal_at after h ≡ l
  pub next : next_at after h ≡ x
  pub mark : mark_at after h ≡ m
  pub path : path_at after h ≡ p
  pub others : (j : ℕ) → j < alternative_of h → get_or after j 0 ≡ get_or before j 0

-- The frame of copy k is written; its fourth word is of no account.
pub record Framed (k m c l : ℕ) (before after : List ℕ) : Type 0 where
  pub long : length after ≡ length before
  pub clause : get_or after (frame_of k) 0 ≡ m
  pub caller : caller_of after k ≡ c
  pub call : call_of after k ≡ l
  pub under : (j : ℕ) → j < frame_of k → get_or after j 0 ≡ get_or before j 0
  pub over : (j : ℕ) → frame_of k + frame_size ≤ j → get_or after j 0 ≡ get_or before j 0

-- an alternative can stand at l of copy c, with x for its next clause
pub record Stand (sh : Sheet) (g : Goal) (code state : List ℕ) (c l x : ℕ) : Type 0 where
  pub place : RecordOf sh g code state c l
  pub stays : NoJump code l
  pub ends : rest_from sh g code state c l ≡ done → c ≡ 0
  pub next : (a : Atom) → Calls (rest_from sh g code state c l) a → NextFor sh a x

-- the words mean this pile
pub record Means (ss : List Symbol) (sh : Sheet) (g : Goal) (nodes code state : List ℕ) (h n : ℕ) (pile : List Alternative) : Type 0 where
  pub piled : Piled ss sh g nodes code state h n
  pub is : pile_of ss sh g nodes code state h ≡ pile

pub popped : (ss : List Symbol) (sh : Sheet) (g : Goal) (nodes code state : List ℕ) (h n : ℕ) → Piled ss sh g nodes code state (suc h) n → Piled ss sh g nodes code state h n
popped ss sh g nodes code state h n p =
    record {
      program = p.program;
      store = p.store;
      long = p.long;
      each = λ j l. p.each j (omega arith);
      longer = λ i j l q. p.longer i j l (omega arith);
      later = λ i j l q. p.later i j l (omega arith);
    }

-- a pile whose words are as they were
carried : (ss : List Symbol) (sh : Sheet) (g : Goal) (nodes code before after : List ℕ) (h k n n0 n1 : ℕ) → Piled ss sh g nodes code before h n0 → SameUpTo h k n before after
    → ((j : ℕ) → j < h → path_at before j ≤ k) → ((j : ℕ) → j < h → mark_at before j ≤ n) → n ≤ n1 → Store ss nodes after n1 → length after ≡ length before
    → Means ss sh g nodes code after h n1 (pile_of ss sh g nodes code before h)
carried ss sh g nodes code before after h k n n0 n1 p same path mark q store e =
    record {
      piled = record {
        program = p.program;
        store = store;
        long = (let z : state_words ≤ length before = p.long in let y : state_words ≤ length after = omega arith in y);
        each = λ j l. same-stacked ss sh g nodes code before after h k n same j n0 l (path j l) (mark j l) (p.each j l) n1 (let z : mark_at before j ≤ n = mark j l in omega arith);
        longer = λ i j l r. (let a : path_at after i ≡ path_at before i = same-path_at before after h k n same i (omega arith) in let b : path_at after j ≡ path_at before j = same-path_at before after h k n same j r in
            let c : path_at before i ≤ path_at before j = p.longer i j l r in let y : path_at after i ≤ path_at after j = omega arith in y);
        later = λ i j l r. (let a : mark_at after i ≡ mark_at before i = same-mark_at before after h k n same i (omega arith) in let b : mark_at after j ≡ mark_at before j = same-mark_at before after h k n same j r in
            let c : mark_at before i ≤ mark_at before j = p.later i j l r in let y : mark_at after i ≤ mark_at after j = omega arith in y);
      };
      is = same-pile ss sh g nodes code before after h k n n0 same (λ j l. (p.each j l, path j l, mark j l));
    }

-- the trail is undone down to the top's mark
pub undone : (ss : List Symbol) (sh : Sheet) (g : Goal) (nodes code state after : List ℕ) (h n m : ℕ) → Piled ss sh g nodes code state (suc h) n → mark_at state h ≡ m → BindingsKept m state after → Store ss nodes after m
    → Means ss sh g nodes code after (suc h) m (pile_of ss sh g nodes code state (suc h))
undone ss sh g nodes code state after h n m p e k store =
    carried ss sh g nodes code state after (suc h) longest_path m n m p (keeps_same (suc h) longest_path m state after k) (λ j l. (p.each j l).low)
    (λ j l. let z : mark_at state j ≤ mark_at state h = mark-top ss sh g nodes code state h n p j l in let y : mark_at state j ≤ m = omega arith in y)
    (omega arith) store k.long

-- an alternative is written on top of h others
module _ (ss : List Symbol) (sh : Sheet) (g : Goal) (nodes code before after : List ℕ) (h n m p c l x : ℕ)
    (piled : Piled ss sh g nodes code before h n) (mark-low : m ≤ n) (path-low : p ≤ longest_path) (copy-low : c ≤ p)
    (paths : (j : ℕ) → j < h → path_at before j ≤ p) (marks : (j : ℕ) → j < h → mark_at before j ≤ m)
    (within : WithinCopies p before m) (frames : (i : ℕ) → i < p → Frame sh g code before (suc i)) (stand : Stand sh g code before c l x) (w : Written h c l x m p before after) where
  same-words : SameStore before after
  same-words = (w.long, λ j q. w.others j (omega arith))

  same-below : SameUpTo h longest_path n before after
  same-below = record { frame = λ j q r. w.others j (omega arith); alternative = λ j q r. w.others j r; agree = same-agrees ss nodes before after n piled.store same-words }

  below : Means ss sh g nodes code after h n (pile_of ss sh g nodes code before h)
  below =
      carried ss sh g nodes code before after h longest_path n n n piled same-below (λ j q. (piled.each j q).low) (λ j q. (piled.each j q).mark) (omega arith)
      (store_same ss nodes before after n piled.store same-words) w.long

  rest-after : rest_from sh g code after (copy_at after h) (literal_at after h) ≡ rest_from sh g code before c l
  rest-after = ap₂ (rest_from sh g code after) w.copy w.literal ∙ same_rest sh g code before after longest_path same-below.frame c l (omega arith)

  top-stacked : Stacked sh g code after n h
  top-stacked =
      let ep : path_at after h ≡ p = w.path in
      let ec : copy_at after h ≡ c = w.copy in
      let em : mark_at after h ≡ m = w.mark in
      record {
        low = (let y : path_at after h ≤ longest_path = omega arith in y);
        copy = (let y : copy_at after h ≤ path_at after h = omega arith in y);
        mark = (let y : mark_at after h ≤ n = omega arith in y);
        within = subst⁻¹ (λ (y : ℕ). WithinCopies y after (mark_at after h)) ep (subst⁻¹ (WithinCopies p after) em (within-agrees p m m before after (omega arith) (agrees-less m n before after mark-low same-below.agree) within));
        frame = λ i q. (let y : i < path_at after h = q in same-frame sh g code before after longest_path same-below.frame i (omega arith) (frames i (omega arith)));
        place = subst⁻¹ (λ (y : ℕ). RecordOf sh g code after y (literal_at after h)) ec (subst⁻¹ (RecordOf sh g code after c) w.literal (same_place sh g code before after longest_path same-below.frame c l (omega arith) stand.place));
        stays = subst⁻¹ (NoJump code) w.literal stand.stays;
        ends = λ e. ec ∙ stand.ends (sym rest-after ∙ e);
        next = λ a q. subst⁻¹ (NextFor sh a) w.next (stand.next a (subst (λ (y : Body). Calls y a) rest-after q));
      }

  top-is : alternative_at ss sh g nodes code after h ≡ record { literals = left_from sh g code before p c l; bindings = bindings ss nodes before m; next = x; calls = calls_up_to sh g code before p }
  unfolding alternative_at
  top-is =
      let lits : left_from sh g code after (path_at after h) (copy_at after h) (literal_at after h) ≡ left_from sh g code before p c l =
      (λ i. left_from sh g code after (w.path i) (w.copy i) (w.literal i)) ∙ same_left sh g code before after longest_path same-below.frame p c l path-low copy-low frames in
      let binds : bindings ss nodes after (mark_at after h) ≡ bindings ss nodes before m =
      ap (bindings ss nodes after) w.mark ∙ bindings-agree ss nodes before after m n mark-low same-below.agree in
      let cs : calls_up_to sh g code after (path_at after h) ≡ calls_up_to sh g code before p =
      ap (calls_up_to sh g code after) w.path ∙ same-calls sh g code before after longest_path same-below.frame p path-low frames in
      λ i. record { literals = lits i; bindings = binds i; next = w.next i; calls = cs i }

  pub topped : Means ss sh g nodes code after (suc h) n (record { literals = left_from sh g code before p c l; bindings = bindings ss nodes before m; next = x; calls = calls_up_to sh g code before p } ∷ pile_of ss sh g nodes code before h)
  unfolding pile_of
  topped =
      record {
        piled = record {
          program = piled.program;
          store = below.piled.store;
          long = below.piled.long;
          each = λ j q. each_at j q (eqb j h) refl;
          longer = λ i j q r. rises (path_at after) (λ k l. omega (arith, w.path, same-path_at before after h longest_path n same-below k l, paths k l)) below.piled.longer i j q r (eqb j h) refl;
          later = λ i j q r. rises (mark_at after) (λ k l. omega (arith, w.mark, same-mark_at before after h longest_path n same-below k l, marks k l)) below.piled.later i j q r (eqb j h) refl;
        };
        is = λ i. top-is i ∷ below.is i;
      }
    where
      under : (j : ℕ) → j < suc h → eqb j h ≡ false → j < h
      under j q e = let z : j ≡ h → ⊥ = eqb-false j h e in omega (arith, z)

      each_at : (j : ℕ) → j < suc h → (b : Bool) → eqb j h ≡ b → Stacked sh g code after n j
      each_at j q true e = subst⁻¹ (Stacked sh g code after n) (eqb-true j h e) top-stacked
      each_at j q false e = below.piled.each j (under j q e)

      rises : (f : ℕ → ℕ) → ((i : ℕ) → i < h → f i ≤ f h) → ((i j : ℕ) → i < j → j < h → f i ≤ f j) → (i j : ℕ) → i < j → j < suc h → (b : Bool) → eqb j h ≡ b → f i ≤ f j
      rises f top rest i j q r true e = let ej : j ≡ h = eqb-true j h e in subst⁻¹ (λ (y : ℕ). f i ≤ f y) ej (top i (omega arith))
      rises f top rest i j q r false e = rest i j q (under j r e)

-- the frames of the top's path, and its copy, where every word behind the trail is as it was
module _ (ss : List Symbol) (sh : Sheet) (g : Goal) (nodes code state after : List ℕ) (h n m : ℕ) (piled : Piled ss sh g nodes code state (suc h) n) (keeps : BindingsKept m state after) where
  pub kept-frames : (i : ℕ) → i < path_at state h → Frame sh g code after (suc i)
  kept-frames i l =
      let z : path_at state h ≤ longest_path = (piled.each h (omega arith)).low in
      same-frame sh g code state after longest_path (λ j q r. keeps.others j q) i (omega arith) ((piled.each h (omega arith)).frame i l)

  pub kept-calls : calls_up_to sh g code after (path_at state h) ≡ calls_up_to sh g code state (path_at state h)
  kept-calls = same-calls sh g code state after longest_path (λ j q r. keeps.others j q) (path_at state h) (piled.each h (omega arith)).low (piled.each h (omega arith)).frame

  pub kept-left : (c l : ℕ) → c ≤ path_at state h → left_from sh g code after (path_at state h) c l ≡ left_from sh g code state (path_at state h) c l
  kept-left c l q = same_left sh g code state after longest_path (λ j r s. keeps.others j r) (path_at state h) c l (piled.each h (omega arith)).low q (piled.each h (omega arith)).frame

-- The top, whose trail ends at its mark, gets another place and more bindings.
pub replaced : (ss : List Symbol) (sh : Sheet) (g : Goal) (nodes code state state1 state2 : List ℕ) (h n n1 p c l x : ℕ) → Piled ss sh g nodes code state (suc h) n → mark_at state h ≡ n → path_at state h ≡ p
    → BindingsKept n state state1 → Store ss nodes state1 n1 → WithinCopies p state1 n1 → n ≤ n1 → c ≤ p → Stand sh g code state1 c l x → Written h c l x n1 p state1 state2
    → Means ss sh g nodes code state2 (suc h) n1 (record { literals = left_from sh g code state1 p c l; bindings = bindings ss nodes state1 n1; next = x; calls = calls_up_to sh g code state p } ∷ pile_of ss sh g nodes code state h)
replaced ss sh g nodes code state state1 state2 h n n1 p c l x piled em ep keeps store within more low stand w =
    let lower : Means ss sh g nodes code state1 h n1 (pile_of ss sh g nodes code state h) =
    carried ss sh g nodes code state state1 h longest_path n n n1 (popped ss sh g nodes code state h n piled) (keeps_same h longest_path n state state1 keeps) (λ j q. (piled.each j (omega arith)).low) (λ j q. (piled.each j (omega arith)).mark) more store keeps.long in
    let path-low : path_at state h ≤ longest_path = (piled.each h (omega arith)).low in
    let all : Means ss sh g nodes code state2 (suc h) n1 (record { literals = left_from sh g code state1 p c l; bindings = bindings ss nodes state1 n1; next = x; calls = calls_up_to sh g code state1 p } ∷ pile_of ss sh g nodes code state1 h) =
    topped ss sh g nodes code state1 state2 h n1 n1 p c l x lower.piled (omega arith) (omega arith) low
    (λ j q. let a : path_at state1 j ≡ path_at state j = keeps.others (alternative_of j + 4) (omega arith) in let b : path_at state j ≤ path_at state h = piled.longer j h q (omega arith) in let y : path_at state1 j ≤ p = omega arith in y)
    (λ j q. (lower.piled.each j q).mark) within (λ i q. kept-frames ss sh g nodes code state state1 h n n piled keeps i (omega arith)) stand w in
    let calls : calls_up_to sh g code state1 p ≡ calls_up_to sh g code state p = subst (λ (y : ℕ). calls_up_to sh g code state1 y ≡ calls_up_to sh g code state y) ep (kept-calls ss sh g nodes code state state1 h n n piled keeps) in
    record {
      piled = all.piled;
      is = all.is ∙ (λ i. record { literals = left_from sh g code state1 p c l; bindings = bindings ss nodes state1 n1; next = x; calls = calls i } ∷ lower.is i);
    }

-- The top goes on to another clause.
pub moved : (ss : List Symbol) (sh : Sheet) (g : Goal) (nodes code state after : List ℕ) (h n x : ℕ) → Piled ss sh g nodes code state (suc h) n
    → ((a : Atom) → Calls (rest_from sh g code state (copy_at state h) (literal_at state h)) a → NextFor sh a x)
    → Written h (copy_at state h) (literal_at state h) x (mark_at state h) (path_at state h) state after
    → Means ss sh g nodes code after (suc h) n (record { literals = left_from sh g code state (path_at state h) (copy_at state h) (literal_at state h); bindings = bindings ss nodes state (mark_at state h); next = x; calls = calls_up_to sh g code state (path_at state h) } ∷ pile_of ss sh g nodes code state h)
moved ss sh g nodes code state after h n x piled next w =
    let top : Stacked sh g code state n h = piled.each h (omega arith) in
    topped ss sh g nodes code state after h n (mark_at state h) (path_at state h) (copy_at state h) (literal_at state h) x (popped ss sh g nodes code state h n piled) top.mark top.low top.copy
    (λ j q. piled.longer j h q (omega arith)) (λ j q. piled.later j h q (omega arith)) top.within top.frame (record { place = top.place; stays = top.stays; ends = top.ends; next = next }) w

-- ---- a clause's body is laid on top

-- A clause is tried for the call at which the top stands: its frame is written, for the copy one past the top's path.
pub record Pushing (ss : List Symbol) (sh : Sheet) (g : Goal) (nodes code state state1 state2 : List ℕ) (h n n1 p m : ℕ) (a : Atom) (cl : Clause) : Type 0 where
  pub piled : Piled ss sh g nodes code state (suc h) n
  pub mark : mark_at state h ≡ n
  pub path : p ≡ path_at state h + 1
  pub low : p ≤ longest_path
  pub calls : Calls (rest_from sh g code state (copy_at state h) (literal_at state h)) a
  pub keeps : BindingsKept n state state1
  pub store : Store ss nodes state1 n1
  pub within : WithinCopies p state1 n1
  pub more : n ≤ n1
  pub clause : clause_at sh m ≡ some cl
  pub framed : Framed p m (copy_at state h) (literal_at state h) state1 state2

first-called : (b : Body) (a : Atom) → Calls b a → first_atom b ≡ a
unfolding first_atom atom_in
first-called done a h = absurd h
first-called (also x b) a h = ap atom_in h

module _ (ss : List Symbol) (sh : Sheet) (g : Goal) (nodes code state state1 state2 : List ℕ) (h n n1 p m : ℕ) (a : Atom) (cl : Clause) (t : Pushing ss sh g nodes code state state1 state2 h n n1 p m a cl) where
  top_of : Stacked sh g code state n h
  top_of = t.piled.each h (omega arith)

  one-more : suc (path_at state h) ≡ p
  one-more = let e : p ≡ path_at state h + 1 = t.path in omega arith

  pushed-store : SameStore state1 state2
  pushed-store = (t.framed.long, λ j q. t.framed.under j (omega arith))

  frames-first : SameFrames (path_at state h) state1 state2
  frames-first j q r = t.framed.under j (let e : p ≡ path_at state h + 1 = t.path in omega arith)

  frames-both : SameFrames (path_at state h) state state2
  frames-both j q r = frames-first j q r ∙ t.keeps.others j q

  pushed-below : Means ss sh g nodes code state2 (suc h) n1 (pile_of ss sh g nodes code state (suc h))
  pushed-below =
      let one : Means ss sh g nodes code state1 (suc h) n1 (pile_of ss sh g nodes code state (suc h)) =
      carried ss sh g nodes code state state1 (suc h) longest_path n n n1 t.piled (keeps_same (suc h) longest_path n state state1 t.keeps) (λ j q. (t.piled.each j q).low) (λ j q. (t.piled.each j q).mark) t.more t.store t.keeps.long in
      let same : SameUpTo (suc h) (path_at state h) n1 state1 state2 =
      record { frame = frames-first; alternative = λ j q r. t.framed.over j (let e : p ≤ longest_path = t.low in omega arith); agree = same-agrees ss nodes state1 state2 n1 t.store pushed-store } in
      let two : Means ss sh g nodes code state2 (suc h) n1 (pile_of ss sh g nodes code state1 (suc h)) =
      carried ss sh g nodes code state1 state2 (suc h) (path_at state h) n1 n1 n1 one.piled same
      (λ j q. let e : path_at state1 j ≡ path_at state j = t.keeps.others (alternative_of j + 4) (omega arith) in let z : path_at state j ≤ path_at state h = path-top ss sh g nodes code state h n t.piled j q in let y : path_at state1 j ≤ path_at state h = omega arith in y)
      (λ j q. (one.piled.each j q).mark) (omega arith) (store_same ss nodes state1 state2 n1 t.store pushed-store) t.framed.long in
      record { piled = two.piled; is = two.is ∙ one.is }

  new-clause : clause_in state2 (suc (path_at state h)) ≡ m
  unfolding clause_in
  new-clause = ap (λ (y : ℕ). get_or state2 (frame_of y) 0) one-more ∙ t.framed.clause

  new-caller : caller_of state2 (suc (path_at state h)) ≡ copy_at state h
  new-caller = ap (caller_of state2) one-more ∙ t.framed.caller

  new-call : call_of state2 (suc (path_at state h)) ≡ literal_at state h
  new-call = ap (call_of state2) one-more ∙ t.framed.call

  new-rest : rest_from sh g code state2 (caller_of state2 (suc (path_at state h))) (call_of state2 (suc (path_at state h))) ≡ rest_from sh g code state (copy_at state h) (literal_at state h)
  new-rest = ap₂ (rest_from sh g code state2) new-caller new-call ∙ same_rest sh g code state state2 (path_at state h) frames-both (copy_at state h) (literal_at state h) top_of.copy

  new-frame : Frame sh g code state2 (suc (path_at state h))
  new-frame =
      let c : copy_at state h ≤ path_at state h = top_of.copy in
      let e : caller_of state2 (suc (path_at state h)) ≡ copy_at state h = new-caller in
      record {
        clause = subst⁻¹ (λ (y : ℕ). y ≤ length sh.clauses) new-clause (clause-low sh m cl t.clause);
        below = (let y : caller_of state2 (suc (path_at state h)) < suc (path_at state h) = omega arith in y);
        place = subst⁻¹ (λ (y : ℕ). RecordOf sh g code state2 y (call_of state2 (suc (path_at state h)))) new-caller (subst⁻¹ (RecordOf sh g code state2 (copy_at state h)) new-call (same_place sh g code state state2 (path_at state h) frames-both (copy_at state h) (literal_at state h) c top_of.place));
        stays = subst⁻¹ (NoJump code) new-call top_of.stays;
        atom = a;
        calls = subst⁻¹ (λ (y : Body). Calls y a) new-rest t.calls;
      }

  -- the frames of the copies made, the new one among them
  pub pushed-frames : (i : ℕ) → i < p → Frame sh g code state2 (suc i)
  pushed-frames i l = go (eqb i (path_at state h)) refl
    where
      go : (b : Bool) → eqb i (path_at state h) ≡ b → Frame sh g code state2 (suc i)
      go true e = subst⁻¹ (λ (y : ℕ). Frame sh g code state2 (suc y)) (eqb-true i (path_at state h) e) new-frame
      go false e =
          let z : i < path_at state h = (let d : i ≡ path_at state h → ⊥ = eqb-false i (path_at state h) e in let q : p ≡ path_at state h + 1 = t.path in omega (arith, d)) in
          same-frame sh g code state state2 (path_at state h) frames-both i z (top_of.frame i z)

  new-calls : calls_up_to sh g code state2 (suc (path_at state h)) ≡ record { copy = copy_at state h; atom = a } ∷ calls_up_to sh g code state (path_at state h)
  unfolding calls_up_to
  new-calls =
      let older : calls_up_to sh g code state2 (path_at state h) ≡ calls_up_to sh g code state (path_at state h) = same-calls sh g code state state2 (path_at state h) frames-both (path_at state h) (omega arith) top_of.frame in
      let at : first_atom (rest_from sh g code state2 (caller_of state2 (suc (path_at state h))) (call_of state2 (suc (path_at state h)))) ≡ a = ap first_atom new-rest ∙ first-called (rest_from sh g code state (copy_at state h) (literal_at state h)) a t.calls in
      λ i. record { copy = new-caller i; atom = at i } ∷ older i

  pub pushed-calls : calls_up_to sh g code state2 p ≡ record { copy = copy_at state h; atom = a } ∷ calls_up_to sh g code state (path_at state h)
  pushed-calls = ap (calls_up_to sh g code state2) (sym one-more) ∙ new-calls

  pub pushed-place : RecordOf sh g code state2 p (body_at code m)
  pushed-place = subst (λ (y : ℕ). RecordOf sh g code state2 y (body_at code m)) one-more (entered-place sh g code state2 (path_at state h) m cl t.clause new-clause)

  pub pushed-rest : rest_from sh g code state2 p (body_at code m) ≡ cl.body
  pushed-rest = ap (λ (y : ℕ). rest_from sh g code state2 y (body_at code m)) (sym one-more) ∙ entered-rest sh g code state2 (path_at state h) m cl t.clause new-clause

  -- what is left from the clause's body on: the body, and what is left behind the call
  pub pushed-left : left_from sh g code state2 p p (body_at code m) ≡ pending p cl.body (left_from sh g code state (path_at state h) (copy_at state h) (next_literal (literal_at state h)))
  unfolding left_from
  pushed-left =
      let caller : left_behind sh g code state2 (suc (path_at state h)) (suc (path_at state h)) ≡ left_from sh g code state2 (path_at state h) (copy_at state h) (next_literal (literal_at state h)) =
      left_here sh g code state2 (path_at state h) ∙ ap₂ (λ (x y : ℕ). pending x (rest_from sh g code state2 x (next_literal y)) (left_behind sh g code state2 (path_at state h) x)) new-caller new-call in
      let same : left_from sh g code state2 (path_at state h) (copy_at state h) (next_literal (literal_at state h)) ≡ left_from sh g code state (path_at state h) (copy_at state h) (next_literal (literal_at state h)) =
      same_left sh g code state state2 (path_at state h) frames-both (path_at state h) (copy_at state h) (next_literal (literal_at state h)) (omega arith) top_of.copy top_of.frame in
      ap₂ (pending p) pushed-rest (ap (λ (y : ℕ). left_behind sh g code state2 y y) (sym one-more) ∙ (caller ∙ same))

  -- A new alternative lies on top, at a place of the copies made.
  pub pushed : (state3 : List ℕ) (c l x : ℕ) → c ≤ p → Stand sh g code state2 c l x → Written (suc h) c l x n1 p state2 state3
      → Means ss sh g nodes code state3 (suc (suc h)) n1 (record { literals = left_from sh g code state2 p c l; bindings = bindings ss nodes state1 n1; next = x; calls = record { copy = copy_at state h; atom = a } ∷ calls_up_to sh g code state (path_at state h) } ∷ pile_of ss sh g nodes code state (suc h))
  pushed state3 c l x low stand w =
      let agree : SameBindings n1 state1 state2 = same-agrees ss nodes state1 state2 n1 t.store pushed-store in
      let all : Means ss sh g nodes code state3 (suc (suc h)) n1 (record { literals = left_from sh g code state2 p c l; bindings = bindings ss nodes state2 n1; next = x; calls = calls_up_to sh g code state2 p } ∷ pile_of ss sh g nodes code state2 (suc h)) =
      topped ss sh g nodes code state2 state3 (suc h) n1 n1 p c l x pushed-below.piled (omega arith) t.low low paths (λ j q. (pushed-below.piled.each j q).mark)
      (within-agrees p n1 n1 state1 state2 (omega arith) agree t.within) pushed-frames stand w in
      let binds : bindings ss nodes state2 n1 ≡ bindings ss nodes state1 n1 = bindings-same ss nodes state1 state2 n1 t.store pushed-store in
      record {
        piled = all.piled;
        is = all.is ∙ (λ i. record { literals = left_from sh g code state2 p c l; bindings = binds i; next = x; calls = pushed-calls i } ∷ pushed-below.is i);
      }
    where
      paths : (j : ℕ) → j < suc h → path_at state2 j ≤ p
      paths j q =
          let d : path_at state2 j ≡ path_at state1 j = t.framed.over (alternative_of j + 4) (let r : p ≤ longest_path = t.low in omega arith) in
          let e : path_at state1 j ≡ path_at state j = t.keeps.others (alternative_of j + 4) (omega arith) in
          let z : path_at state j ≤ path_at state h = path-top ss sh g nodes code state h n t.piled j q in
          let r : p ≡ path_at state h + 1 = t.path in
          let y : path_at state2 j ≤ p = omega arith in
          y

-- ---- the goal alone

-- the goal's literals are left, and no others
pub goal-left : (sh : Sheet) (g : Goal) (code state : List ℕ) → left_from sh g code state 0 0 (body_at code 0) ≡ pending 0 g.body []
unfolding left_from left_behind
goal-left sh g code state = ap (λ (y : Body). pending 0 y []) (goal-rest sh g code state)

pub started : (ss : List Symbol) (sh : Sheet) (g : Goal) (nodes code state after : List ℕ) (x : ℕ) → Program ss sh g nodes code → state_words ≤ length state → Clean state
    → ((a : Atom) → Calls g.body a → NextFor sh a x) → Written 0 0 (body_at code 0) x 0 0 state after
    → Means ss sh g nodes code after 1 0 (record { literals = pending 0 g.body []; bindings = []; next = x; calls = [] } ∷ [])
unfolding pile_of bindings calls_up_to
started ss sh g nodes code state after x program long clean next w =
    let empty : Piled ss sh g nodes code state 0 0 =
    record {
      program = program;
      store = no-bindings ss nodes state (omega arith) program.small clean.zero;
      long = long;
      each = λ j q. absurd (let z : j < 0 = q in omega arith);
      longer = λ i j q r. absurd (let z : j < 0 = r in omega arith);
      later = λ i j q r. absurd (let z : j < 0 = r in omega arith);
    } in
    let all : Means ss sh g nodes code after 1 0 (record { literals = left_from sh g code state 0 0 (body_at code 0); bindings = bindings ss nodes state 0; next = x; calls = calls_up_to sh g code state 0 } ∷ pile_of ss sh g nodes code state 0) =
    topped ss sh g nodes code state after 0 0 0 0 0 (body_at code 0) x empty (omega arith) (omega arith) (omega arith)
    (λ j q. absurd (let z : j < 0 = q in omega arith)) (λ j q. absurd (let z : j < 0 = q in omega arith))
    (record { cell = λ i q. absurd (let z : i < 0 = q in omega arith); copy = λ i q. absurd (let z : i < 0 = q in omega arith) })
    (λ i q. absurd (let z : i < 0 = q in omega arith))
    (record { place = goal-place sh g code state; stays = body-stays program 0 (omega arith); ends = λ e. refl; next = λ a q. next a (subst (λ (y : Body). Calls y a) (goal-rest sh g code state) q) }) w in
    record {
      piled = all.piled;
      is = all.is ∙ (λ i. record { literals = goal-left sh g code state i; bindings = []; next = x; calls = [] } ∷ []);
    }

-- ---- the same changes, as words set one after the other

module _ (state : List ℕ) (at v0 v1 v2 v3 v4 v5 : ℕ) (room : at + alternative_size ≤ length state) where
  abbrev s0 : List ℕ
  s0 = set state at v0

  abbrev s1 : List ℕ
  s1 = set s0 (at + 1) v1

  abbrev s2 : List ℕ
  s2 = set s1 (at + 2) v2

  abbrev s3 : List ℕ
  s3 = set s2 (at + 3) v3

  abbrev s4 : List ℕ
  s4 = set s3 (at + 4) v4

  abbrev s5 : List ℕ
  s5 = set s4 (at + 5) v5

  l0 : length s0 ≡ length state
  l0 = length-set state at v0

  l1 : length s1 ≡ length state
  l1 = length-set s0 (at + 1) v1 ∙ l0

  l2 : length s2 ≡ length state
  l2 = length-set s1 (at + 2) v2 ∙ l1

  l3 : length s3 ≡ length state
  l3 = length-set s2 (at + 3) v3 ∙ l2

  l4 : length s4 ≡ length state
  l4 = length-set s3 (at + 4) v4 ∙ l3

  l5 : length s5 ≡ length state
  l5 = length-set s4 (at + 5) v5 ∙ l4

  g0 : get_or s5 at 0 ≡ v0
  g0 =
      get_or-set_other s4 (at + 5) at v5 0 (λ e. omega arith) ∙ (get_or-set_other s3 (at + 4) at v4 0 (λ e. omega arith) ∙ (get_or-set_other s2 (at + 3) at v3 0 (λ e. omega arith)
      ∙ (get_or-set_other s1 (at + 2) at v2 0 (λ e. omega arith) ∙ (get_or-set_other s0 (at + 1) at v1 0 (λ e. omega arith) ∙ get_or-set_same state at v0 0 (omega arith)))))

  g1 : get_or s5 (at + 1) 0 ≡ v1
  g1 =
      get_or-set_other s4 (at + 5) (at + 1) v5 0 (λ e. omega arith) ∙ (get_or-set_other s3 (at + 4) (at + 1) v4 0 (λ e. omega arith) ∙ (get_or-set_other s2 (at + 3) (at + 1) v3 0 (λ e. omega arith)
      ∙ (get_or-set_other s1 (at + 2) (at + 1) v2 0 (λ e. omega arith) ∙ get_or-set_same s0 (at + 1) v1 0 (let e : length s0 ≡ length state = l0 in omega arith))))

  g2 : get_or s5 (at + 2) 0 ≡ v2
  g2 =
      get_or-set_other s4 (at + 5) (at + 2) v5 0 (λ e. omega arith) ∙ (get_or-set_other s3 (at + 4) (at + 2) v4 0 (λ e. omega arith) ∙ (get_or-set_other s2 (at + 3) (at + 2) v3 0 (λ e. omega arith)
      ∙ get_or-set_same s1 (at + 2) v2 0 (let e : length s1 ≡ length state = l1 in omega arith)))

  g3 : get_or s5 (at + 3) 0 ≡ v3
  g3 = get_or-set_other s4 (at + 5) (at + 3) v5 0 (λ e. omega arith) ∙ (get_or-set_other s3 (at + 4) (at + 3) v4 0 (λ e. omega arith) ∙ get_or-set_same s2 (at + 3) v3 0 (let e : length s2 ≡ length state = l2 in omega arith))

  g4 : get_or s5 (at + 4) 0 ≡ v4
  g4 = get_or-set_other s4 (at + 5) (at + 4) v5 0 (λ e. omega arith) ∙ get_or-set_same s3 (at + 4) v4 0 (let e : length s3 ≡ length state = l3 in omega arith)

  under-six : (j : ℕ) → j < at → get_or s5 j 0 ≡ get_or state j 0
  under-six j q =
      get_or-set_other s4 (at + 5) j v5 0 (λ e. omega arith) ∙ (get_or-set_other s3 (at + 4) j v4 0 (λ e. omega arith) ∙ (get_or-set_other s2 (at + 3) j v3 0 (λ e. omega arith)
      ∙ (get_or-set_other s1 (at + 2) j v2 0 (λ e. omega arith) ∙ (get_or-set_other s0 (at + 1) j v1 0 (λ e. omega arith) ∙ get_or-set_other state at j v0 0 (λ e. omega arith)))))

pub written : (state : List ℕ) (h c l x m p y : ℕ) → alternative_of h + alternative_size ≤ length state
    → Written h c l x m p state (set (set (set (set (set (set state (alternative_of h) c) (alternative_of h + 1) l) (alternative_of h + 2) x) (alternative_of h + 3) m) (alternative_of h + 4) p) (alternative_of h + 5) y)
written state h c l x m p y room =
    record {
      long = l5 state (alternative_of h) c l x m p y room;
      copy = g0 state (alternative_of h) c l x m p y room;
      literal = g1 state (alternative_of h) c l x m p y room;
      next = g2 state (alternative_of h) c l x m p y room;
      mark = g3 state (alternative_of h) c l x m p y room;
      path = g4 state (alternative_of h) c l x m p y room;
      others = under-six state (alternative_of h) c l x m p y room;
    }

-- the next clause alone
pub written_next : (state : List ℕ) (h x : ℕ) → alternative_of h + alternative_size ≤ length state → Written h (copy_at state h) (literal_at state h) x (mark_at state h) (path_at state h) state (set state (alternative_of h + 2) x)
written_next state h x room =
    record {
      long = length-set state (alternative_of h + 2) x;
      copy = get_or-set_other state (alternative_of h + 2) (alternative_of h) x 0 (λ e. omega arith);
      literal = get_or-set_other state (alternative_of h + 2) (alternative_of h + 1) x 0 (λ e. omega arith);
      next = get_or-set_same state (alternative_of h + 2) x 0 (omega arith);
      mark = get_or-set_other state (alternative_of h + 2) (alternative_of h + 3) x 0 (λ e. omega arith);
      path = get_or-set_other state (alternative_of h + 2) (alternative_of h + 4) x 0 (λ e. omega arith);
      others = λ j q. get_or-set_other state (alternative_of h + 2) j x 0 (λ e. omega arith);
    }

pub framed : (state : List ℕ) (k m c l : ℕ) → frame_of k + frame_size ≤ length state → Framed k m c l state (set (set (set state (frame_of k) m) (frame_of k + 1) c) (frame_of k + 2) l)
framed state k m c l room =
    let e0 : length (set state (frame_of k) m) ≡ length state = length-set state (frame_of k) m in
    let e1 : length (set (set state (frame_of k) m) (frame_of k + 1) c) ≡ length state = length-set (set state (frame_of k) m) (frame_of k + 1) c ∙ e0 in
    record {
      long = length-set (set (set state (frame_of k) m) (frame_of k + 1) c) (frame_of k + 2) l ∙ e1;
      clause = past (frame_of k) (λ e. omega arith) ∙ (get_or-set_other (set state (frame_of k) m) (frame_of k + 1) (frame_of k) c 0 (λ e. omega arith) ∙ get_or-set_same state (frame_of k) m 0 (omega arith));
      caller = past (frame_of k + 1) (λ e. omega arith) ∙ get_or-set_same (set state (frame_of k) m) (frame_of k + 1) c 0 (omega arith);
      call = get_or-set_same (set (set state (frame_of k) m) (frame_of k + 1) c) (frame_of k + 2) l 0 (omega arith);
      under = λ j q. past j (λ e. omega arith) ∙ (get_or-set_other (set state (frame_of k) m) (frame_of k + 1) j c 0 (λ e. omega arith) ∙ get_or-set_other state (frame_of k) j m 0 (λ e. omega arith));
      over = λ j q. past j (λ e. omega arith) ∙ (get_or-set_other (set state (frame_of k) m) (frame_of k + 1) j c 0 (λ e. omega arith) ∙ get_or-set_other state (frame_of k) j m 0 (λ e. omega arith));
    }
  where
    past : (j : ℕ) → (j ≡ frame_of k + 2 → ⊥) → get_or (set (set (set state (frame_of k) m) (frame_of k + 1) c) (frame_of k + 2) l) j 0 ≡ get_or (set (set state (frame_of k) m) (frame_of k + 1) c) j 0
    past j z = get_or-set_other (set (set state (frame_of k) m) (frame_of k + 1) c) (frame_of k + 2) j l 0 z
