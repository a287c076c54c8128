-- A step undoes the trail to the top's mark and works on the top; the start lays the goal. Assumes nothing.
use Prim.Native.Nat.{ℕ, suc, ◌+◌, ◌-◌, ◌≤◌, ◌<◌}
use native.Mathlib.Omega.{arith}
use mathlib.Core.Path.{◌≡◌, refl, sym, ap, ap₂, ◌∙◌, subst, subst⁻¹}
use mathlib.Core.Bool.{Bool, true, false, ◌&&◌}
use mathlib.Core.List.{List, [], ◌∷◌}
use mathlib.Core.Option.{some}
use lib.Dec.{eqb, leb}
use lib.ListN.{length, get_or}
use borrow.Author.Tests.{eq-eqb, ne_eqb}
use Rattle.syntax.specs.Words.{truth_kind, falsity_kind, call_kind, equation_kind}
use Rattle.syntax.specs.Limits.{longest_path}
use Rattle.syntax.specs.Terms.{Atom, Literal, call, equation, truth, falsity, either, Body, done, also, Clause, Sheet}
use Rattle.machine.specs.Machine.{Pending, Alternative, pending, topmost, clause_at, step, start}
use Rattle.machine.specs.Low.{Low}
use Rattle.machine.specs.Runs.{is_empty, is_answer, is_there, tries_with, tries_first, goes_deeper}
use Rattle.run_layout.specs.Regions.{state_words, alternative_of, literal_size, body_end_kind, split_kind, alternative_size}
use Rattle.run_layout.specs.Nodes.{Symbol}
use Rattle.run_layout.specs.Program.{body_at, record_kind}
use Rattle.run_layout.specs.Pile.{Calls, rest_from, left_behind, left_from, copy_at, literal_at, next_at, mark_at, path_at, alternative_at, pile_of, NextFor, Piled}
use Rattle.bindings.specs.Cells.{Stored, Undone}
use Rattle.bindings.proofs.Deref.{undone-store}
use Rattle.run.specs.Words.{top_at}
use Rattle.run.specs.Moves.{Layable, AlternativeLaid}
use Rattle.run.specs.Meanings.{pile_in}
use Rattle.run.specs.Steps.{Running, meaning, Steppable, Stepped, Startable, Started}
use Rattle.run.specs.declared.alternatives.PileHeight.{PileHeight}
use Rattle.run.specs.declared.alternatives.records.Top.{Top}
use Rattle.run_layout.proofs.Step.{left-first, left-done}
use Rattle.run_layout.proofs.Pile.{FirstStands, HeadStands, calls_count, body-stays, clause-some, goal-place, goal-rest, goal-left, next_low, Written, Means, undone, started}
use Rattle.run.proofs.LayLaws.{LayEnds}
use Rattle.run.proofs.TopLaws.{at_top, lays-written, top-stacked, top-stands, top-inside, top-room}
use Rattle.run.proofs.ReadLaws.{lay-ends, layable-of}

-- ---- a step

module _ (nodes code state scratch : List ℕ) (j n : ℕ) (w : Steppable nodes code state scratch (suc j) n) (mid : List ℕ) (u : Undone state mid (mark_at state j) n) where
  undo-means : Means w.running.ss w.running.sh w.running.g nodes code mid (suc j) (mark_at state j) (pile_in (meaning w.running) state (suc j))
  undo-means = undone w.running.ss w.running.sh w.running.g nodes code state mid j n (mark_at state j) w.running.piled refl u.keeps (undone-store w.running.ss nodes state mid (mark_at state j) n (top-stacked w.running.ss w.running.sh w.running.g nodes code state j n w.running.piled).mark u w.running.piled.store)

  same-mark : mark_at mid j ≡ mark_at state j
  same-mark = u.keeps.others (alternative_of j + 3) (omega arith)

  undo-steppable : Steppable nodes code mid scratch (suc j) (mark_at mid j)
  undo-steppable =
      record {
        running = record { ss = w.running.ss; sh = w.running.sh; g = w.running.g; piled = subst⁻¹ (Piled w.running.ss w.running.sh w.running.g nodes code mid (suc j)) same-mark undo-means.piled; low = subst⁻¹ Low undo-means.is w.running.low };
        some = w.some;
        goes = ap (goes_deeper w.running.sh) undo-means.is ∙ w.goes;
        roomy = w.roomy;
        clean = w.clean;
      }

  undo-end : (after later : List ℕ) (r : PileHeight) → ((v : Steppable nodes code mid scratch (suc j) (mark_at mid j)) → Stepped (meaning v.running) mid after scratch later (suc j) r)
      → Stepped (meaning w.running) state after scratch later (suc j) r
  unfolding undo-steppable
  undo-end after later r k =
      let m : Stepped (meaning w.running) mid after scratch later (suc j) r = k undo-steppable in
      record { is = m.is ∙ ap (step w.running.sh) undo-means.is; piled = m.piled; state_long = m.state_long ∙ u.keeps.long; clean = m.clean; scratch_long = m.scratch_long }

module _ {nodes code state scratch : List ℕ} {h n : ℕ} (w : Steppable nodes code state scratch h n) where
  pub step_room : alternative_of (h - 1) + alternative_size ≤ length state
  step_room =
      at_top (λ (h j : ℕ). Steppable nodes code state scratch h n → alternative_of j + alternative_size ≤ length state)
      (λ j w. top-room w.running.ss w.running.sh w.running.g nodes code state j n w.running.piled w.running.low) h w.some w

  module _ {s : Top} (is : s ≡ top_at state (h - 1)) where
    mark-is : s.mark ≡ mark_at state (h - 1)
    mark-is = ap (λ (x : Top). x.mark) is

    pub step-stored : Stored state n
    step-stored = record { ss = w.running.ss; nodes = nodes; store = w.running.piled.store.raw }

    pub step-mark : s.mark ≤ n
    step-mark =
        subst⁻¹ (λ (x : ℕ). x ≤ n) mark-is
        (at_top (λ (h j : ℕ). Steppable nodes code state scratch h n → mark_at state j ≤ n) (λ j w. (top-stacked w.running.ss w.running.sh w.running.g nodes code state j n w.running.piled).mark) h w.some w)

    module _ {mid : List ℕ} (u : Undone state mid s.mark n) where
      undone-is : Undone state mid (mark_at state (h - 1)) n
      undone-is = subst (λ (x : ℕ). Undone state mid x n) mark-is u

      pub step-steppable : Steppable nodes code mid scratch h (mark_at mid (h - 1))
      step-steppable =
          at_top (λ (h j : ℕ). Steppable nodes code state scratch h n → Undone state mid (mark_at state j) n → Steppable nodes code mid scratch h (mark_at mid j))
          (λ j w u. undo-steppable nodes code state scratch j n w mid u) h w.some w undone-is

      pub step_end : (after later : List ℕ) (r : PileHeight) → ((v : Steppable nodes code mid scratch h (mark_at mid (h - 1))) → Stepped (meaning v.running) mid after scratch later h r)
          → Stepped (meaning w.running) state after scratch later h r
      step_end after later r k =
          at_top (λ (h j : ℕ). (w : Steppable nodes code state scratch h n) → Undone state mid (mark_at state j) n → ((v : Steppable nodes code mid scratch h (mark_at mid j)) → Stepped (meaning v.running) mid after scratch later h r)
          → Stepped (meaning w.running) state after scratch later h r)
          (λ j w u k. undo-end nodes code state scratch j n w mid u after later r k) h w.some w undone-is k

-- ---- the start

module _ (nodes code state : List ℕ) (w : Startable nodes code state) where
  goal-layable : Layable code state 0 0 (body_at code 0) 0 0
  goal-layable =
      record {
        ss = w.ss;
        sh = w.sh;
        g = w.g;
        nodes = nodes;
        climbing = record {
          program = w.program;
          long = w.long;
          low = omega arith;
          frame = λ k l. absurd (let z : k < 0 = l in omega arith);
          copy = omega arith;
          place = goal-place w.sh w.g code state;
        };
        room = omega arith;
        small = omega arith;
      }

  goal-room : alternative_of 0 + alternative_size ≤ length state
  goal-room = let a : state_words ≤ length state = w.long in omega arith

  goal-end : (after : List ℕ) → LayEnds code state after 0 0 (body_at code 0) 0 0 → Started w after
  unfolding goal-layable start
  goal-end after k =
      let q : AlternativeLaid goal-layable.climbing after 0 0 = k goal-layable in
      let a : q.spot.copy ≤ 0 = q.climbs.copy in
      let c : q.spot.copy ≡ 0 = omega arith in
      let l : q.spot.literal ≡ body_at code 0 = q.climbs.here (body-stays w.program 0 (omega arith)) c in
      let written : Written 0 0 (body_at code 0) q.next 0 0 state after =
      subst (λ (x : ℕ). Written 0 x (body_at code 0) q.next 0 0 state after) c
      (subst (λ (x : ℕ). Written 0 q.spot.copy x q.next 0 0 state after) l (lays-written q goal-room)) in
      let rest : rest_from w.sh w.g code state q.spot.copy q.spot.literal ≡ w.g.body = ap₂ (rest_from w.sh w.g code state) c l ∙ goal-rest w.sh w.g code state in
      let m : Means w.ss w.sh w.g nodes code after 1 0 (record { literals = pending 0 w.g.body []; bindings = []; next = q.next; calls = [] } ∷ []) =
      started w.ss w.sh w.g nodes code state after q.next w.program w.long w.clean (λ x y. q.next-for x (subst⁻¹ (λ (b : Body). Calls b x) rest y)) written in
      let nxt : q.next ≡ topmost w.sh (pending 0 w.g.body []) = q.next_is ∙ ap (topmost w.sh) (goal-left w.sh w.g code state) in
      record {
        is = m.is ∙ (λ i. record { literals = pending 0 w.g.body []; bindings = []; next = nxt i; calls = [] } ∷ []);
        piled = m.piled;
        state_long = written.long;
      }

module _ {nodes code state : List ℕ} (w : Startable nodes code state) where
  module _ {f : ℕ} (e : f ≡ get_or code 1 0) where
    pub start-layable : Layable code state 0 0 f 0 0
    start-layable = layable-of refl e refl refl (goal-layable nodes code state w)

    pub start-end : (after : List ℕ) → LayEnds code state after 0 0 f 0 0 → Started w after
    start-end after k = goal-end nodes code state w after (lay-ends refl e refl refl after k)

-- ---- what the next step would be

literal-kind : (ss : List Symbol) (sh : Sheet) (nodes code : List ℕ) (l : ℕ) (x : Literal) → FirstStands ss sh nodes code l x → record_kind code l ≡ body_end_kind → ⊥
literal-kind ss sh nodes code l (call a) s e = omega (arith, s.0, e)
literal-kind ss sh nodes code l (equation t u) s e = omega (arith, s.0, e)
literal-kind ss sh nodes code l truth s e = omega (arith, s, e)
literal-kind ss sh nodes code l falsity s e = omega (arith, s, e)
literal-kind ss sh nodes code l (either y z) s e = omega (arith, s, e)

-- no call stands there, or it has no clause
tries-none : (ss : List Symbol) (sh : Sheet) (nodes code : List ℕ) (l : ℕ) (a : Alternative) (x : Literal) → FirstStands ss sh nodes code l x → (record_kind code l ≡ call_kind → ⊥) → tries_with sh a x ≡ false
unfolding tries_with
tries-none ss sh nodes code l a (call at) s z = absurd (z s.0)
tries-none ss sh nodes code l a (equation t u) s z = refl
tries-none ss sh nodes code l a truth s z = refl
tries-none ss sh nodes code l a falsity s z = refl
tries-none ss sh nodes code l a (either u v) s z = refl

tries-last : (sh : Sheet) (a : Alternative) (x : Literal) → a.next ≡ 0 → tries_with sh a x ≡ false
unfolding tries_with is_there clause_at
tries-last sh a (call at) e = ap (λ (k : ℕ). is_there (clause_at sh k)) e
tries-last sh a (equation t u) e = refl
tries-last sh a truth e = refl
tries-last sh a falsity e = refl
tries-last sh a (either y z) e = refl

module _ (nodes code state : List ℕ) (j n : ℕ) (w : Running nodes code state (suc j) n) where
  abbrev left : List Pending
  left = left_from w.sh w.g code state (path_at state j) (copy_at state j) (literal_at state j)

  abbrev body : Body
  body = rest_from w.sh w.g code state (copy_at state j) (literal_at state j)

  abbrev top : Alternative
  top = alternative_at w.ss w.sh w.g nodes code state j

  stands : HeadStands w.ss w.sh nodes code (literal_at state j) body
  stands = top-stands w.ss w.sh w.g nodes code state j n w.piled

  left-of : (x : Literal) (b : Body) → body ≡ also x b → left ≡ record { copy = copy_at state j; literal = x } ∷ pending (copy_at state j) b (left_behind w.sh w.g code state (path_at state j) (copy_at state j))
  left-of x b e = left-first w.sh w.g code state (path_at state j) (copy_at state j) (literal_at state j) e

  left_end : body ≡ done → left ≡ []
  left_end e = left-done w.sh w.g code state (path_at state j) (copy_at state j) (literal_at state j) ((top-stacked w.ss w.sh w.g nodes code state j n w.piled).ends e) e

  empty-is : (b : Body) → body ≡ b → eqb (record_kind code (literal_at state j)) body_end_kind ≡ is_empty left
  unfolding is_empty
  empty-is done e =
      eq-eqb (record_kind code (literal_at state j)) body_end_kind (subst (HeadStands w.ss w.sh nodes code (literal_at state j)) e stands)
      ∙ sym (ap (λ (ls : List Pending). is_empty ls) (left_end e))
  empty-is (also x b) e =
      ne_eqb (record_kind code (literal_at state j)) body_end_kind (literal-kind w.ss w.sh nodes code (literal_at state j) x (subst (HeadStands w.ss w.sh nodes code (literal_at state j)) e stands))
      ∙ sym (ap (λ (ls : List Pending). is_empty ls) (left-of x b e))

  answer-top : eqb (record_kind code (literal_at state j)) body_end_kind ≡ is_answer (pile_in (meaning w) state (suc j))
  unfolding is_answer pile_of alternative_at
  answer-top = empty-is body refl

  first-other : (b : Body) → body ≡ b → (record_kind code (literal_at state j) ≡ call_kind → ⊥) → tries_first w.sh top left ≡ false
  unfolding tries_first
  first-other done e z = ap (tries_first w.sh top) (left_end e)
  first-other (also x b) e z = ap (tries_first w.sh top) (left-of x b e) ∙ tries-none w.ss w.sh nodes code (literal_at state j) top x (subst (HeadStands w.ss w.sh nodes code (literal_at state j)) e stands) z

  first-last : (b : Body) → body ≡ b → top.next ≡ 0 → tries_first w.sh top left ≡ false
  unfolding tries_first
  first-last done e z = ap (tries_first w.sh top) (left_end e)
  first-last (also x b) e z = ap (tries_first w.sh top) (left-of x b e) ∙ tries-last w.sh top x z

  -- a clause is tried
  tries-some : (at : Atom) → NextFor w.sh at (next_at state j) → (next_at state j ≡ 0 → ⊥) → tries_with w.sh top (call at) ≡ true
  unfolding tries_with is_there alternative_at
  tries-some at f z =
      let a : next_at state j ≤ length w.sh.clauses = next_low w.sh at (next_at state j) f in
      let c : (cl : Clause) × (clause_at w.sh (next_at state j) ≡ some cl) = clause-some w.sh (next_at state j) (omega (arith, z)) a in
      ap is_there c.1

  first-call : (b : Body) → body ≡ b → record_kind code (literal_at state j) ≡ call_kind → (next_at state j ≡ 0 → ⊥) → tries_first w.sh top left ≡ true
  unfolding tries_first
  first-call done e k z = absurd (let q : record_kind code (literal_at state j) ≡ body_end_kind = subst (HeadStands w.ss w.sh nodes code (literal_at state j)) e stands in omega arith)
  first-call (also (call at) b) e k z =
      ap (tries_first w.sh top) (left-of (call at) b e)
      ∙ tries-some at ((top-stacked w.ss w.sh w.g nodes code state j n w.piled).next at (subst⁻¹ (λ (y : Body). Calls y at) e refl)) z
  first-call (also (equation t u) b) e k z = absurd (let q : record_kind code (literal_at state j) ≡ equation_kind = (subst (HeadStands w.ss w.sh nodes code (literal_at state j)) e stands).0 in omega arith)
  first-call (also truth b) e k z = absurd (let q : record_kind code (literal_at state j) ≡ truth_kind = subst (HeadStands w.ss w.sh nodes code (literal_at state j)) e stands in omega arith)
  first-call (also falsity b) e k z = absurd (let q : record_kind code (literal_at state j) ≡ falsity_kind = subst (HeadStands w.ss w.sh nodes code (literal_at state j)) e stands in omega arith)
  first-call (also (either u v) b) e k z = absurd (let q : record_kind code (literal_at state j) ≡ split_kind = subst (HeadStands w.ss w.sh nodes code (literal_at state j)) e stands in omega arith)

  deeper-is : (t : Bool) → tries_first w.sh top left ≡ t → goes_deeper w.sh (pile_in (meaning w) state (suc j)) ≡ t && leb longest_path (path_at state j)
  unfolding goes_deeper pile_of alternative_at
  deeper-is t e = ap₂ (λ (x : Bool) (y : ℕ). x && leb longest_path y) e (calls_count w.sh w.g code state (path_at state j))

  deeper-other-top : (record_kind code (literal_at state j) ≡ call_kind → ⊥) → false ≡ goes_deeper w.sh (pile_in (meaning w) state (suc j))
  deeper-other-top z = sym (deeper-is false (first-other body refl z))

  deeper-last-top : next_at state j ≡ 0 → false ≡ goes_deeper w.sh (pile_in (meaning w) state (suc j))
  unfolding alternative_at
  deeper-last-top z = sym (deeper-is false (first-last body refl z))

  deeper-call-top : record_kind code (literal_at state j) ≡ call_kind → (next_at state j ≡ 0 → ⊥) → leb longest_path (path_at state j) ≡ goes_deeper w.sh (pile_in (meaning w) state (suc j))
  deeper-call-top k z = sym (deeper-is true (first-call body refl k z))

module _ {nodes code state : List ℕ} {h n : ℕ} (w : Running nodes code state h n) where
  pub answer-none : h ≡ 0 → false ≡ is_answer (pile_in (meaning w) state h)
  unfolding is_answer pile_of
  answer-none e = sym (ap (λ (x : ℕ). is_answer (pile_in (meaning w) state x)) e)

  pub deeper-none : h ≡ 0 → false ≡ goes_deeper w.sh (pile_in (meaning w) state h)
  unfolding goes_deeper pile_of
  deeper-none e = sym (ap (λ (x : ℕ). goes_deeper w.sh (pile_in (meaning w) state x)) e)

  module _ (z : h ≡ 0 → ⊥) where
    filled : 1 ≤ h
    filled = let b : h ≡ 0 → ⊥ = z in omega (arith, b)

    pub run_room : alternative_of (h - 1) + alternative_size ≤ length state
    run_room =
        at_top (λ (h j : ℕ). Running nodes code state h n → alternative_of j + alternative_size ≤ length state) (λ j w. top-room w.ss w.sh w.g nodes code state j n w.piled w.low) h filled w

    module _ {s : Top} (is : s ≡ top_at state (h - 1)) where
      literal_is : s.literal ≡ literal_at state (h - 1)
      literal_is = ap (λ (x : Top). x.literal) is

      next_is : s.next ≡ next_at state (h - 1)
      next_is = ap (λ (x : Top). x.next) is

      path-is : s.path ≡ path_at state (h - 1)
      path-is = ap (λ (x : Top). x.path) is

      pub run_inside : s.literal < length code
      run_inside =
          let a : literal_at state (h - 1) + literal_size ≤ length code =
          at_top (λ (h j : ℕ). Running nodes code state h n → literal_at state j + literal_size ≤ length code) (λ j w. top-inside w.ss w.sh w.g nodes code state j n w.piled) h filled w in
          let b : s.literal ≡ literal_at state (h - 1) = literal_is in
          omega arith

      module _ {v : ℕ} (e : v ≡ get_or code s.literal 0) where
        kind_is : v ≡ record_kind code (literal_at state (h - 1))
        kind_is = e ∙ ap (λ (x : ℕ). get_or code x 0) literal_is

        pub answer-end : eqb v body_end_kind ≡ is_answer (pile_in (meaning w) state h)
        answer-end =
            ap (λ (x : ℕ). eqb x body_end_kind) kind_is
            ∙ at_top (λ (h j : ℕ). (w : Running nodes code state h n) → eqb (record_kind code (literal_at state j)) body_end_kind ≡ is_answer (pile_in (meaning w) state h)) (λ j w. answer-top nodes code state j n w) h filled w

        pub deeper-other : (v ≡ call_kind → ⊥) → false ≡ goes_deeper w.sh (pile_in (meaning w) state h)
        deeper-other y =
            at_top (λ (h j : ℕ). (w : Running nodes code state h n) → (record_kind code (literal_at state j) ≡ call_kind → ⊥) → false ≡ goes_deeper w.sh (pile_in (meaning w) state h))
            (λ j w x. deeper-other-top nodes code state j n w x) h filled w (λ q. y (kind_is ∙ q))

        pub deeper-last : s.next ≡ 0 → false ≡ goes_deeper w.sh (pile_in (meaning w) state h)
        deeper-last y =
            at_top (λ (h j : ℕ). (w : Running nodes code state h n) → next_at state j ≡ 0 → false ≡ goes_deeper w.sh (pile_in (meaning w) state h))
            (λ j w x. deeper-last-top nodes code state j n w x) h filled w (sym next_is ∙ y)

        pub deeper-end : v ≡ 2 → (s.next ≡ 0 → ⊥) → leb longest_path s.path ≡ goes_deeper w.sh (pile_in (meaning w) state h)
        deeper-end k y =
            ap (leb longest_path) path-is
            ∙ at_top (λ (h j : ℕ). (w : Running nodes code state h n) → record_kind code (literal_at state j) ≡ call_kind → (next_at state j ≡ 0 → ⊥) → leb longest_path (path_at state j) ≡ goes_deeper w.sh (pile_in (meaning w) state h))
            (λ j w x u. deeper-call-top nodes code state j n w x u) h filled w (sym kind_is ∙ k) (λ q. y (next_is ∙ q))
