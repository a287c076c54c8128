-- What comes of the top at a call: a clause is tried, and the alternative moves on. Assumes nothing.
use Prim.Native.Nat.{ℕ, suc, ◌+◌, ◌*◌, ◌≤◌, ◌<◌, ◌^◌}
use native.Mathlib.Omega.{arith}
use mathlib.Core.Path.{◌≡◌, refl, sym, ap, ap₂, ◌∙◌, subst, subst⁻¹}
use mathlib.Core.Bool.{Bool, true, false, ◌&&◌}
use mathlib.Core.List.{List, ◌∷◌, ◌++◌}
use mathlib.Core.Option.{Option, none, some}
use lib.Dec.{T, leb}
use lib.ListN.{length}
use borrow.Author.Tests.{leb-false}
use Rattle.syntax.specs.Words.{literal_length, call_kind, program_clauses}
use Rattle.syntax.specs.Limits.{longest_path, literals}
use Rattle.syntax.specs.Terms.{term_of, Atom, call, Body, also, Clause, Sheet, Goal}
use Rattle.machine.specs.Substitution.{copied, Binding}
use Rattle.machine.specs.Unification.{unify}
use Rattle.machine.specs.Machine.{Pending, Alternative, pending, is_for, next_for, topmost, clause_at, moved_on, laid, tried, on_top, called, worked, step}
use Rattle.machine.specs.Runs.{is_there, tries_with, tries_first, goes_deeper}
use Rattle.run_layout.specs.Regions.{copy_cells, places, bodies, state_words, frame_of, alternative_of, literal_size, next_literal, frame_size, alternative_size, most_alternatives, clause_record}
use Rattle.run_layout.specs.Nodes.{Symbol, TermLoaded}
use Rattle.run_layout.specs.State.{copy_of, cell_at, trail_at, bindings, WithinCopies}
use Rattle.run_layout.specs.Program.{head_at, body_at, after_at, record_kind, record_place, other_at}
use Rattle.run_layout.specs.Pile.{Calls, rest_from, left_from, calls_up_to, copy_at, literal_at, next_at, mark_at, path_at, alternative_at, pile_of, NextFor, Piled}
use Rattle.bindings.specs.Plain.{Closed}
use Rattle.bindings.proofs.Apart.{closed-within}
use Rattle.unify.specs.Turns.{answered, Unifiable, UnifyGives}
use Rattle.unify.specs.declared.solve.UnifyAnswer.{UnifyAnswer}
use Rattle.run.specs.Words.{next_words, frame_words}
use Rattle.run.specs.Moves.{Layable, AlternativeLaid, Tryable, ClauseTried, rest_at, tried_on}
use Rattle.run.specs.Steps.{meaning, Steppable, Stepped}
use Rattle.run.specs.declared.alternatives.PileHeight.{PileHeight}
use Rattle.run.proofs.WordLaws.{add-one, next-written, frame-framed}
use Rattle.run.proofs.LayLaws.{LayEnds}
use Rattle.run.proofs.TopLaws.{trail_low, lays-stand, lays-written, head-eq, tail-eq, top-stacked, top-stands, top-inside, top-room, step-also, kept}
use Rattle.run.proofs.WorkLaws.{pops-here}
use Rattle.run_layout.proofs.Step.{left-first, step-exhausted}
use Rattle.run_layout.proofs.Pile.{HeadStands, SameFrames, calls_count, path-high, calls-also, clause-low, kind-call, same_rest, same_left, next-for, next-clause, next_low, next-head, Written, Framed, Means, moved, Pushing, pushed-frames, pushed-place, pushed-left, pushed}

within_more : (k n : ℕ) (state : List ℕ) → WithinCopies k state n → WithinCopies (k + 1) state n
within_more k n state w =
    record {
      cell = λ i l. (let z : trail_at state i < (k + 1) * copy_cells = w.cell i l in omega arith);
      copy = λ i l. (let z : copy_of (cell_at state (trail_at state i)) ≤ k = w.copy i l in omega arith);
    }

one-call : (a : Atom) → literal_length (call a) ≡ 1
unfolding literal_length
one-call a = refl

-- ---- a clause is tried

module _ (nodes code state scratch : List ℕ) (j k : ℕ) (w : Tryable nodes code state scratch (suc j) j k) where
  abbrev ss : List Symbol
  ss = w.ss

  abbrev sh : Sheet
  sh = w.sh

  abbrev g : Goal
  g = w.g

  first : (r : Body) × (rest_from sh g code state (copy_at state j) (literal_at state j) ≡ also (call w.atom) r)
  first = calls-also (rest_from sh g code state (copy_at state j) (literal_at state j)) w.atom w.calls

  call_stands : TermLoaded ss nodes (record_place code (literal_at state j)) (term_of w.atom)
  call_stands = (subst (HeadStands ss sh nodes code (literal_at state j)) first.1 (top-stands ss sh g nodes code state j (mark_at state j) w.piled)).1

  head-stands : TermLoaded ss nodes (head_at code k) (term_of w.clause.head)
  head-stands = (w.piled.program.clause k w.clause w.there).head

  abbrev head-unifiable : Unifiable nodes state scratch (record { node = record_place code (literal_at state j); copy = copy_at state j }) (record { node = head_at code k; copy = path_at state j + 1 }) (mark_at state j)
  head-unifiable =
      let p : path_at state j < longest_path = w.low in
      let c : copy_at state j ≤ path_at state j = (top-stacked ss sh g nodes code state j (mark_at state j) w.piled).copy in
      record {
        ss = ss;
        top = path_at state j + 1;
        store = w.piled.store;
        within = within_more (path_at state j) (mark_at state j) state (top-stacked ss sh g nodes code state j (mark_at state j) w.piled).within;
        roomy = w.roomy;
        clean = w.clean;
        left = (term_of w.atom, call_stands);
        right = (term_of w.clause.head, head-stands);
        copy = omega arith;
        copy_right = omega arith;
        below = omega arith;
        below_right = omega arith;
      }

  pub try-unifiable-top : Unifiable nodes state scratch (record { node = record_place code (literal_at state j); copy = copy_at state j }) (record { node = head_at code k; copy = path_at state j + 1 }) (mark_at state j)
  try-unifiable-top = head-unifiable

  pub try-closed-top : Closed (path_at state j + 1) state
  try-closed-top =
      let p : path_at state j < longest_path = w.low in
      closed-within ss nodes state (mark_at state j) (path_at state j) w.piled.store.raw (top-stacked ss sh g nodes code state j (mark_at state j) w.piled).within (omega arith)

  module _ (state1 later : List ℕ) (r : UnifyAnswer)
      (u : (v : Unifiable nodes state scratch (record { node = record_place code (literal_at state j); copy = copy_at state j }) (record { node = head_at code k; copy = path_at state j + 1 }) (mark_at state j)) → UnifyGives v state1 later r) where
    unifies : UnifyGives head-unifiable state1 later r
    unifies = u head-unifiable

    new_is : suc (length (calls_up_to sh g code state (path_at state j))) ≡ path_at state j + 1
    new_is = let q : length (calls_up_to sh g code state (path_at state j)) ≡ path_at state j = calls_count sh g code state (path_at state j) in omega arith

    tried-is : (b : Bool) → r.equal ≡ b
        → tried sh (alternative_at ss sh g nodes code state j) (copy_at state j) w.atom (rest_at sh g code state j) w.clause ≡ laid sh (alternative_at ss sh g nodes code state j) (copy_at state j) w.atom (rest_at sh g code state j) w.clause (answered b (bindings ss nodes state1 r.trail))
    unfolding tried alternative_at
    tried-is b e =
        ap (laid sh (alternative_at ss sh g nodes code state j) (copy_at state j) w.atom (rest_at sh g code state j) w.clause)
        (ap (λ (y : ℕ). unify (bindings ss nodes state (mark_at state j)) (copied (copy_at state j) (term_of w.atom)) (copied y (term_of w.clause.head))) new_is
        ∙ (unifies.answer (term_of w.atom) (term_of w.clause.head) call_stands head-stands ∙ ap (λ (y : Bool). answered y (bindings ss nodes state1 r.trail)) e))

    pub try-fails-top : r.equal ≡ false → ClauseTried w state1 later (record { height = suc j; trail = r.trail })
    unfolding laid answered on_top pile_of
    try-fails-top e =
        let m : Means ss sh g nodes code state1 (suc j) r.trail (pile_of ss sh g nodes code state (suc j)) = kept ss sh g nodes code state j (mark_at state j) w.piled refl state1 r.trail unifies.keeps unifies.store unifies.grows in
        record {
          is = m.is ∙ sym (ap (λ (o : Option Alternative). on_top o (alternative_at ss sh g nodes code state j) ++ pile_of ss sh g nodes code state j) (tried-is false e));
          piled = m.piled;
          state_long = unifies.keeps.long;
          clean = unifies.clean;
          scratch_long = unifies.long;
        }

    clause-small : k ≤ program_clauses
    clause-small = let a : k ≤ length sh.clauses = clause-low sh k w.clause w.there in let b : length sh.clauses ≤ program_clauses = w.piled.program.few in omega arith

    pub try-frame-top : (frame_of (path_at state j + 1) + frame_size ≤ length state1) × ((k < 2 ^ 32) × ((copy_at state j < 2 ^ 32) × (literal_at state j < 2 ^ 32)))
    try-frame-top =
        let p : path_at state j < longest_path = w.low in
        let c : copy_at state j ≤ path_at state j = (top-stacked ss sh g nodes code state j (mark_at state j) w.piled).copy in
        let l : state_words ≤ length state = w.piled.long in
        let e : length state1 ≡ length state = unifies.keeps.long in
        let q : k ≤ program_clauses = clause-small in
        let i : literal_at state j + literal_size ≤ length code = top-inside ss sh g nodes code state j (mark_at state j) w.piled in
        let s : length code ≤ places = w.piled.program.short in
        (omega arith, (omega arith, (omega arith, omega arith)))

    -- the frame of the new copy is written
    module _ (state2 : List ℕ) (is : state2 ≡ frame_words state1 (path_at state j + 1) k (copy_at state j) (literal_at state j)) where
      frame-room : frame_of (path_at state j + 1) + frame_size ≤ length state1
      frame-room = try-frame-top.0

      pushing : Pushing ss sh g nodes code state state1 state2 j (mark_at state j) r.trail (path_at state j + 1) k w.atom w.clause
      pushing =
          let p : path_at state j < longest_path = w.low in
          record {
            piled = w.piled;
            mark = refl;
            path = refl;
            low = omega arith;
            calls = w.calls;
            keeps = unifies.keeps;
            store = unifies.store;
            within = unifies.within;
            more = unifies.grows;
            clause = w.there;
            framed = subst⁻¹ (Framed (path_at state j + 1) k (copy_at state j) (literal_at state j) state1) is (frame-framed state1 (path_at state j + 1) k (copy_at state j) (literal_at state j) frame-room);
          }

      state2-long : length state2 ≡ length state
      state2-long = pushing.framed.long ∙ unifies.keeps.long

      room2 : alternative_of (suc j) + alternative_size ≤ length state2
      room2 =
          let p : path_at state j < longest_path = w.low in
          let a : suc j < most_alternatives = w.room in
          let l : state_words ≤ length state = w.piled.long in
          let e : length state2 ≡ length state = state2-long in
          omega arith

      pub try-layable-top : Layable code state2 (suc j) (path_at state j + 1) (body_at code k) r.trail (path_at state j + 1)
      try-layable-top =
          let p : path_at state j < longest_path = w.low in
          let a : suc j < most_alternatives = w.room in
          let l : state_words ≤ length state = w.piled.long in
          let e : length state2 ≡ length state = state2-long in
          record {
            ss = ss;
            sh = sh;
            g = g;
            nodes = nodes;
            climbing = record {
              program = w.piled.program;
              long = omega arith;
              low = omega arith;
              frame = pushed-frames ss sh g nodes code state state1 state2 j (mark_at state j) r.trail (path_at state j + 1) k w.atom w.clause pushing;
              copy = omega arith;
              place = pushed-place ss sh g nodes code state state1 state2 j (mark_at state j) r.trail (path_at state j + 1) k w.atom w.clause pushing;
            };
            room = omega arith;
            small = trail_low ss nodes state1 r.trail unifies.store;
          }

      new-left : left_from sh g code state2 (path_at state j + 1) (path_at state j + 1) (body_at code k) ≡ pending (suc (length (calls_up_to sh g code state (path_at state j)))) w.clause.body (rest_at sh g code state j)
      new-left =
          pushed-left ss sh g nodes code state state1 state2 j (mark_at state j) r.trail (path_at state j + 1) k w.atom w.clause pushing
          ∙ ap (λ (y : ℕ). pending y w.clause.body (rest_at sh g code state j)) (sym new_is)

      pub try-core : r.equal ≡ true → (after : List ℕ) → LayEnds code state2 after (suc j) (path_at state j + 1) (body_at code k) r.trail (path_at state j + 1)
          → ClauseTried w after later (record { height = suc j + 1; trail = r.trail })
      unfolding try-layable-top laid answered on_top pile_of alternative_at
      try-core e after f =
          let q : AlternativeLaid try-layable-top.climbing after (suc j) r.trail = f try-layable-top in
          let m : Means ss sh g nodes code after (suc (suc j)) r.trail (record { literals = left_from sh g code state2 (path_at state j + 1) q.spot.copy q.spot.literal; bindings = bindings ss nodes state1 r.trail; next = q.next; calls = record { copy = copy_at state j; atom = w.atom } ∷ calls_up_to sh g code state (path_at state j) } ∷ pile_of ss sh g nodes code state (suc j)) =
          pushed ss sh g nodes code state state1 state2 j (mark_at state j) r.trail (path_at state j + 1) k w.atom w.clause pushing after q.spot.copy q.spot.literal q.next q.climbs.copy (lays-stand q) (lays-written q room2) in
          let lits : left_from sh g code state2 (path_at state j + 1) q.spot.copy q.spot.literal ≡ pending (suc (length (calls_up_to sh g code state (path_at state j)))) w.clause.body (rest_at sh g code state j) = q.climbs.same ∙ new-left in
          let nxt : q.next ≡ topmost sh (pending (suc (length (calls_up_to sh g code state (path_at state j)))) w.clause.body (rest_at sh g code state j)) = q.next_is ∙ ap (topmost sh) new-left in
          subst⁻¹ (λ (y : ℕ). ClauseTried w after later (record { height = y; trail = r.trail })) (add-one (suc j))
          (record {
            is = m.is ∙ ((λ i. record { literals = lits i; bindings = bindings ss nodes state1 r.trail; next = nxt i; calls = record { copy = copy_at state j; atom = w.atom } ∷ calls_up_to sh g code state (path_at state j) } ∷ pile_of ss sh g nodes code state (suc j))
                ∙ sym (ap (λ (o : Option Alternative). on_top o (alternative_at ss sh g nodes code state j) ++ pile_of ss sh g nodes code state j) (tried-is true e)));
            piled = m.piled;
            state_long = (lays-written q room2).long ∙ state2-long;
            clean = unifies.clean;
            scratch_long = unifies.long;
          })

-- ---- the alternative moves on

laid-moved : (sh : Sheet) (a : Alternative) (c : ℕ) (at : Atom) (rest : List Pending) (cl : Clause) (o : Option (List Binding)) → laid sh (moved_on sh a at) c at rest cl o ≡ laid sh a c at rest cl o
unfolding laid moved_on
laid-moved sh a c at rest cl none = refl
laid-moved sh a c at rest cl (some b) = refl

tried-moved : (sh : Sheet) (a : Alternative) (c : ℕ) (at : Atom) (rest : List Pending) (cl : Clause) → tried sh (moved_on sh a at) c at rest cl ≡ tried sh a c at rest cl
unfolding tried moved_on
tried-moved sh a c at rest cl = laid-moved sh a c at rest cl (unify a.bindings (copied c (term_of at)) (copied (suc (length a.calls)) (term_of cl.head)))

module _ (nodes code state scratch : List ℕ) (j : ℕ) (w : Steppable nodes code state scratch (suc j) (mark_at state j)) (kind : record_kind code (literal_at state j) ≡ call_kind) where
  abbrev ss₁ : List Symbol
  ss₁ = w.running.ss

  abbrev sh₁ : Sheet
  sh₁ = w.running.sh

  abbrev g₁ : Goal
  g₁ = w.running.g

  piled : Piled w.running.ss w.running.sh w.running.g nodes code state (suc j) (mark_at state j)
  piled = w.running.piled

  calling : (a : Atom) × (r : Body) × (rest_from sh₁ g₁ code state (copy_at state j) (literal_at state j) ≡ also (call a) r) × TermLoaded ss₁ nodes (record_place code (literal_at state j)) (term_of a) × (other_at code (literal_at state j) ≡ next_for sh₁ a 0)
  calling = kind-call ss₁ sh₁ nodes code (literal_at state j) (rest_from sh₁ g₁ code state (copy_at state j) (literal_at state j)) (top-stands ss₁ sh₁ g₁ nodes code state j (mark_at state j) piled) kind

  is-calling : Calls (rest_from sh₁ g₁ code state (copy_at state j) (literal_at state j)) calling.0
  is-calling = subst⁻¹ (λ (b : Body). Calls b calling.0) calling.2 refl

  call_step : step sh₁ (pile_of ss₁ sh₁ g₁ nodes code state (suc j)) ≡ called sh₁ (alternative_at ss₁ sh₁ g₁ nodes code state j) (copy_at state j) calling.0 (rest_at sh₁ g₁ code state j) (clause_at sh₁ (next_at state j)) ++ pile_of ss₁ sh₁ g₁ nodes code state j
  unfolding worked alternative_at
  call_step = step-also ss₁ sh₁ g₁ nodes code state j (mark_at state j) piled (call calling.0) calling.1 (one-call calling.0) calling.2

  pub call-none-top : next_at state j ≡ 0 → Stepped (meaning w.running) state state scratch scratch (suc j) (record { height = j; trail = mark_at state j })
  call-none-top e =
      pops-here nodes code state scratch j w
      (step-exhausted ss₁ sh₁ g₁ nodes code state j piled.program (top-stacked ss₁ sh₁ g₁ nodes code state j (mark_at state j) piled) calling.1 calling.0 calling.2 e)

  module _ (l : 1 ≤ next_at state j) where
    clause-of : (a : Atom) → Calls (rest_from sh₁ g₁ code state (copy_at state j) (literal_at state j)) a → (cl : Clause) × (clause_at sh₁ (next_at state j) ≡ some cl) × T (is_for a cl)
    clause-of a q = next-clause sh₁ a (next_at state j) l ((top-stacked ss₁ sh₁ g₁ nodes code state j (mark_at state j) piled).next a q)

    after_is : (a : Atom) → Calls (rest_from sh₁ g₁ code state (copy_at state j) (literal_at state j)) a → after_at code (next_at state j) ≡ next_for sh₁ a (next_at state j)
    after_is a q =
        let c : (cl : Clause) × (clause_at sh₁ (next_at state j) ≡ some cl) × T (is_for a cl) = clause-of a q in
        (piled.program.clause (next_at state j) c.0 c.1).after ∙ sym (next-head sh₁ a c.0 (next_at state j) c.2)

    after-for : (a : Atom) → Calls (rest_from sh₁ g₁ code state (copy_at state j) (literal_at state j)) a → NextFor sh₁ a (after_at code (next_at state j))
    after-for a q = subst⁻¹ (NextFor sh₁ a) (after_is a q) (next-for sh₁ a (next_at state j))

    clause : Clause
    clause = (clause-of calling.0 is-calling).0

    there : clause_at sh₁ (next_at state j) ≡ some clause
    unfolding clause
    there = (clause-of calling.0 is-calling).1

    pub call-inside-top : clause_record (next_at state j) + 2 < length code
    call-inside-top =
        let a : next_at state j ≤ length sh₁.clauses = clause-low sh₁ (next_at state j) clause there in
        let b : length sh₁.clauses ≤ program_clauses = piled.program.few in
        let c : bodies ≤ length code = piled.program.long in
        omega arith

    pub call-room-top : (alternative_of j + alternative_size ≤ length state) × (after_at code (next_at state j) < 2 ^ 32)
    call-room-top =
        let a : after_at code (next_at state j) ≤ length sh₁.clauses = next_low sh₁ calling.0 (after_at code (next_at state j)) (after-for calling.0 is-calling) in
        let b : length sh₁.clauses ≤ program_clauses = piled.program.few in
        (top-room ss₁ sh₁ g₁ nodes code state j (mark_at state j) piled w.running.low, omega arith)

    tries : tries_first sh₁ (alternative_at ss₁ sh₁ g₁ nodes code state j) (left_from sh₁ g₁ code state (path_at state j) (copy_at state j) (literal_at state j)) ≡ true
    unfolding tries_first tries_with is_there alternative_at
    tries =
        ap (tries_first sh₁ (alternative_at ss₁ sh₁ g₁ nodes code state j)) (left-first sh₁ g₁ code state (path_at state j) (copy_at state j) (literal_at state j) calling.2)
        ∙ ap is_there there

    deep : leb longest_path (length (calls_up_to sh₁ g₁ code state (path_at state j))) ≡ false
    unfolding goes_deeper pile_of alternative_at
    deep = sym (ap (λ (t : Bool). t && leb longest_path (length (calls_up_to sh₁ g₁ code state (path_at state j)))) tries) ∙ w.goes

    path-low : path_at state j < longest_path
    path-low =
        let a : length (calls_up_to sh₁ g₁ code state (path_at state j)) < longest_path = leb-false longest_path (length (calls_up_to sh₁ g₁ code state (path_at state j))) deep in
        let b : length (calls_up_to sh₁ g₁ code state (path_at state j)) ≡ path_at state j = calls_count sh₁ g₁ code state (path_at state j) in
        omega arith

    module _ (state1 : List ℕ) (is : state1 ≡ next_words state j (after_at code (next_at state j))) where
      written : Written j (copy_at state j) (literal_at state j) (after_at code (next_at state j)) (mark_at state j) (path_at state j) state state1
      written = subst⁻¹ (λ (x : List ℕ). Written j (copy_at state j) (literal_at state j) (after_at code (next_at state j)) (mark_at state j) (path_at state j) state x) is (next-written state j (after_at code (next_at state j)) (top-room ss₁ sh₁ g₁ nodes code state j (mark_at state j) piled w.running.low))

      framed-same : SameFrames longest_path state state1
      framed-same i a b = written.others i (omega arith)

      means : Means ss₁ sh₁ g₁ nodes code state1 (suc j) (mark_at state j) (record { literals = left_from sh₁ g₁ code state (path_at state j) (copy_at state j) (literal_at state j); bindings = bindings ss₁ nodes state (mark_at state j); next = after_at code (next_at state j); calls = calls_up_to sh₁ g₁ code state (path_at state j) } ∷ pile_of ss₁ sh₁ g₁ nodes code state j)
      means = moved ss₁ sh₁ g₁ nodes code state state1 j (mark_at state j) (after_at code (next_at state j)) piled after-for written

      low-path : path_at state j ≤ longest_path
      low-path = (top-stacked ss₁ sh₁ g₁ nodes code state j (mark_at state j) piled).low

      low-copy : copy_at state j ≤ path_at state j
      low-copy = (top-stacked ss₁ sh₁ g₁ nodes code state j (mark_at state j) piled).copy

      same_here : rest_from sh₁ g₁ code state1 (copy_at state1 j) (literal_at state1 j) ≡ rest_from sh₁ g₁ code state (copy_at state j) (literal_at state j)
      same_here =
          let a : path_at state j ≤ longest_path = low-path in
          let b : copy_at state j ≤ path_at state j = low-copy in
          ap₂ (rest_from sh₁ g₁ code state1) written.copy written.literal ∙ same_rest sh₁ g₁ code state state1 longest_path framed-same (copy_at state j) (literal_at state j) (omega arith)

      same-behind-it : rest_at sh₁ g₁ code state1 j ≡ rest_at sh₁ g₁ code state j
      same-behind-it =
          (λ i. left_from sh₁ g₁ code state1 (written.path i) (written.copy i) (next_literal (written.literal i)))
          ∙ same_left sh₁ g₁ code state state1 longest_path framed-same (path_at state j) (copy_at state j) (next_literal (literal_at state j)) low-path low-copy (top-stacked ss₁ sh₁ g₁ nodes code state j (mark_at state j) piled).frame

      pub call-tryable-top : Tryable nodes code state1 scratch (suc j) j (next_at state j)
      call-tryable-top =
          let a : path_at state j < longest_path = path-low in
          let b : path_at state1 j ≡ path_at state j = written.path in
          let c : suc j ≤ literals * (path_at state j + 1) = path-high ss₁ sh₁ g₁ nodes code state j w.running.low in
          record {
            ss = ss₁;
            sh = sh₁;
            g = g₁;
            piled = subst⁻¹ (Piled ss₁ sh₁ g₁ nodes code state1 (suc j)) written.mark means.piled;
            filled = refl;
            low = omega arith;
            room = (let d : suc j < most_alternatives = omega arith in d);
            atom = calling.0;
            calls = subst⁻¹ (λ (y : Body). Calls y calling.0) same_here is-calling;
            clause = clause;
            there = there;
            roomy = w.roomy;
            clean = w.clean;
          }

      moved-head : alternative_at ss₁ sh₁ g₁ nodes code state1 j ≡ moved_on sh₁ (alternative_at ss₁ sh₁ g₁ nodes code state j) calling.0
      unfolding pile_of moved_on alternative_at
      moved-head =
          head-eq (alternative_at ss₁ sh₁ g₁ nodes code state1 j) (record { literals = left_from sh₁ g₁ code state (path_at state j) (copy_at state j) (literal_at state j); bindings = bindings ss₁ nodes state (mark_at state j); next = after_at code (next_at state j); calls = calls_up_to sh₁ g₁ code state (path_at state j) }) (pile_of ss₁ sh₁ g₁ nodes code state1 j) (pile_of ss₁ sh₁ g₁ nodes code state j) means.is
          ∙ (λ i. record { literals = left_from sh₁ g₁ code state (path_at state j) (copy_at state j) (literal_at state j); bindings = bindings ss₁ nodes state (mark_at state j); next = after_is calling.0 is-calling i; calls = calls_up_to sh₁ g₁ code state (path_at state j) })

      moved-tail : pile_of ss₁ sh₁ g₁ nodes code state1 j ≡ pile_of ss₁ sh₁ g₁ nodes code state j
      unfolding pile_of
      moved-tail = tail-eq (alternative_at ss₁ sh₁ g₁ nodes code state1 j) (record { literals = left_from sh₁ g₁ code state (path_at state j) (copy_at state j) (literal_at state j); bindings = bindings ss₁ nodes state (mark_at state j); next = after_at code (next_at state j); calls = calls_up_to sh₁ g₁ code state (path_at state j) }) (pile_of ss₁ sh₁ g₁ nodes code state1 j) (pile_of ss₁ sh₁ g₁ nodes code state j) means.is

      -- trying the clause, once the alternative has moved on, is the step
      tried-step : tried_on call-tryable-top ≡ step sh₁ (pile_of ss₁ sh₁ g₁ nodes code state (suc j))
      unfolding called call-tryable-top
      tried-step =
          (λ i. on_top (tried sh₁ (moved-head i) (written.copy i) calling.0 (same-behind-it i) clause) (moved-head i) ++ moved-tail i)
          ∙ (ap (λ (o : Option Alternative). on_top o (moved_on sh₁ (alternative_at ss₁ sh₁ g₁ nodes code state j) calling.0) ++ pile_of ss₁ sh₁ g₁ nodes code state j) (tried-moved sh₁ (alternative_at ss₁ sh₁ g₁ nodes code state j) (copy_at state j) calling.0 (rest_at sh₁ g₁ code state j) clause)
          ∙ sym (call_step ∙ ap (λ (o : Option Clause). called sh₁ (alternative_at ss₁ sh₁ g₁ nodes code state j) (copy_at state j) calling.0 (rest_at sh₁ g₁ code state j) o ++ pile_of ss₁ sh₁ g₁ nodes code state j) there))

      pub call-end-top : (after later : List ℕ) (r : PileHeight) → ((v : Tryable nodes code state1 scratch (suc j) j (next_at state j)) → ClauseTried v after later r)
          → Stepped (meaning w.running) state after scratch later (suc j) r
      unfolding call-tryable-top
      call-end-top after later r k =
          let m : ClauseTried call-tryable-top after later r = k call-tryable-top in
          record { is = m.is ∙ tried-step; piled = m.piled; state_long = m.state_long ∙ written.long; clean = m.clean; scratch_long = m.scratch_long }
