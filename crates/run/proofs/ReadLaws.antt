-- The laws of the top as the code meets them: for a height and the number below it, and words that were read. Assumes nothing.
use Prim.Native.Nat.{ℕ, suc, ◌+◌, ◌-◌, ◌≤◌, ◌<◌, ◌^◌}
use native.Mathlib.Omega.{arith}
use mathlib.Core.Path.{◌≡◌, refl, sym, ap, ◌∙◌, subst, subst⁻¹}
use mathlib.Core.Bool.{true, false}
use mathlib.Core.List.{List}
use lib.ListN.{length, get_or}
use Rattle.syntax.specs.Words.{truth_kind, call_kind, equation_kind, program_clauses}
use Rattle.syntax.specs.Limits.{longest_path}
use Rattle.run_layout.specs.Regions.{split_kind, places, bodies, state_words, most_alternatives, frame_of, alternative_of, literal_size, next_literal, frame_size, alternative_size, clause_record}
use Rattle.run_layout.specs.Program.{head_at, body_at, after_at, record_kind, record_place, other_at}
use Rattle.run_layout.specs.Pile.{copy_at, literal_at, next_at, mark_at, path_at}
use Rattle.bindings.specs.Plain.{Closed}
use Rattle.unify.specs.Turns.{Unifiable, UnifyGives}
use Rattle.unify.specs.declared.solve.UnifyAnswer.{UnifyAnswer}
use Rattle.run.specs.Words.{top_at, next_words, frame_words}
use Rattle.run.specs.Moves.{Layable, Tryable, ClauseTried}
use Rattle.run.specs.Steps.{meaning, Steppable, Stepped}
use Rattle.run.specs.declared.alternatives.PileHeight.{PileHeight}
use Rattle.run.specs.declared.alternatives.records.Top.{Top}
use Rattle.run_layout.proofs.Pile.{clause-low}
use Rattle.run.proofs.LayLaws.{LayEnds}
use Rattle.run.proofs.TopLaws.{at_top, top-inside, top-room}
use Rattle.run.proofs.WorkLaws.{pops-other, truth-layable-top, truth-core, equation-unifiable-top, equation-fails-top, equation-layable-top, equation-core, right-layable-top, left-layable-top, either-core}
use Rattle.run.proofs.CallLaws.{try-unifiable-top, try-closed-top, try-fails-top, try-frame-top, try-layable-top, try-core, call-none-top, call-inside-top, call-room-top, call-tryable-top, call-end-top}

-- ---- what a callee promises, of equal numbers

abbrev pub UnifyEnds : (nodes state state1 scratch later : List ℕ) (p c q d n : ℕ) → UnifyAnswer → Type 0
UnifyEnds nodes state state1 scratch later p c q d n r = (v : Unifiable nodes state scratch (record { node = p; copy = c }) (record { node = q; copy = d }) n) → UnifyGives v state1 later r

module _ {nodes state scratch : List ℕ} {p p2 c c2 q q2 d d2 n n2 : ℕ} (pe : p ≡ p2) (ce : c ≡ c2) (qe : q ≡ q2) (de : d ≡ d2) (ne : n ≡ n2) where
  pub unifiable-of : Unifiable nodes state scratch (record { node = p2; copy = c2 }) (record { node = q2; copy = d2 }) n2 → Unifiable nodes state scratch (record { node = p; copy = c }) (record { node = q; copy = d }) n
  unifiable-of v =
      subst⁻¹ (λ (x : ℕ). Unifiable nodes state scratch (record { node = x; copy = c }) (record { node = q; copy = d }) n) pe
      (subst⁻¹ (λ (x : ℕ). Unifiable nodes state scratch (record { node = p2; copy = x }) (record { node = q; copy = d }) n) ce
      (subst⁻¹ (λ (x : ℕ). Unifiable nodes state scratch (record { node = p2; copy = c2 }) (record { node = x; copy = d }) n) qe
      (subst⁻¹ (λ (x : ℕ). Unifiable nodes state scratch (record { node = p2; copy = c2 }) (record { node = q2; copy = x }) n) de (subst⁻¹ (λ (x : ℕ). Unifiable nodes state scratch (record { node = p2; copy = c2 }) (record { node = q2; copy = d2 }) x) ne v))))

  pub unify-ends : (state1 later : List ℕ) (r : UnifyAnswer) → UnifyEnds nodes state state1 scratch later p c q d n r → UnifyEnds nodes state state1 scratch later p2 c2 q2 d2 n2 r
  unify-ends state1 later r k =
      subst (λ (x : ℕ). UnifyEnds nodes state state1 scratch later p2 c2 q2 d2 x r) ne
      (subst (λ (x : ℕ). UnifyEnds nodes state state1 scratch later p2 c2 q2 x n r) de
      (subst (λ (x : ℕ). UnifyEnds nodes state state1 scratch later p2 c2 x d n r) qe
      (subst (λ (x : ℕ). UnifyEnds nodes state state1 scratch later p2 x q d n r) ce (subst (λ (x : ℕ). UnifyEnds nodes state state1 scratch later x c q d n r) pe k))))

module _ {code state : List ℕ} {j c c2 l l2 mark mark2 path path2 : ℕ} (ce : c ≡ c2) (le : l ≡ l2) (me : mark ≡ mark2) (pe : path ≡ path2) where
  pub layable-of : Layable code state j c2 l2 mark2 path2 → Layable code state j c l mark path
  layable-of v =
      subst⁻¹ (λ (x : ℕ). Layable code state j x l mark path) ce
      (subst⁻¹ (λ (x : ℕ). Layable code state j c2 x mark path) le
      (subst⁻¹ (λ (x : ℕ). Layable code state j c2 l2 x path) me (subst⁻¹ (λ (x : ℕ). Layable code state j c2 l2 mark2 x) pe v)))

  pub lay-ends : (after : List ℕ) → LayEnds code state after j c l mark path → LayEnds code state after j c2 l2 mark2 path2
  lay-ends after k =
      subst (λ (x : ℕ). LayEnds code state after j c2 l2 mark2 x) pe
      (subst (λ (x : ℕ). LayEnds code state after j c2 l2 x path) me
      (subst (λ (x : ℕ). LayEnds code state after j c2 x mark path) le (subst (λ (x : ℕ). LayEnds code state after j x l mark path) ce k)))

-- ---- the top

-- the parts of a top that is another
module _ {s r : Top} (is : s ≡ r) where
  copy_is : s.copy ≡ r.copy
  copy_is = ap (λ (x : Top). x.copy) is

  literal_is : s.literal ≡ r.literal
  literal_is = ap (λ (x : Top). x.literal) is

  next_is : s.next ≡ r.next
  next_is = ap (λ (x : Top). x.next) is

  mark-is : s.mark ≡ r.mark
  mark-is = ap (λ (x : Top). x.mark) is

  path-is : s.path ≡ r.path
  path-is = ap (λ (x : Top). x.path) is

module _ (nodes code state scratch : List ℕ) (j : ℕ) (w : Steppable nodes code state scratch (suc j) (mark_at state j)) where
  top-facts : (alternative_of j + alternative_size ≤ length state) × ((literal_at state j + literal_size ≤ length code) × (length code ≤ places))
  top-facts = (
    top-room w.running.ss w.running.sh w.running.g nodes code state j (mark_at state j) w.running.piled w.running.low,
    (top-inside w.running.ss w.running.sh w.running.g nodes code state j (mark_at state j) w.running.piled, w.running.piled.program.short),
  )

-- ---- below `step`

module _ {nodes code state scratch : List ℕ} {h : ℕ} (w : Steppable nodes code state scratch h (mark_at state (h - 1))) where
  facts : (alternative_of (h - 1) + alternative_size ≤ length state) × ((literal_at state (h - 1) + literal_size ≤ length code) × (length code ≤ places))
  facts =
      at_top (λ (h j : ℕ). Steppable nodes code state scratch h (mark_at state j) → (alternative_of j + alternative_size ≤ length state) × ((literal_at state j + literal_size ≤ length code) × (length code ≤ places)))
      (λ j w. top-facts nodes code state scratch j w) h w.some w

  pub work-room : alternative_of (h - 1) + alternative_size ≤ length state
  work-room = facts.0

  module _ {s : Top} (is : s ≡ top_at state (h - 1)) where
    pub work-inside : (s.literal + literal_size ≤ length code) × (length code ≤ places)
    work-inside =
        let a : literal_at state (h - 1) + literal_size ≤ length code = facts.1.0 in
        let b : s.literal ≡ literal_at state (h - 1) = literal_is is in
        (omega arith, facts.1.1)

    -- the kind, as it was read
    pub kind-read : {v k : ℕ} → v ≡ get_or code s.literal 0 → v ≡ k → record_kind code (literal_at state (h - 1)) ≡ k
    kind-read {v} {k} e q = sym (ap (λ (x : ℕ). get_or code x 0) (literal_is is)) ∙ (sym e ∙ q)

    other-read : {v k : ℕ} → v ≡ get_or code s.literal 0 → (v ≡ k → ⊥) → record_kind code (literal_at state (h - 1)) ≡ k → ⊥
    other-read {v} {k} e z q = z (e ∙ (ap (λ (x : ℕ). get_or code x 0) (literal_is is) ∙ q))

    pub work-pops : {v : ℕ} → v ≡ get_or code s.literal 0 → (v ≡ call_kind → ⊥) → (v ≡ equation_kind → ⊥) → (v ≡ split_kind → ⊥) → (v ≡ truth_kind → ⊥)
        → Stepped (meaning w.running) state state scratch scratch h (record { height = h - 1; trail = s.mark })
    work-pops e a b f c =
        subst⁻¹ (λ (x : ℕ). Stepped (meaning w.running) state state scratch scratch h (record { height = h - 1; trail = x })) (mark-is is)
        (at_top (λ (h j : ℕ). (w : Steppable nodes code state scratch h (mark_at state j)) → (record_kind code (literal_at state j) ≡ call_kind → ⊥) → (record_kind code (literal_at state j) ≡ equation_kind → ⊥) → (record_kind code (literal_at state j) ≡ truth_kind → ⊥) → (record_kind code (literal_at state j) ≡ split_kind → ⊥) → Stepped (meaning w.running) state state scratch scratch h (record { height = j; trail = mark_at state j }))
        (λ j w x y z u. pops-other nodes code state scratch j w x y z u) h w.some w (other-read e a) (other-read e b) (other-read e c) (other-read e f))

    pub truth-layable : {v i : ℕ} → v ≡ get_or code s.literal 0 → v ≡ truth_kind → i ≡ next_literal s.literal → Layable code state (h - 1) s.copy i s.mark s.path
    truth-layable e q n =
        layable-of (copy_is is) (n ∙ ap (λ (x : ℕ). next_literal x) (literal_is is)) (mark-is is) (path-is is)
        (at_top (λ (h j : ℕ). Steppable nodes code state scratch h (mark_at state j) → record_kind code (literal_at state j) ≡ truth_kind → Layable code state j (copy_at state j) (next_literal (literal_at state j)) (mark_at state j) (path_at state j))
        (λ j w x. truth-layable-top nodes code state scratch j w x) h w.some w (kind-read e q))

    pub truth-end : {v i : ℕ} → v ≡ get_or code s.literal 0 → v ≡ truth_kind → i ≡ next_literal s.literal → (after : List ℕ) → LayEnds code state after (h - 1) s.copy i s.mark s.path
        → Stepped (meaning w.running) state after scratch scratch h (record { height = h; trail = s.mark })
    truth-end e q n after k =
        subst⁻¹ (λ (x : ℕ). Stepped (meaning w.running) state after scratch scratch h (record { height = h; trail = x })) (mark-is is)
        (at_top (λ (h j : ℕ). (w : Steppable nodes code state scratch h (mark_at state j)) → record_kind code (literal_at state j) ≡ truth_kind → LayEnds code state after j (copy_at state j) (next_literal (literal_at state j)) (mark_at state j) (path_at state j) → Stepped (meaning w.running) state after scratch scratch h (record { height = h; trail = mark_at state j }))
        (λ j w x y. truth-core nodes code state scratch j w x after y) h w.some w (kind-read e q) (lay-ends (copy_is is) (n ∙ ap (λ (x : ℕ). next_literal x) (literal_is is)) (mark-is is) (path-is is) after k))

    -- a bracket
    module _ (kind : record_kind code (literal_at state (h - 1)) ≡ split_kind) {r : ℕ} (re : r ≡ get_or code (s.literal + 2) 0) where
      right_is : r ≡ other_at code (literal_at state (h - 1))
      right_is = re ∙ ap (λ (x : ℕ). get_or code (x + 2) 0) (literal_is is)

      pub right-layable : Layable code state (h - 1) s.copy r s.mark s.path
      right-layable =
          layable-of (copy_is is) right_is (mark-is is) (path-is is)
          (at_top (λ (h j : ℕ). Steppable nodes code state scratch h (mark_at state j) → record_kind code (literal_at state j) ≡ split_kind → Layable code state j (copy_at state j) (other_at code (literal_at state j)) (mark_at state j) (path_at state j))
          (λ j w x. right-layable-top nodes code state scratch j w x) h w.some w kind)

      module _ {state1 : List ℕ} (k : LayEnds code state state1 (h - 1) s.copy r s.mark s.path) {i : ℕ} (n : i ≡ next_literal s.literal) where
        right-ends : LayEnds code state state1 (h - 1) (copy_at state (h - 1)) (other_at code (literal_at state (h - 1))) (mark_at state (h - 1)) (path_at state (h - 1))
        right-ends = lay-ends (copy_is is) right_is (mark-is is) (path-is is) state1 k

        pub left-layable : Layable code state1 h s.copy i s.mark s.path
        left-layable =
            layable-of (copy_is is) (n ∙ ap (λ (x : ℕ). next_literal x) (literal_is is)) (mark-is is) (path-is is)
            (at_top (λ (h j : ℕ). Steppable nodes code state scratch h (mark_at state j) → record_kind code (literal_at state j) ≡ split_kind
            → LayEnds code state state1 j (copy_at state j) (other_at code (literal_at state j)) (mark_at state j) (path_at state j) → Layable code state1 h (copy_at state j) (next_literal (literal_at state j)) (mark_at state j) (path_at state j))
            (λ j w x y. left-layable-top nodes code state scratch j w x state1 y) h w.some w kind right-ends)

        pub either_end : (after : List ℕ) → LayEnds code state1 after h s.copy i s.mark s.path
            → Stepped (meaning w.running) state after scratch scratch h (record { height = h + 1; trail = s.mark })
        either_end after y =
            subst⁻¹ (λ (x : ℕ). Stepped (meaning w.running) state after scratch scratch h (record { height = h + 1; trail = x })) (mark-is is)
            (at_top (λ (h j : ℕ). (w : Steppable nodes code state scratch h (mark_at state j)) → record_kind code (literal_at state j) ≡ split_kind
            → LayEnds code state state1 j (copy_at state j) (other_at code (literal_at state j)) (mark_at state j) (path_at state j) → LayEnds code state1 after h (copy_at state j) (next_literal (literal_at state j)) (mark_at state j) (path_at state j)
            → Stepped (meaning w.running) state after scratch scratch h (record { height = h + 1; trail = mark_at state j }))
            (λ j w x u z. either-core nodes code state scratch j w x state1 u after z) h w.some w kind right-ends (lay-ends (copy_is is) (n ∙ ap (λ (x : ℕ). next_literal x) (literal_is is)) (mark-is is) (path-is is) after y))

    -- an equation
    module _ (kind : record_kind code (literal_at state (h - 1)) ≡ equation_kind) {p q : ℕ} (pe : p ≡ get_or code (s.literal + 1) 0) (qe : q ≡ get_or code (s.literal + 2) 0) where
      place_is : p ≡ record_place code (literal_at state (h - 1))
      place_is = pe ∙ ap (λ (x : ℕ). get_or code (x + 1) 0) (literal_is is)

      other-is : q ≡ other_at code (literal_at state (h - 1))
      other-is = qe ∙ ap (λ (x : ℕ). get_or code (x + 2) 0) (literal_is is)

      pub equation-unifiable : Unifiable nodes state scratch (record { node = p; copy = s.copy }) (record { node = q; copy = s.copy }) s.mark
      equation-unifiable =
          unifiable-of place_is (copy_is is) other-is (copy_is is) (mark-is is)
          (at_top (λ (h j : ℕ). Steppable nodes code state scratch h (mark_at state j) → record_kind code (literal_at state j) ≡ equation_kind → Unifiable nodes state scratch (record { node = record_place code (literal_at state j); copy = copy_at state j }) (record { node = other_at code (literal_at state j); copy = copy_at state j }) (mark_at state j))
          (λ j w x. equation-unifiable-top nodes code state scratch j w x) h w.some w kind)

      module _ {state1 later : List ℕ} {r : UnifyAnswer} (k : UnifyEnds nodes state state1 scratch later p s.copy q s.copy s.mark r) where
        ends_is : UnifyEnds nodes state state1 scratch later (record_place code (literal_at state (h - 1))) (copy_at state (h - 1)) (other_at code (literal_at state (h - 1))) (copy_at state (h - 1)) (mark_at state (h - 1)) r
        ends_is = unify-ends place_is (copy_is is) other-is (copy_is is) (mark-is is) state1 later r k

        pub equation-fails : r.equal ≡ false → Stepped (meaning w.running) state state1 scratch later h (record { height = h - 1; trail = r.trail })
        equation-fails e =
            at_top (λ (h j : ℕ). (w : Steppable nodes code state scratch h (mark_at state j)) → record_kind code (literal_at state j) ≡ equation_kind → UnifyEnds nodes state state1 scratch later (record_place code (literal_at state j)) (copy_at state j) (other_at code (literal_at state j)) (copy_at state j) (mark_at state j) r → Stepped (meaning w.running) state state1 scratch later h (record { height = j; trail = r.trail }))
            (λ j w x u. equation-fails-top nodes code state scratch j w x state1 later r u e) h w.some w kind ends_is

        pub equation-layable : {i : ℕ} → r.equal ≡ true → i ≡ next_literal s.literal → Layable code state1 (h - 1) s.copy i r.trail s.path
        equation-layable e n =
            layable-of (copy_is is) (n ∙ ap (λ (x : ℕ). next_literal x) (literal_is is)) refl (path-is is)
            (at_top (λ (h j : ℕ). Steppable nodes code state scratch h (mark_at state j) → record_kind code (literal_at state j) ≡ equation_kind → UnifyEnds nodes state state1 scratch later (record_place code (literal_at state j)) (copy_at state j) (other_at code (literal_at state j)) (copy_at state j) (mark_at state j) r → Layable code state1 j (copy_at state j) (next_literal (literal_at state j)) r.trail (path_at state j))
            (λ j w x u. equation-layable-top nodes code state scratch j w x state1 later r u e) h w.some w kind ends_is)

        pub equation-end : {i : ℕ} → r.equal ≡ true → i ≡ next_literal s.literal → (after : List ℕ) → LayEnds code state1 after (h - 1) s.copy i r.trail s.path
            → Stepped (meaning w.running) state after scratch later h (record { height = h; trail = r.trail })
        equation-end e n after y =
            at_top (λ (h j : ℕ). (w : Steppable nodes code state scratch h (mark_at state j)) → record_kind code (literal_at state j) ≡ equation_kind → UnifyEnds nodes state state1 scratch later (record_place code (literal_at state j)) (copy_at state j) (other_at code (literal_at state j)) (copy_at state j) (mark_at state j) r → LayEnds code state1 after j (copy_at state j) (next_literal (literal_at state j)) r.trail (path_at state j) → Stepped (meaning w.running) state after scratch later h (record { height = h; trail = r.trail }))
            (λ j w x u z. equation-core nodes code state scratch j w x state1 later r u e after z) h w.some w kind ends_is (lay-ends (copy_is is) (n ∙ ap (λ (x : ℕ). next_literal x) (literal_is is)) refl (path-is is) after y)

    -- a call
    module _ (kind : record_kind code (literal_at state (h - 1)) ≡ call_kind) where
      pub call_none : s.next ≡ 0 → Stepped (meaning w.running) state state scratch scratch h (record { height = h - 1; trail = s.mark })
      call_none e =
          subst⁻¹ (λ (x : ℕ). Stepped (meaning w.running) state state scratch scratch h (record { height = h - 1; trail = x })) (mark-is is)
          (at_top (λ (h j : ℕ). (w : Steppable nodes code state scratch h (mark_at state j)) → record_kind code (literal_at state j) ≡ call_kind → next_at state j ≡ 0 → Stepped (meaning w.running) state state scratch scratch h (record { height = j; trail = mark_at state j }))
          (λ j w x z. call-none-top nodes code state scratch j w x z) h w.some w kind (sym (next_is is) ∙ e))

      module _ (z : s.next ≡ 0 → ⊥) where
        some_next : 1 ≤ next_at state (h - 1)
        some_next = let a : s.next ≡ next_at state (h - 1) = next_is is in let b : s.next ≡ 0 → ⊥ = z in omega (arith, b)

        pub call-inside : clause_record s.next + 2 < length code
        call-inside =
            let a : clause_record (next_at state (h - 1)) + 2 < length code =
            at_top (λ (h j : ℕ). Steppable nodes code state scratch h (mark_at state j) → record_kind code (literal_at state j) ≡ call_kind → 1 ≤ next_at state j → clause_record (next_at state j) + 2 < length code)
            (λ j w x y. call-inside-top nodes code state scratch j w x y) h w.some w kind some_next in
            let b : s.next ≡ next_at state (h - 1) = next_is is in
            omega arith

        module _ {after : ℕ} (ae : after ≡ get_or code (clause_record s.next + 2) 0) where
          after_is : after ≡ after_at code (next_at state (h - 1))
          after_is = ae ∙ ap (λ (x : ℕ). get_or code (clause_record x + 2) 0) (next_is is)

          pub call-room : (alternative_of (h - 1) + alternative_size ≤ length state) × (after < 2 ^ 32)
          call-room =
              let a : (alternative_of (h - 1) + alternative_size ≤ length state) × (after_at code (next_at state (h - 1)) < 2 ^ 32) =
              at_top (λ (h j : ℕ). Steppable nodes code state scratch h (mark_at state j) → record_kind code (literal_at state j) ≡ call_kind → 1 ≤ next_at state j → (alternative_of j + alternative_size ≤ length state) × (after_at code (next_at state j) < 2 ^ 32))
              (λ j w x y. call-room-top nodes code state scratch j w x y) h w.some w kind some_next in
              (a.0, subst⁻¹ (λ (x : ℕ). x < 2 ^ 32) after_is a.1)

          module _ {state1 : List ℕ} (words : state1 ≡ next_words state (h - 1) after) where
            words-is : state1 ≡ next_words state (h - 1) (after_at code (next_at state (h - 1)))
            words-is = words ∙ ap (next_words state (h - 1)) after_is

            pub call-tryable : Tryable nodes code state1 scratch h (h - 1) s.next
            call-tryable =
                subst⁻¹ (Tryable nodes code state1 scratch h (h - 1)) (next_is is)
                (at_top (λ (h j : ℕ). Steppable nodes code state scratch h (mark_at state j) → record_kind code (literal_at state j) ≡ call_kind → 1 ≤ next_at state j → state1 ≡ next_words state j (after_at code (next_at state j)) → Tryable nodes code state1 scratch h j (next_at state j))
                (λ j w x y u. call-tryable-top nodes code state scratch j w x y state1 u) h w.some w kind some_next words-is)

            pub call-end : (final later : List ℕ) (r : PileHeight) → ((v : Tryable nodes code state1 scratch h (h - 1) s.next) → ClauseTried v final later r)
                → Stepped (meaning w.running) state final scratch later h r
            call-end final later r k =
                at_top (λ (h j : ℕ). (w : Steppable nodes code state scratch h (mark_at state j)) → record_kind code (literal_at state j) ≡ call_kind → 1 ≤ next_at state j → state1 ≡ next_words state j (after_at code (next_at state j))
                → ((v : Tryable nodes code state1 scratch h j (next_at state j)) → ClauseTried v final later r)
                → Stepped (meaning w.running) state final scratch later h r)
                (λ j w x y u v. call-end-top nodes code state scratch j w x y state1 u final later r v) h w.some w kind some_next words-is
                (subst (λ (x : ℕ). (v : Tryable nodes code state1 scratch h (h - 1) x) → ClauseTried v final later r) (next_is is) k)

-- ---- trying a clause

try-facts-top : (nodes code state scratch : List ℕ) (j k : ℕ) → Tryable nodes code state scratch (suc j) j k
    → (alternative_of j + alternative_size ≤ length state) × ((literal_at state j + literal_size ≤ length code) × ((length code ≤ places) × ((bodies ≤ length code) × ((k ≤ program_clauses) × ((path_at state j < longest_path) × (suc j ≤ most_alternatives))))))
try-facts-top nodes code state scratch j k w =
    let a : suc j < most_alternatives = w.room in
    let d : state_words ≤ length state = w.piled.long in
    let b : k ≤ length w.sh.clauses = clause-low w.sh k w.clause w.there in
    let c : length w.sh.clauses ≤ program_clauses = w.piled.program.few in (
      omega arith,
      (top-inside w.ss w.sh w.g nodes code state j (mark_at state j) w.piled, (w.piled.program.short, (w.piled.program.long, (omega arith, (w.low, omega arith))))),
    )

module _ {nodes code state scratch : List ℕ} {h k : ℕ} (w : Tryable nodes code state scratch h (h - 1) k) where
  filled : 1 ≤ h
  filled = let e : h ≡ suc (h - 1) = w.filled in omega arith

  try-all : (alternative_of (h - 1) + alternative_size ≤ length state) × ((literal_at state (h - 1) + literal_size ≤ length code) × ((length code ≤ places) × ((bodies ≤ length code) × ((k ≤ program_clauses) × ((path_at state (h - 1) < longest_path) × (h ≤ most_alternatives))))))
  try-all =
      at_top (λ (h j : ℕ). Tryable nodes code state scratch h j k → (alternative_of j + alternative_size ≤ length state) × ((literal_at state j + literal_size ≤ length code) × ((length code ≤ places) × ((bodies ≤ length code) × ((k ≤ program_clauses) × ((path_at state j < longest_path) × (h ≤ most_alternatives)))))))
      (λ j w. try-facts-top nodes code state scratch j k w) h filled w

  pub try-room : alternative_of (h - 1) + alternative_size ≤ length state
  try-room = try-all.0

  module _ {s : Top} (is : s ≡ top_at state (h - 1)) where
    t-new : s.path + 1 ≡ path_at state (h - 1) + 1
    t-new = ap (λ (x : ℕ). x + 1) (path-is is)

    pub try-closed : Closed (s.path + 1) state
    try-closed = subst⁻¹ (λ (x : ℕ). Closed x state) t-new (at_top (λ (h j : ℕ). Tryable nodes code state scratch h j k → Closed (path_at state j + 1) state) (λ j w. try-closed-top nodes code state scratch j k w) h filled w)

    pub try-facts : (s.literal + literal_size ≤ length code) × ((length code ≤ places) × ((bodies ≤ length code) × ((k ≤ program_clauses) × ((s.path < longest_path) × (h ≤ most_alternatives)))))
    try-facts =
        let a : s.literal ≡ literal_at state (h - 1) = literal_is is in
        let b : s.path ≡ path_at state (h - 1) = path-is is in
        let c : literal_at state (h - 1) + literal_size ≤ length code = try-all.1.0 in
        let d : path_at state (h - 1) < longest_path = try-all.1.1.1.1.1.0 in
        (omega arith, (try-all.1.1.0, (try-all.1.1.1.0, (try-all.1.1.1.1.0, (omega arith, try-all.1.1.1.1.1.1)))))

    module _ {p q : ℕ} (pe : p ≡ get_or code (s.literal + 1) 0) (qe : q ≡ get_or code (clause_record k) 0) where
      t-place : p ≡ record_place code (literal_at state (h - 1))
      t-place = pe ∙ ap (λ (x : ℕ). get_or code (x + 1) 0) (literal_is is)

      pub try-unifiable : Unifiable nodes state scratch (record { node = p; copy = s.copy }) (record { node = q; copy = s.path + 1 }) s.mark
      try-unifiable =
          unifiable-of t-place (copy_is is) qe t-new (mark-is is)
          (at_top (λ (h j : ℕ). Tryable nodes code state scratch h j k → Unifiable nodes state scratch (record { node = record_place code (literal_at state j); copy = copy_at state j }) (record { node = head_at code k; copy = path_at state j + 1 }) (mark_at state j))
          (λ j w. try-unifiable-top nodes code state scratch j k w) h filled w)

      module _ {state1 later : List ℕ} {r : UnifyAnswer} (u : UnifyEnds nodes state state1 scratch later p s.copy q (s.path + 1) s.mark r) where
        t-ends : UnifyEnds nodes state state1 scratch later (record_place code (literal_at state (h - 1))) (copy_at state (h - 1)) (head_at code k) (path_at state (h - 1) + 1) (mark_at state (h - 1)) r
        t-ends = unify-ends t-place (copy_is is) qe t-new (mark-is is) state1 later r u

        pub try-fails : r.equal ≡ false → ClauseTried w state1 later (record { height = h; trail = r.trail })
        try-fails e =
            at_top (λ (h j : ℕ). (w : Tryable nodes code state scratch h j k) → UnifyEnds nodes state state1 scratch later (record_place code (literal_at state j)) (copy_at state j) (head_at code k) (path_at state j + 1) (mark_at state j) r
            → ClauseTried w state1 later (record { height = h; trail = r.trail }))
            (λ j w u. try-fails-top nodes code state scratch j k w state1 later r u e) h filled w t-ends

        pub try-frame : (frame_of (s.path + 1) + frame_size ≤ length state1) × ((k < 2 ^ 32) × ((s.copy < 2 ^ 32) × (s.literal < 2 ^ 32)))
        try-frame =
            let a : (frame_of (path_at state (h - 1) + 1) + frame_size ≤ length state1) × ((k < 2 ^ 32) × ((copy_at state (h - 1) < 2 ^ 32) × (literal_at state (h - 1) < 2 ^ 32))) =
            at_top (λ (h j : ℕ). Tryable nodes code state scratch h j k → UnifyEnds nodes state state1 scratch later (record_place code (literal_at state j)) (copy_at state j) (head_at code k) (path_at state j + 1) (mark_at state j) r
            → (frame_of (path_at state j + 1) + frame_size ≤ length state1) × ((k < 2 ^ 32) × ((copy_at state j < 2 ^ 32) × (literal_at state j < 2 ^ 32))))
            (λ j w u. try-frame-top nodes code state scratch j k w state1 later r u) h filled w t-ends in
            (subst⁻¹ (λ (x : ℕ). frame_of (x + 1) + frame_size ≤ length state1) (path-is is) a.0, (a.1.0, (subst⁻¹ (λ (x : ℕ). x < 2 ^ 32) (copy_is is) a.1.1.0, subst⁻¹ (λ (x : ℕ). x < 2 ^ 32) (literal_is is) a.1.1.1)))

        module _ {state2 : List ℕ} (words : state2 ≡ frame_words state1 (s.path + 1) k s.copy s.literal) {body : ℕ} (be : body ≡ get_or code (clause_record k + 1) 0) where
          t-words : state2 ≡ frame_words state1 (path_at state (h - 1) + 1) k (copy_at state (h - 1)) (literal_at state (h - 1))
          t-words = words ∙ (λ i. frame_words state1 (path-is is i + 1) k (copy_is is i) (literal_is is i))

          pub try-layable : Layable code state2 h (s.path + 1) body r.trail (s.path + 1)
          try-layable =
              layable-of t-new be refl t-new
              (at_top (λ (h j : ℕ). Tryable nodes code state scratch h j k → UnifyEnds nodes state state1 scratch later (record_place code (literal_at state j)) (copy_at state j) (head_at code k) (path_at state j + 1) (mark_at state j) r
              → state2 ≡ frame_words state1 (path_at state j + 1) k (copy_at state j) (literal_at state j) → Layable code state2 h (path_at state j + 1) (body_at code k) r.trail (path_at state j + 1))
              (λ j w u x. try-layable-top nodes code state scratch j k w state1 later r u state2 x) h filled w t-ends t-words)

          pub try-end : r.equal ≡ true → (after : List ℕ) → LayEnds code state2 after h (s.path + 1) body r.trail (s.path + 1)
              → ClauseTried w after later (record { height = h + 1; trail = r.trail })
          try-end e after y =
              at_top (λ (h j : ℕ). (w : Tryable nodes code state scratch h j k) → UnifyEnds nodes state state1 scratch later (record_place code (literal_at state j)) (copy_at state j) (head_at code k) (path_at state j + 1) (mark_at state j) r
              → state2 ≡ frame_words state1 (path_at state j + 1) k (copy_at state j) (literal_at state j) → LayEnds code state2 after h (path_at state j + 1) (body_at code k) r.trail (path_at state j + 1)
              → ClauseTried w after later (record { height = h + 1; trail = r.trail }))
              (λ j w u x z. try-core nodes code state scratch j k w state1 later r u state2 x e after z) h filled w t-ends t-words (lay-ends t-new be refl t-new after y)
