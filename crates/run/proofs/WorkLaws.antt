-- What comes of the top at `true`, at `fail`, at an equation and at the goal's end. Assumes nothing.
use Prim.Native.Nat.{ℕ, zero, suc, ◌+◌, ◌*◌, ◌≤◌, ◌<◌}
use native.Mathlib.Omega.{arith}
use mathlib.Core.Path.{◌≡◌, refl, sym, ap, ◌∙◌, subst, subst⁻¹}
use mathlib.Core.Bool.{Bool, true, false}
use mathlib.Core.List.{List, ◌∷◌}
use lib.Dec.{eqb}
use lib.ListN.{length}
use borrow.Author.Tests.{eqb-true, eqb-false}
use Rattle.syntax.specs.Words.{literal_length, truth_kind, falsity_kind, call_kind, equation_kind}
use Rattle.syntax.specs.Limits.{longest_path, literals}
use Rattle.syntax.specs.Terms.{Term, equation, truth, falsity, Body, also, Sheet, Goal}
use Rattle.machine.specs.Substitution.{copied}
use Rattle.machine.specs.Unification.{unify}
use Rattle.machine.specs.Machine.{new_alternative, step}
use Rattle.machine.specs.Low.{Low}
use Rattle.machine_theorems.proofs.Low.{low_step}
use Rattle.run_layout.specs.Regions.{state_words, alternative_of, body_end_kind, split_kind, next_literal, alternative_size, most_alternatives}
use Rattle.run_layout.specs.Nodes.{Symbol, TermLoaded}
use Rattle.run_layout.specs.State.{bindings}
use Rattle.run_layout.specs.Program.{record_kind, record_place, other_at}
use Rattle.run_layout.specs.Pile.{rest_from, left_from, calls_up_to, copy_at, literal_at, mark_at, path_at, pile_of, RecordOf, Stacked, Piled}
use Rattle.run_layout.proofs.State.{keeps-refl}
use Rattle.run_layout.specs.Rooms.{Clean}
use Rattle.unify.specs.Turns.{answered, Unifiable, UnifyGives}
use Rattle.unify.specs.declared.solve.UnifyAnswer.{UnifyAnswer}
use Rattle.run.specs.Moves.{Layable, AlternativeLaid}
use Rattle.run.specs.Steps.{meaning, Steppable, Stepped}
use Rattle.run.proofs.WordLaws.{add-one}
use Rattle.run.proofs.LayLaws.{LayEnds}
use Rattle.run.proofs.TopLaws.{trail_low, lays-fresh, lays-written, top-stacked, top-stands, top-low, top-room, pile-tail, kept, gone-climbing, going}
use Rattle.run_layout.proofs.Step.{step-answer, step-falsity, step-split, step-unequal, Going, truth-step, equal-step, Laying, either_step}
use Rattle.run_layout.proofs.Pile.{Parting, place-next, place-split, kind-small, kind-done, kind-truth, kind-falsity, kind-equation, calls_count, pile-count, SameFrames, same_place, same-frame, Means, popped}

kind-one : (k : ℕ) → k ≤ split_kind → (k ≡ call_kind → ⊥) → (k ≡ equation_kind → ⊥) → (k ≡ truth_kind → ⊥) → (k ≡ split_kind → ⊥) → (k ≡ body_end_kind → ⊥) → k ≡ falsity_kind
kind-one zero l a b c f d = absurd (c refl)
kind-one (suc zero) l a b c f d = refl
kind-one (suc (suc zero)) l a b c f d = absurd (a refl)
kind-one (suc (suc (suc zero))) l a b c f d = absurd (b refl)
kind-one (suc (suc (suc (suc zero)))) l a b c f d = absurd (d refl)
kind-one (suc (suc (suc (suc (suc zero))))) l a b c f d = absurd (f refl)
kind-one (suc (suc (suc (suc (suc (suc k)))))) l a b c f d = absurd (let z : suc (suc (suc (suc (suc (suc k))))) ≤ 5 = l in omega arith)

one_truth : literal_length truth ≡ 1
unfolding literal_length
one_truth = refl

one-equation : (t u : Term) → literal_length (equation t u) ≡ 1
unfolding literal_length
one-equation t u = refl

-- ---- the top is alternative j of suc j

module _ (nodes code state scratch : List ℕ) (j : ℕ) (w : Steppable nodes code state scratch (suc j) (mark_at state j)) where
  abbrev ss : List Symbol
  ss = w.running.ss

  abbrev sh : Sheet
  sh = w.running.sh

  abbrev g : Goal
  g = w.running.g

  abbrev rest : Body
  rest = rest_from w.running.sh w.running.g code state (copy_at state j) (literal_at state j)

  pub piled-top : Piled w.running.ss w.running.sh w.running.g nodes code state (suc j) (mark_at state j)
  piled-top = w.running.piled

  stacked-top : Stacked w.running.sh w.running.g code state (mark_at state j) j
  stacked-top = top-stacked w.running.ss w.running.sh w.running.g nodes code state j (mark_at state j) piled-top

  room-top : j < most_alternatives
  room-top = top-low w.running.ss w.running.sh w.running.g nodes code state j (mark_at state j) piled-top w.running.low

  words-room : alternative_of j + alternative_size ≤ length state
  words-room = top-room w.running.ss w.running.sh w.running.g nodes code state j (mark_at state j) piled-top w.running.low

  -- the alternative goes; some words may have changed
  pub pops : (after later : List ℕ) (n : ℕ) → Means ss sh g nodes code after (suc j) n (pile_of ss sh g nodes code state (suc j)) → length after ≡ length state → Clean later → length later ≡ length scratch
      → step sh (pile_of ss sh g nodes code state (suc j)) ≡ pile_of ss sh g nodes code state j → pile_of ss sh g nodes code after j ≡ pile_of ss sh g nodes code state j
      → Stepped (meaning w.running) state after scratch later (suc j) (record { height = j; trail = n })
  pops after later n m e k l s q =
      record { is = q ∙ sym s; piled = popped ss sh g nodes code after j n m.piled; state_long = e; clean = k; scratch_long = l }

  -- with no word changed
  pub pops-here : step sh (pile_of ss sh g nodes code state (suc j)) ≡ pile_of ss sh g nodes code state j
      → Stepped (meaning w.running) state state scratch scratch (suc j) (record { height = j; trail = mark_at state j })
  pops-here s = pops state scratch (mark_at state j) (record { piled = piled-top; is = refl }) refl w.clean refl s refl

  -- at `fail`, and at the goal's end
  pub pops-other : (record_kind code (literal_at state j) ≡ call_kind → ⊥) → (record_kind code (literal_at state j) ≡ equation_kind → ⊥) → (record_kind code (literal_at state j) ≡ truth_kind → ⊥)
      → (record_kind code (literal_at state j) ≡ split_kind → ⊥) → Stepped (meaning w.running) state state scratch scratch (suc j) (record { height = j; trail = mark_at state j })
  pops-other a b c f = pops-here (go (eqb (record_kind code (literal_at state j)) body_end_kind) refl)
    where
      go : (t : Bool) → eqb (record_kind code (literal_at state j)) body_end_kind ≡ t → step sh (pile_of ss sh g nodes code state (suc j)) ≡ pile_of ss sh g nodes code state j
      go true e =
          step-answer ss sh g nodes code state j stacked-top.ends
          (kind-done ss sh nodes code (literal_at state j) rest (top-stands ss sh g nodes code state j (mark_at state j) piled-top) (eqb-true (record_kind code (literal_at state j)) body_end_kind e))
      go false e =
          let z : record_kind code (literal_at state j) ≡ body_end_kind → ⊥ = eqb-false (record_kind code (literal_at state j)) body_end_kind e in
          let q : record_kind code (literal_at state j) ≤ split_kind = kind-small ss sh nodes code (literal_at state j) rest (top-stands ss sh g nodes code state j (mark_at state j) piled-top) in
          let k : (r : Body) × (rest ≡ also falsity r) = kind-falsity ss sh nodes code (literal_at state j) rest (top-stands ss sh g nodes code state j (mark_at state j) piled-top) (kind-one (record_kind code (literal_at state j)) q a b c f z) in
          step-falsity ss sh g nodes code state j piled-top.program stacked-top k.0 k.1

  -- at `true`
  module _ (kind : record_kind code (literal_at state j) ≡ truth_kind) where
    truth-first : (r : Body) × (rest ≡ also truth r)
    truth-first = kind-truth ss sh nodes code (literal_at state j) rest (top-stands ss sh g nodes code state j (mark_at state j) piled-top) kind

    truth-place : RecordOf sh g code state (copy_at state j) (next_literal (literal_at state j))
    truth-place = place-next piled-top.program stacked-top.place stacked-top.stays one_truth truth-first.1

    pub truth-layable-top : Layable code state j (copy_at state j) (next_literal (literal_at state j)) (mark_at state j) (path_at state j)
    truth-layable-top =
        record {
          ss = ss;
          sh = sh;
          g = g;
          nodes = nodes;
          climbing = gone-climbing ss sh g nodes code state j (mark_at state j) piled-top refl state (mark_at state j) (keeps-refl (mark_at state j) state) piled-top.store (omega arith) stacked-top.within (next_literal (literal_at state j)) truth-place;
          room = room-top;
          small = trail_low ss nodes state (mark_at state j) piled-top.store;
        }

    pub truth-core : (after : List ℕ) → LayEnds code state after j (copy_at state j) (next_literal (literal_at state j)) (mark_at state j) (path_at state j)
        → Stepped (meaning w.running) state after scratch scratch (suc j) (record { height = suc j; trail = mark_at state j })
    unfolding truth-layable-top
    truth-core after f =
        let k : AlternativeLaid truth-layable-top.climbing after j (mark_at state j) = f truth-layable-top in
        let m : Means ss sh g nodes code after (suc j) (mark_at state j) (step sh (pile_of ss sh g nodes code state (suc j))) =
        truth-step ss sh g nodes code state after j (mark_at state j) (path_at state j) k.spot.copy k.spot.literal k.next truth-first.0
        (going ss sh g nodes code state j (mark_at state j) piled-top refl state (mark_at state j) (keeps-refl (mark_at state j) state) piled-top.store (omega arith) stacked-top.within (next_literal (literal_at state j)) truth-place room-top k) truth-first.1 in
        record { is = m.is; piled = m.piled; state_long = (lays-written k words-room).long; clean = w.clean; scratch_long = refl }

  -- at an equation
  module _ (kind : record_kind code (literal_at state j) ≡ equation_kind) where
    sides : (t : Term) × (u : Term) × (r : Body) × (rest ≡ also (equation t u) r) × TermLoaded ss nodes (record_place code (literal_at state j)) t × TermLoaded ss nodes (other_at code (literal_at state j)) u
    sides = kind-equation ss sh nodes code (literal_at state j) rest (top-stands ss sh g nodes code state j (mark_at state j) piled-top) kind

    sides-place : RecordOf sh g code state (copy_at state j) (next_literal (literal_at state j))
    sides-place = place-next piled-top.program stacked-top.place stacked-top.stays (one-equation sides.0 sides.1) sides.3

    abbrev sides-unifiable : Unifiable nodes state scratch (record { node = record_place code (literal_at state j); copy = copy_at state j }) (record { node = other_at code (literal_at state j); copy = copy_at state j }) (mark_at state j)
    sides-unifiable =
        let p : path_at state j ≤ longest_path = stacked-top.low in
        let c : copy_at state j ≤ path_at state j = stacked-top.copy in
        record {
          ss = ss;
          top = path_at state j;
          store = piled-top.store;
          within = stacked-top.within;
          roomy = w.roomy;
          clean = w.clean;
          left = (sides.0, sides.4);
          right = (sides.1, sides.5);
          copy = omega arith;
          copy_right = omega arith;
          below = c;
          below_right = c;
        }

    pub equation-unifiable-top : Unifiable nodes state scratch (record { node = record_place code (literal_at state j); copy = copy_at state j }) (record { node = other_at code (literal_at state j); copy = copy_at state j }) (mark_at state j)
    equation-unifiable-top = sides-unifiable

    module _ (state1 later : List ℕ) (r : UnifyAnswer)
        (u : (v : Unifiable nodes state scratch (record { node = record_place code (literal_at state j); copy = copy_at state j }) (record { node = other_at code (literal_at state j); copy = copy_at state j }) (mark_at state j)) → UnifyGives v state1 later r) where
      unifies : UnifyGives sides-unifiable state1 later r
      unifies = u sides-unifiable

      equation-answer : (b : Bool) → r.equal ≡ b → unify (bindings ss nodes state (mark_at state j)) (copied (copy_at state j) sides.0) (copied (copy_at state j) sides.1) ≡ answered b (bindings ss nodes state1 r.trail)
      equation-answer b e = unifies.answer sides.0 sides.1 sides.4 sides.5 ∙ ap (λ (y : Bool). answered y (bindings ss nodes state1 r.trail)) e

      pub equation-fails-top : r.equal ≡ false → Stepped (meaning w.running) state state1 scratch later (suc j) (record { height = j; trail = r.trail })
      unfolding answered
      equation-fails-top e =
          let m : Means ss sh g nodes code state1 (suc j) r.trail (pile_of ss sh g nodes code state (suc j)) = kept ss sh g nodes code state j (mark_at state j) piled-top refl state1 r.trail unifies.keeps unifies.store unifies.grows in
          pops state1 later r.trail m unifies.keeps.long unifies.clean unifies.long
          (step-unequal ss sh g nodes code state j piled-top.program stacked-top sides.2 sides.0 sides.1 sides.3 (equation-answer false e))
          (pile-tail ss sh g nodes code state1 state j m.is)

      pub equation-layable-top : r.equal ≡ true → Layable code state1 j (copy_at state j) (next_literal (literal_at state j)) r.trail (path_at state j)
      equation-layable-top e =
          record {
            ss = ss;
            sh = sh;
            g = g;
            nodes = nodes;
            climbing = gone-climbing ss sh g nodes code state j (mark_at state j) piled-top refl state1 r.trail unifies.keeps unifies.store unifies.grows unifies.within (next_literal (literal_at state j)) sides-place;
            room = room-top;
            small = trail_low ss nodes state1 r.trail unifies.store;
          }

      pub equation-core : r.equal ≡ true → (after : List ℕ) → LayEnds code state1 after j (copy_at state j) (next_literal (literal_at state j)) r.trail (path_at state j)
          → Stepped (meaning w.running) state after scratch later (suc j) (record { height = suc j; trail = r.trail })
      unfolding equation-layable-top answered
      equation-core e after f =
          let k : AlternativeLaid (equation-layable-top e).climbing after j r.trail = f (equation-layable-top e) in
          let m : Means ss sh g nodes code after (suc j) r.trail (step sh (pile_of ss sh g nodes code state (suc j))) =
          equal-step ss sh g nodes code state state1 after j (mark_at state j) r.trail (path_at state j) k.spot.copy k.spot.literal k.next sides.2 sides.0 sides.1
          (going ss sh g nodes code state j (mark_at state j) piled-top refl state1 r.trail unifies.keeps unifies.store unifies.grows unifies.within (next_literal (literal_at state j)) sides-place room-top k) sides.3 (equation-answer true e) in
          let a : length state1 ≡ length state = unifies.keeps.long in
          let b : alternative_of j + alternative_size ≤ length state = words-room in
          record { is = m.is; piled = m.piled; state_long = (lays-written k (omega arith)).long ∙ a; clean = unifies.clean; scratch_long = unifies.long }

  -- at a bracket
  module _ (kind : record_kind code (literal_at state j) ≡ split_kind) where
    parts : (y : Body) × (z : Body) × (r : Body) × Parting sh g code state (copy_at state j) (literal_at state j) y z r
    parts = place-split piled-top.program stacked-top.place kind

    -- there is room for one more
    split_step : step sh (pile_of ss sh g nodes code state (suc j))
        ≡ new_alternative sh (left_from sh g code state (path_at state j) (copy_at state j) (next_literal (literal_at state j))) (bindings ss nodes state (mark_at state j)) (calls_up_to sh g code state (path_at state j))
        ∷ new_alternative sh (left_from sh g code state (path_at state j) (copy_at state j) (other_at code (literal_at state j))) (bindings ss nodes state (mark_at state j)) (calls_up_to sh g code state (path_at state j))
        ∷ pile_of ss sh g nodes code state j
    split_step = step-split ss sh g nodes code state j piled-top.program stacked-top parts.2 parts.0 parts.1 parts.3

    split-low : suc j < most_alternatives
    split-low =
        let low : Low (step sh (pile_of ss sh g nodes code state (suc j))) = low_step sh piled-top.program.bodies_short (pile_of ss sh g nodes code state (suc j)) w.running.low in
        let a : suc (suc (length (pile_of ss sh g nodes code state j))) ≤ literals * suc (length (calls_up_to sh g code state (path_at state j))) = (subst Low split_step low).0.height in
        let b : length (pile_of ss sh g nodes code state j) ≡ j = pile-count ss sh g nodes code state j in
        let c : length (calls_up_to sh g code state (path_at state j)) ≡ path_at state j = calls_count sh g code state (path_at state j) in
        let d : path_at state j ≤ longest_path = stacked-top.low in
        omega arith

    -- the right side, in the top's place
    pub right-layable-top : Layable code state j (copy_at state j) (other_at code (literal_at state j)) (mark_at state j) (path_at state j)
    right-layable-top =
        record {
          ss = ss;
          sh = sh;
          g = g;
          nodes = nodes;
          climbing = gone-climbing ss sh g nodes code state j (mark_at state j) piled-top refl state (mark_at state j) (keeps-refl (mark_at state j) state) piled-top.store (omega arith) stacked-top.within (other_at code (literal_at state j)) parts.3.right;
          room = room-top;
          small = trail_low ss nodes state (mark_at state j) piled-top.store;
        }

    module _ (state1 : List ℕ) (k : LayEnds code state state1 j (copy_at state j) (other_at code (literal_at state j)) (mark_at state j) (path_at state j)) where
      right : AlternativeLaid right-layable-top.climbing state1 j (mark_at state j)
      right = k right-layable-top

      right-going : Going ss sh g nodes code state state state1 j (mark_at state j) (mark_at state j) (path_at state j) (other_at code (literal_at state j)) right.spot.copy right.spot.literal right.next
      unfolding right-layable-top
      right-going =
          going ss sh g nodes code state j (mark_at state j) piled-top refl state (mark_at state j) (keeps-refl (mark_at state j) state) piled-top.store (omega arith) stacked-top.within (other_at code (literal_at state j)) parts.3.right room-top right

      right-long : length state1 ≡ length state
      right-long = right-going.written.long

      right-frames : SameFrames longest_path state state1
      right-frames i a b = right-going.written.others i (omega arith)

      -- the left side, on top of it
      pub left-layable-top : Layable code state1 (suc j) (copy_at state j) (next_literal (literal_at state j)) (mark_at state j) (path_at state j)
      left-layable-top =
          let p : path_at state j ≤ longest_path = stacked-top.low in
          let c : copy_at state j ≤ path_at state j = stacked-top.copy in
          let a : state_words ≤ length state = piled-top.long in
          let b : length state1 ≡ length state = right-long in
          record {
            ss = ss;
            sh = sh;
            g = g;
            nodes = nodes;
            climbing = record {
              program = piled-top.program;
              long = (let l : state_words ≤ length state1 = omega arith in l);
              low = p;
              frame = λ i l. same-frame sh g code state state1 longest_path right-frames i (omega arith) (stacked-top.frame i l);
              copy = c;
              place = same_place sh g code state state1 longest_path right-frames (copy_at state j) (next_literal (literal_at state j)) (omega arith) parts.3.left;
            };
            room = split-low;
            small = trail_low ss nodes state (mark_at state j) piled-top.store;
          }

      pub either-core : (after : List ℕ) → LayEnds code state1 after (suc j) (copy_at state j) (next_literal (literal_at state j)) (mark_at state j) (path_at state j)
          → Stepped (meaning w.running) state after scratch scratch (suc j) (record { height = suc j + 1; trail = mark_at state j })
      unfolding left-layable-top
      either-core after f =
          let q : AlternativeLaid left-layable-top.climbing after (suc j) (mark_at state j) = f left-layable-top in
          let a : q.spot.copy ≤ copy_at state j = q.climbs.copy in
          let c : copy_at state j ≤ path_at state j = stacked-top.copy in
          let l : state_words ≤ length state = piled-top.long in
          let b : length state1 ≡ length state = right-long in
          let d : suc j < most_alternatives = split-low in
          let left : Laying sh g code state1 after j (mark_at state j) (path_at state j) (copy_at state j) (next_literal (literal_at state j)) q.spot.copy q.spot.literal q.next =
          record { copy = omega arith; left = q.climbs.same; fresh = lays-fresh q; written = lays-written q (omega arith) } in
          let m : Means ss sh g nodes code after (suc (suc j)) (mark_at state j) (step sh (pile_of ss sh g nodes code state (suc j))) = either_step right-going left parts.3 in
          subst⁻¹ (λ (y : ℕ). Stepped (meaning w.running) state after scratch scratch (suc j) (record { height = y; trail = mark_at state j })) (add-one (suc j))
          (record { is = m.is; piled = m.piled; state_long = left.written.long ∙ right-long; clean = w.clean; scratch_long = refl })
