-- A move of a replay: each way out of it. Assumes nothing.
use Prim.Native.Nat.{ℕ, suc, ◌+◌, ◌-◌, ◌≤◌, ◌<◌}
use native.Mathlib.Omega.{arith}
use mathlib.Core.Path.{◌≡◌, refl, sym, ap, ◌∙◌, subst, subst⁻¹}
use mathlib.Core.Bool.{Bool, true, false}
use mathlib.Core.List.{List, [], ◌∷◌}
use mathlib.Core.Logic.{◌⊎◌, inl, inr}
use lib.ListN.{length, get_or}
use borrow.Author.Tests.{eq-eqb}
use Rattle.syntax.specs.Words.{call_kind}
use Rattle.machine.specs.Machine.{Pending, Alternative, path}
use Rattle.machine.specs.Low.{Low}
use Rattle.machine.specs.Runs.{is_empty, is_answer}
use Rattle.run_layout.specs.Regions.{body_end_kind, split_kind, alternative_of, alternative_size}
use Rattle.run_layout.specs.State.{bindings}
use Rattle.run_layout.specs.Pile.{mark_at, alternative_at, pile_of}
use Rattle.run.specs.Words.{top_at}
use Rattle.run.specs.Meanings.{Meaning, pile_in}
use Rattle.run.specs.Steps.{Running, meaning}
use Rattle.run.specs.Telling.{Rewindable, SamePile, Rewound}
use Rattle.run.specs.declared.alternatives.records.Top.{Top}
use Rattle.run.proofs.TopLaws.{at_top}
use Rattle.run.proofs.StepLaws.{run_room, run_inside, answer-end}
use Rattle.derivations.specs.Workings.{Resolvent, solved, settled}
use Rattle.derivations.specs.Resolvents.{resolvent, potential}
use Rattle.workings.specs.Choices.{alternative_in}
use Rattle.workings.specs.Replays.{rest_of, comes_to, Replaying, kind_at, RecordDue, LiteralDue, MoveMade}
use Rattle.workings.specs.declared.replays.Place.{Place}
use Rattle.workings.specs.declared.replays.Move.{Move}
use Rattle.workings.specs.declared.replays.Move.TheVariants.{On, Answer, Stopped}
use Rattle.workings.proofs.RestLaws.{rest-answers, rest-over}
use Rattle.workings.proofs.PileLaws.{same-top}

-- ---- the goal's end

nothing-left : (ls : List Pending) → is_empty ls ≡ true → ls ≡ []
unfolding is_empty
nothing-left [] e = refl
nothing-left (p ∷ ls) e = absurd (let y : ◌≡◌ {A = Bool} false true = e in let z : ◌≡◌ {A = ℕ} 0 1 = cc in omega arith)

bound : (m : Meaning) (state : List ℕ) (j : ℕ) → (alternative_in m state j).bindings ≡ bindings m.ss m.nodes state (mark_at state j)
unfolding alternative_at
bound m state j = refl

none-left : (m : Meaning) (state : List ℕ) (j : ℕ) → is_answer (pile_in m state (suc j)) ≡ true → (alternative_in m state j).literals ≡ []
unfolding is_answer pile_of
none-left m state j e = nothing-left (alternative_in m state j).literals e

at-end : (m : Meaning) (state : List ℕ) (j : ℕ) → is_answer (pile_in m state (suc j)) ≡ true → resolvent (alternative_in m state j) ≡ solved (bindings m.ss m.nodes state (mark_at state j))
unfolding settled
at-end m state j e = ap (settled (path (alternative_in m state j)) (alternative_in m state j).bindings) (none-left m state j e) ∙ ap solved (bound m state j)

-- where the next step would be an answer, the top has no literal left, and its bindings are those up to its mark
answer-resolvent : (m : Meaning) (state : List ℕ) (h : ℕ) → 1 ≤ h → is_answer (pile_in m state h) ≡ true
    → resolvent (alternative_in m state (h - 1)) ≡ solved (bindings m.ss m.nodes state (mark_at state (h - 1)))
answer-resolvent m state h l =
    at_top (λ x k. is_answer (pile_in m state x) ≡ true → resolvent (alternative_in m state k) ≡ solved (bindings m.ss m.nodes state (mark_at state k)))
    (λ j e. at-end m state j e) h l

-- ---- a move

module _ {nodes code : List ℕ} {clauses : ℕ} {workings state scratch : List ℕ} {at : Place} (w : Replaying nodes code clauses workings state scratch at) where
  abbrev m : Meaning
  m = meaning w.top.running

  abbrev h : ℕ
  h = at.pile.height

  pub rewindable : Rewindable state h at.pile.trail
  rewindable = record { meaning = m; piled = w.top.running.piled; low = w.top.running.low; some = w.top.some }

  module _ {mid : List ℕ} {trail : ℕ} (x : Rewound state mid h at.pile.trail trail) where
    abbrev same : SamePile m state mid h trail
    same = x.same m w.top.running.piled

    abbrev there : Place
    there = record { pile = record { height = h; trail = trail }; used = at.used; past = at.past }

    -- the place, with a trail as long as the top's
    pub replaying : Replaying nodes code clauses workings mid scratch there
    replaying =
        record {
          top = record {
            running = record { ss = m.ss; sh = m.sh; g = m.g; piled = same.piled; low = subst⁻¹ Low same.is w.top.running.low };
            some = w.top.some;
            roomy = w.top.roomy;
            clean = w.top.clean;
          };
          count = w.count;
          order = w.order;
          inside = w.inside;
        }

    top-same : alternative_in m mid (h - 1) ≡ alternative_in m state (h - 1)
    top-same = same-top m state mid h w.top.some same.is

    comes-same : comes_to m workings state at ≡ comes_to m workings mid there
    comes-same = ap (λ (a : Alternative). rest_of m.sh workings at.used at.past (resolvent a)) (sym top-same)

    -- what a move from there comes to, it comes to from the place
    pub from-there : (after later : List ℕ) (r : Move) → MoveMade m workings mid scratch there after later r → MoveMade m workings state scratch at after later r
    unfolding MoveMade
    from-there after later (On to) v =
        record {
          order = v.order;
          inside = v.inside;
          some = v.some;
          low = v.low;
          piled = v.piled;
          clean = v.clean;
          scratch_long = v.scratch_long;
          same = comes-same ∙ v.same;
          falls = subst (λ (a : Alternative). potential (alternative_in m after (to.pile.height - 1)) < potential a) top-same v.falls;
        }
    from-there after later (Answer pile) v = record { piled = v.piled; clean = v.clean; is = comes-same ∙ v.is }
    from-there after later (Stopped i) v = comes-same ∙ v

    abbrev running-there : Running nodes code mid h trail
    running-there = record { ss = m.ss; sh = m.sh; g = m.g; piled = same.piled; low = subst⁻¹ Low same.is w.top.running.low }

    filled : h ≡ 0 → ⊥
    filled e = omega (arith, e, w.top.some)

    pub move-room : alternative_of (h - 1) + alternative_size ≤ length mid
    move-room = run_room running-there filled

    module _ {s : Top} (is : s ≡ top_at mid (h - 1)) where
      pub move-inside : s.literal < length code
      move-inside = run_inside running-there filled is

      module _ {v : ℕ} (e : v ≡ get_or code s.literal 0) where
        kind-is : v ≡ kind_at code mid there
        kind-is = e ∙ ap (λ (t : Top). get_or code t.literal 0) is

        -- no literal is left
        module _ (k : v ≡ body_end_kind) where
          solved-here : resolvent (alternative_in m mid (h - 1)) ≡ solved (bindings m.ss m.nodes mid trail)
          solved-here =
              answer-resolvent m mid h w.top.some (sym (answer-end running-there filled is e) ∙ eq-eqb v body_end_kind k)
              ∙ ap (λ (n : ℕ). solved (bindings m.ss m.nodes mid n)) x.mark

          comes-here : comes_to m workings state at ≡ rest_of m.sh workings at.used at.past (solved (bindings m.ss m.nodes mid trail))
          comes-here = comes-same ∙ ap (λ (r : Resolvent). rest_of m.sh workings at.used at.past r) solved-here

          pub left-over : at.past < length workings → (later : List ℕ) → MoveMade m workings state scratch at mid later (Stopped at.past)
          unfolding MoveMade
          left-over l later = comes-here ∙ rest-over m.sh workings at.used at.past w.order (bindings m.ss m.nodes mid trail) l

          pub ends : length workings ≤ at.past → MoveMade m workings state scratch at mid scratch (Answer (record { height = h; trail = trail }))
          unfolding MoveMade
          ends l =
              record {
                piled = same.piled;
                clean = w.top.clean;
                is = comes-here ∙ rest-answers m.sh workings at.used at.past w.order (bindings m.ss m.nodes mid trail) l;
              }

        pub record-due : (v ≡ call_kind) ⊎ (v ≡ split_kind) → RecordDue nodes code clauses workings mid scratch there
        record-due o = record { replaying = replaying; mark = x.mark; due = go o }
          where
            go : (v ≡ call_kind) ⊎ (v ≡ split_kind) → (kind_at code mid there ≡ call_kind) ⊎ (kind_at code mid there ≡ split_kind)
            go (inl k) = inl (sym kind-is ∙ k)
            go (inr k) = inr (sym kind-is ∙ k)

        pub literal-due : (v ≡ body_end_kind → ⊥) → (v ≡ call_kind → ⊥) → (v ≡ split_kind → ⊥) → LiteralDue nodes code clauses workings mid scratch there
        literal-due a b c =
            record { replaying = replaying; no_call = λ k. b (kind-is ∙ k); no_split = λ k. c (kind-is ∙ k); no_end = λ k. a (kind-is ∙ k) }

        pub by-record : (o : (v ≡ call_kind) ⊎ (v ≡ split_kind)) (after later : List ℕ) (r : Move)
            → ((y : RecordDue nodes code clauses workings mid scratch there) → MoveMade (meaning y.replaying.top.running) workings mid scratch there after later r)
            → MoveMade m workings state scratch at after later r
        unfolding record-due replaying
        by-record o after later r f = from-there after later r (f (record-due o))

        pub by-literal : (a : v ≡ body_end_kind → ⊥) (b : v ≡ call_kind → ⊥) (c : v ≡ split_kind → ⊥) (after later : List ℕ) (r : Move)
            → ((y : LiteralDue nodes code clauses workings mid scratch there) → MoveMade (meaning y.replaying.top.running) workings mid scratch there after later r)
            → MoveMade m workings state scratch at after later r
        unfolding literal-due replaying
        by-literal a b c after later r f = from-there after later r (f (literal-due a b c))
