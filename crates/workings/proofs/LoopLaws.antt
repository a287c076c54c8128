-- The replay's loop: what holds from move to move, and each way on or out of it. Assumes nothing.
use Prim.Native.Nat.{ℕ, suc, ◌-◌, ◌*◌, ◌≤◌}
use native.Mathlib.Omega.{arith}
use mathlib.Core.Path.{◌≡◌, refl, sym, ap, ◌∙◌, subst, subst⁻¹}
use mathlib.Core.List.{List, []}
use Rattle.std.specs.Prelude.{Ok, Err}
use lib.ListN.{length}
use Rattle.syntax.specs.Limits.{longest_path, literals}
use Rattle.machine.specs.Machine.{Alternative, pending, new_alternative, start}
use Rattle.machine.specs.Low.{Low}
use Rattle.machine_theorems.proofs.Low.{low-start}
use Rattle.run_layout.specs.Rooms.{Clean}
use Rattle.bindings.specs.Scratch.{Roomy}
use Rattle.run.specs.Meanings.{Meaning, pile_in, PiledIn}
use Rattle.run.specs.Steps.{meaning, Startable, Started}
use Rattle.run.specs.declared.alternatives.PileHeight.{PileHeight}
use Rattle.derivations.specs.Workings.{Resolvent, Replayed, records_of, replay, begun}
use Rattle.derivations.specs.Resolvents.{resolvent, potential}
use Rattle.derivations.proofs.StepLaws.{begun-potential}
use Rattle.workings.specs.Choices.{alternative_in}
use Rattle.workings.specs.Replays.{rest_of, comes_to, Replaying, MovedOn, AnswerStands, MoveMade, ReplayStartable, start_meaning, ReplayEnded}
use Rattle.workings.specs.declared.replays.Place.{Place}
use Rattle.workings.specs.declared.replays.Move.{Move}
use Rattle.workings.specs.declared.replays.Move.TheVariants.{On, Answer, Stopped}
use Rattle.workings.proofs.RestLaws.{rest-begins}
use Rattle.workings.proofs.PileLaws.{OnTop, on-top}

-- What holds from move to move: the replay comes to what it is to come to, and there are as many moves left as literals can still be met.
pub record Ongoing (m : Meaning) (clauses : ℕ) (workings state scratch : List ℕ) (total : Replayed) (left : ℕ) (at : Place) : Type 0 where
  pub some : 1 ≤ at.pile.height
  pub low : Low (pile_in m state at.pile.height)
  pub piled : PiledIn m state at.pile.height at.pile.trail
  pub roomy : Roomy scratch
  pub clean : Clean scratch
  pub count : clauses ≡ length m.sh.clauses
  pub order : at.used ≤ at.past
  pub inside : at.past ≤ length workings
  pub is : total ≡ comes_to m workings state at
  pub enough : potential (alternative_in m state (at.pile.height - 1)) ≤ left

pub record Going (nodes code : List ℕ) (clauses : ℕ) (workings first first-scratch state scratch : List ℕ) (left : ℕ) (at : Place) : Type 0 where
  pub state_long : length state ≡ length first
  pub scratch_long : length scratch ≡ length first-scratch
  pub on : (w : ReplayStartable nodes code clauses first first-scratch)
      → Ongoing (start_meaning w) clauses workings state scratch (replay w.start.sh (records_of workings) (begun w.start.g)) left at

-- the goal alone on the pile, and no record gone through
abbrev pub first_place : Place
first_place = record { pile = record { height = 1; trail = 0 }; used = 0; past = 0 }

module _ {nodes code : List ℕ} {clauses : ℕ} {state scratch : List ℕ} (w : ReplayStartable nodes code clauses state scratch) where
  pub startable : (ns : List ℕ) × Startable ns code state
  startable = (nodes, w.start)

  module _ (workings : List ℕ) {after : List ℕ} (k : (ns : List ℕ) (v : Startable ns code state) → Started v after) where
    abbrev goal-alone : Alternative
    goal-alone = new_alternative w.start.sh (pending 0 w.start.g.body []) [] []

    s : Started w.start after
    s = k nodes w.start

    t : OnTop (start_meaning w) after 1 goal-alone
    unfolding start
    t = on-top (start_meaning w) after goal-alone [] 1 s.is

    begins-with : resolvent goal-alone ≡ begun w.start.g
    unfolding begun
    begins-with = refl

    pub starts : Ongoing (start_meaning w) clauses workings after scratch (replay w.start.sh (records_of workings) (begun w.start.g)) (literals * suc longest_path) first_place
    starts =
        record {
          some = omega arith;
          low = subst⁻¹ Low s.is (low-start w.start.sh w.start.g w.start.program.goal_short);
          piled = s.piled;
          roomy = w.roomy;
          clean = w.clean;
          count = w.count;
          order = omega arith;
          inside = omega arith;
          is = rest-begins w.start.sh workings (begun w.start.g)
              ∙ ap (λ (r : Resolvent). rest_of w.start.sh workings 0 0 r) (sym (ap resolvent t.is ∙ begins-with));
          enough = subst⁻¹ (λ (a : Alternative). potential a ≤ literals * suc longest_path) t.is (begun-potential w.start.sh w.start.g w.start.program.goal_short);
        }

module _ {nodes code : List ℕ} {clauses : ℕ} {workings first first-scratch state scratch : List ℕ} {left : ℕ} {at : Place}
    (g : Going nodes code clauses workings first first-scratch state scratch left at) (w : ReplayStartable nodes code clauses first first-scratch) where
  abbrev m : Meaning
  m = start_meaning w

  abbrev o : Ongoing m clauses workings state scratch (replay w.start.sh (records_of workings) (begun w.start.g)) left at
  o = g.on w

  pub goes : Replaying nodes code clauses workings state scratch at
  goes =
      record {
        top = record { running = record { ss = m.ss; sh = m.sh; g = m.g; piled = o.piled; low = o.low }; some = o.some; roomy = o.roomy; clean = o.clean };
        count = o.count;
        order = o.order;
        inside = o.inside;
      }

  module _ (after later : List ℕ) (r : Move)
      (k : (v : Replaying nodes code clauses workings state scratch at) → MoveMade (meaning v.top.running) workings state scratch at after later r) where
    came : (x : Move) → r ≡ x → MoveMade m workings state scratch at after later x
    unfolding goes
    came x q = subst (MoveMade m workings state scratch at after later) q (k goes)

    pub stops : (i : ℕ) → r ≡ Stopped i → ReplayEnded m after later (replay w.start.sh (records_of workings) (begun w.start.g)) (Err i)
    unfolding MoveMade ReplayEnded
    stops i q = o.is ∙ came (Stopped i) q

    pub answers : (pile : PileHeight) → r ≡ Answer pile → ReplayEnded m after later (replay w.start.sh (records_of workings) (begun w.start.g)) (Ok pile)
    unfolding MoveMade ReplayEnded
    answers pile q = let a : AnswerStands m after later (comes_to m workings state at) pile = came (Answer pile) q in record { piled = a.piled; clean = a.clean; is = o.is ∙ a.is }

    module _ (to : Place) (q : r ≡ On to) where
      moved : MovedOn m workings state scratch at after later to
      unfolding MoveMade
      moved = came (On to) q

      pub some-left : 1 ≤ left
      some-left = omega (arith, o.enough, moved.falls)

      pub moves-on : Ongoing m clauses workings after later (replay w.start.sh (records_of workings) (begun w.start.g)) (left - 1) to
      moves-on =
          record {
            some = moved.some;
            low = moved.low;
            piled = moved.piled;
            roomy = omega (arith, o.roomy, moved.scratch_long);
            clean = moved.clean;
            count = o.count;
            order = moved.order;
            inside = moved.inside;
            is = o.is ∙ moved.same;
            enough = omega (arith, o.enough, moved.falls);
          }
