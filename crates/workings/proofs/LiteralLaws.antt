-- A literal passed that asks for no record. Assumes nothing.
use Prim.Native.Nat.{ℕ, ◌-◌, ◌<◌}
use mathlib.Core.Path.{◌≡◌, sym, ap, ◌∙◌, subst, subst⁻¹}
use mathlib.Core.List.{List}
use Rattle.std.specs.Prelude.{Option, Some, None}
use Rattle.machine.specs.Machine.{Alternative}
use Rattle.run.specs.Meanings.{Meaning}
use Rattle.run.specs.Steps.{meaning}
use Rattle.run.specs.declared.alternatives.PileHeight.{PileHeight}
use Rattle.derivations.specs.Workings.{Resolvent}
use Rattle.derivations.specs.Resolvents.{resolvent, potential}
use Rattle.workings.specs.Choices.{LiteralPassable, Advanced, LiteralPassed, alternative_in}
use Rattle.workings.specs.Replays.{rest_of, LiteralDue, MoveMade}
use Rattle.workings.specs.declared.replays.Place.{Place}
use Rattle.workings.specs.declared.replays.Move.TheVariants.{On, Stopped}
use Rattle.workings.proofs.RestLaws.{rest-failed}
use Rattle.workings.proofs.PileLaws.{OnTop, on-top}

module _ {nodes code : List ℕ} {clauses : ℕ} {workings state scratch : List ℕ} {at : Place} (w : LiteralDue nodes code clauses workings state scratch at) where
  abbrev m : Meaning
  m = meaning w.replaying.top.running

  pub passable : LiteralPassable nodes code state scratch at.pile.height at.pile.trail
  passable = record { top = w.replaying.top; no_call = w.no_call; no_split = w.no_split; no_end = w.no_end }

  module _ (after later : List ℕ) (o : Option PileHeight)
      (k : (v : LiteralPassable nodes code state scratch at.pile.height at.pile.trail) → LiteralPassed (meaning v.top.running) state scratch (at.pile.height - 1) after later o) where
    gone : (x : Option PileHeight) → o ≡ x → LiteralPassed m state scratch (at.pile.height - 1) after later x
    unfolding passable
    gone x p = subst (LiteralPassed m state scratch (at.pile.height - 1) after later) p (k passable)

    pub not-passed : o ≡ None → MoveMade m workings state scratch at after later (Stopped at.used)
    unfolding MoveMade LiteralPassed
    not-passed p = rest-failed m.sh workings at.used at.past (resolvent (alternative_in m state (at.pile.height - 1))) (gone None p)

    pub passed : (pile : PileHeight) → o ≡ Some pile → MoveMade m workings state scratch at after later (On (record { pile = pile; used = at.used; past = at.past }))
    unfolding MoveMade LiteralPassed
    passed pile p =
        let a : Advanced m state scratch (alternative_in m state (at.pile.height - 1)) (resolvent (alternative_in m state (at.pile.height - 1))) after later pile = gone (Some pile) p in
        let t : OnTop m after pile.height a.new = on-top m after a.new a.others pile.height a.is in
        record {
          order = w.replaying.order;
          inside = w.replaying.inside;
          some = t.some;
          low = a.low;
          piled = a.piled;
          clean = a.clean;
          scratch_long = a.scratch_long;
          same = ap (λ (s : Resolvent). rest_of m.sh workings at.used at.past s) (a.stands ∙ sym (ap resolvent t.is));
          falls = subst⁻¹ (λ (x : Alternative). potential x < potential (alternative_in m state (at.pile.height - 1))) t.is a.falls;
        }
