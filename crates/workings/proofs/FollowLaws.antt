-- A record followed: each way out of it. Assumes nothing.
use Prim.Native.Nat.{ℕ, ◌+◌, ◌-◌, ◌<◌}
use native.Mathlib.Omega.{arith}
use mathlib.Core.Path.{◌≡◌, sym, ap, ◌∙◌, subst, subst⁻¹}
use mathlib.Core.List.{List}
use Rattle.std.specs.Prelude.{Option, Some, None}
use lib.ListN.{drop}
use Rattle.machine.specs.Machine.{Alternative}
use Rattle.run.specs.Meanings.{Meaning}
use Rattle.run.specs.Steps.{meaning}
use Rattle.run.specs.declared.alternatives.PileHeight.{PileHeight}
use Rattle.derivations.specs.declared.Choice.{Choice}
use Rattle.derivations.specs.Workings.{Resolvent, records_from, record_bytes}
use Rattle.derivations.specs.Resolvents.{resolvent, potential}
use Rattle.derivations.proofs.Byte.{NotFailed}
use Rattle.workings.specs.Records.{first_choice}
use Rattle.workings.specs.Choices.{ChoiceDue, Advanced, ChoiceMade, alternative_in, led_from}
use Rattle.workings.specs.Replays.{rest_of, RecordDue, MoveMade}
use Rattle.workings.specs.declared.replays.Place.{Place}
use Rattle.workings.specs.declared.replays.Move.TheVariants.{On, Stopped}
use Rattle.workings.proofs.RecordLaws.{onward}
use Rattle.workings.proofs.RestLaws.{AwaitsRecord, awaits-not-failed, rest-moves, rest-misfits, rest-stops}
use Rattle.workings.proofs.DueLaws.{awaits-record}
use Rattle.workings.proofs.PileLaws.{OnTop, on-top}

module _ {nodes code : List ℕ} {clauses : ℕ} {workings state scratch : List ℕ} {at : Place} (w : RecordDue nodes code clauses workings state scratch at) where
  abbrev m : Meaning
  m = meaning w.replaying.top.running

  abbrev here : Resolvent
  here = resolvent (alternative_in m state (at.pile.height - 1))

  pub choice-due : ChoiceDue nodes code clauses state scratch at.pile.height at.pile.trail
  choice-due = record { top = w.replaying.top; mark = w.mark; due = w.due; count = w.replaying.count }

  awaits : AwaitsRecord here
  unfolding choice-due
  awaits = awaits-record choice-due

  not-failed : NotFailed here
  not-failed = awaits-not-failed here awaits

  module _ {r : Option Choice} (e : r ≡ first_choice (records_from 0 (drop at.past workings))) where
    pub no-record : r ≡ None → (after later : List ℕ) → MoveMade m workings state scratch at after later (Stopped at.past)
    unfolding MoveMade
    no-record q after later = rest-stops m.sh workings at.used at.past w.replaying.order here not-failed awaits (sym q ∙ e)

    module _ (c : Choice) (q : r ≡ Some c) (after later : List ℕ) (o : Option PileHeight)
        (k : (v : ChoiceDue nodes code clauses state scratch at.pile.height at.pile.trail) → ChoiceMade (meaning v.top.running) state scratch (at.pile.height - 1) c after later o) where
      made : (x : Option PileHeight) → o ≡ x → ChoiceMade m state scratch (at.pile.height - 1) c after later x
      unfolding choice-due
      made x p = subst (ChoiceMade m state scratch (at.pile.height - 1) c after later) p (k choice-due)

      pub not-fitting : o ≡ None → MoveMade m workings state scratch at after later (Stopped at.past)
      unfolding MoveMade ChoiceMade
      not-fitting p = rest-misfits m.sh workings at.used at.past w.replaying.order here not-failed c (sym q ∙ e) (made None p)

      pub followed : (pile : PileHeight) → o ≡ Some pile → {n : ℕ} → n ≡ record_bytes c
          → MoveMade m workings state scratch at after later (On (record { pile = pile; used = at.past; past = at.past + n }))
      unfolding MoveMade ChoiceMade
      followed pile p {n} b =
          let a : Advanced m state scratch (alternative_in m state (at.pile.height - 1)) (led_from m state (at.pile.height - 1) c) after later pile = made (Some pile) p in
          let t : OnTop m after pile.height a.new = on-top m after a.new a.others pile.height a.is in
          record {
            order = omega arith;
            inside = omega (arith, b, (onward workings at.past c (sym q ∙ e)).fits);
            some = t.some;
            low = a.low;
            piled = a.piled;
            clean = a.clean;
            scratch_long = a.scratch_long;
            same = rest-moves m.sh workings at.used at.past w.replaying.order here not-failed c (sym q ∙ e)
                ∙ ap (λ (s : Resolvent). rest_of m.sh workings at.past (at.past + record_bytes c) s) (a.stands ∙ sym (ap resolvent t.is))
                ∙ ap (λ (x : ℕ). rest_of m.sh workings at.past (at.past + x) (resolvent (alternative_in m after (pile.height - 1)))) (sym b);
            falls = subst⁻¹ (λ (x : Alternative). potential x < potential (alternative_in m state (at.pile.height - 1))) t.is a.falls;
          }
