-- Laws of a replay in the middle of some workings. Assumes nothing.
use Prim.Native.Nat.{ℕ, ◌+◌, ◌-◌, ◌≤◌, ◌<◌}
use native.Mathlib.Omega.{arith}
use mathlib.Core.Path.{◌≡◌, refl, sym, ap, ◌∙◌}
use mathlib.Core.List.{List}
use Rattle.std.specs.Prelude.{Option, Some, None}
use mathlib.Core.Option.{Option as Opt, none, some}
use lib.ListN.{length, get_or, drop}
use Rattle.syntax.specs.Terms.{Sheet}
use Rattle.machine.specs.Substitution.{Binding}
use Rattle.derivations.specs.declared.Choice.{Choice}
use Rattle.derivations.specs.Workings.{Records, no_more, malformed, next, record_bytes, choice_of, records_from, records_of, Resolvent, failed, solved, at_call, at_bracket, led, answered, stopped, behind, used, finished, replay}
use Rattle.derivations.proofs.Byte.{NotFailed, behind-zero, behind-behind, used-not-failed}
use Rattle.workings.specs.Records.{first_choice}
use Rattle.workings.specs.Replays.{rest_of}
use Rattle.workings.proofs.RecordLaws.{onward, here, drop-all, by_choice}

used-zero : (s : Resolvent) (sh : Sheet) (rs : Records) → used 0 s (replay sh rs s) ≡ replay sh rs s
unfolding used replay finished led
used-zero failed sh no_more = refl
used-zero failed sh malformed = refl
used-zero failed sh (next m rs) = refl
used-zero (solved b) sh rs = sym (behind-zero (replay sh rs (solved b)))
used-zero (at_call k b c a r) sh rs = sym (behind-zero (replay sh rs (at_call k b c a r)))
used-zero (at_bracket k b c y z r) sh rs = sym (behind-zero (replay sh rs (at_bracket k b c y z r)))

-- at the start
pub rest-begins : (sh : Sheet) (w : List ℕ) (s : Resolvent) → replay sh (records_of w) s ≡ rest_of sh w 0 0 s
unfolding records_of
rest-begins sh w s = sym (used-zero s sh (records_from 0 w)) ∙ behind-zero (used 0 s (replay sh (records_from 0 w) s))

behind-stopped : (n : ℕ) → behind n (stopped 0) ≡ stopped n
unfolding behind
behind-stopped n = ap stopped (let z : n + 0 ≡ n = omega arith in z)

-- failed: the record that is gone through is not used up
pub rest-failed : (sh : Sheet) (w : List ℕ) (up past : ℕ) (s : Resolvent) → s ≡ failed → rest_of sh w up past s ≡ stopped up
unfolding used
rest-failed sh w up past s e = ap (λ (x : Resolvent). rest_of sh w up past x) e ∙ behind-stopped up

abbrev pub AwaitsRecord : Resolvent → Type 0
AwaitsRecord failed = ⊥
AwaitsRecord (solved b) = ⊥
AwaitsRecord (at_call k b c a rest) = Unit {0}
AwaitsRecord (at_bracket k b c y z rest) = Unit {0}

pub awaits-not-failed : (s : Resolvent) → AwaitsRecord s → NotFailed s
awaits-not-failed failed t = t
awaits-not-failed (solved b) t = absurd t
awaits-not-failed (at_call k b c a rest) t = tt
awaits-not-failed (at_bracket k b c y z rest) t = tt

some-none : (m : Choice) → ◌≡◌ {A = Option Choice} None (Some m) → ⊥
some-none m e = let z : ◌≡◌ {A = ℕ} 0 1 = cc in omega arith

none-stops : (sh : Sheet) (s : Resolvent) → AwaitsRecord s → (rs : Records) → None ≡ first_choice rs → replay sh rs s ≡ stopped 0
unfolding replay finished
none-stops sh failed t rs e = absurd t
none-stops sh (solved b) t rs e = absurd t
none-stops sh (at_call k b c a rest) t no_more e = refl
none-stops sh (at_call k b c a rest) t malformed e = refl
none-stops sh (at_call k b c a rest) t (next m rs) e = absurd (some-none m e)
none-stops sh (at_bracket k b c y z rest) t no_more e = refl
none-stops sh (at_bracket k b c y z rest) t malformed e = refl
none-stops sh (at_bracket k b c y z rest) t (next m rs) e = absurd (some-none m e)

over-stops : (sh : Sheet) (b : List Binding) (s : List ℕ) (o : Opt Choice) → replay sh (by_choice s o) (solved b) ≡ stopped 0
unfolding replay led used
over-stops sh b s none = refl
over-stops sh b s (some m) = refl

-- it is used up where a record is due or nothing is left
module _ (sh : Sheet) (w : List ℕ) (up past : ℕ) (l : up ≤ past) (s : Resolvent) (u : NotFailed s) where
  pub rest-due : rest_of sh w up past s ≡ behind past (replay sh (records_from 0 (drop past w)) s)
  rest-due =
      ap (behind up) (used-not-failed (past - up) s (replay sh (records_from 0 (drop past w)) s) u)
      ∙ behind-behind up (past - up) (replay sh (records_from 0 (drop past w)) s)
      ∙ ap (λ (n : ℕ). behind n (replay sh (records_from 0 (drop past w)) s)) (let z : up + (past - up) ≡ past = omega arith in z)

  -- the next record
  pub rest-moves : (m : Choice) → Some m ≡ first_choice (records_from 0 (drop past w)) → rest_of sh w up past s ≡ rest_of sh w past (past + record_bytes m) (led sh m s)
  unfolding replay
  rest-moves m e =
      rest-due
      ∙ ap (λ (rs : Records). behind past (replay sh rs s)) (onward w past m e).is
      ∙ ap (λ (n : ℕ). behind past (used n (led sh m s) (replay sh (records_from 0 (drop (past + record_bytes m) w)) (led sh m s)))) (let z : record_bytes m ≡ (past + record_bytes m) - past = omega arith in z)

  -- it does not fit
  pub rest-misfits : (m : Choice) → Some m ≡ first_choice (records_from 0 (drop past w)) → led sh m s ≡ failed → rest_of sh w up past s ≡ stopped past
  rest-misfits m e b = rest-moves m e ∙ rest-failed sh w past (past + record_bytes m) (led sh m s) b

  -- a record is due and none can be read: the workings run out, or it is malformed
  pub rest-stops : AwaitsRecord s → None ≡ first_choice (records_from 0 (drop past w)) → rest_of sh w up past s ≡ stopped past
  rest-stops t e = rest-due ∙ ap (behind past) (none-stops sh s t (records_from 0 (drop past w)) e) ∙ behind-stopped past

-- nothing is left of the goal
module _ (sh : Sheet) (w : List ℕ) (up past : ℕ) (l : up ≤ past) (b : List Binding) where
  pub rest-answers : length w ≤ past → rest_of sh w up past (solved b) ≡ answered b
  unfolding replay finished behind records_from
  rest-answers h =
      rest-due sh w up past l (solved b) tt
      ∙ ap (λ (x : List ℕ). behind past (replay sh (records_from 0 x) (solved b))) (drop-all w past (omega (arith, h)))

  pub rest-over : past < length w → rest_of sh w up past (solved b) ≡ stopped past
  rest-over h =
      rest-due sh w up past l (solved b) tt
      ∙ ap (λ (rs : Records). behind past (replay sh rs (solved b))) (here w past h)
      ∙ ap (behind past) (over-stops sh b (drop (past + 1) w) (choice_of (get_or w past 0) (drop (past + 1) w)))
      ∙ behind-stopped past
