-- What holds of every alternative of a pile, and of every alternative reached.
use Prim.Native.Nat.{ℕ, zero, suc}
use mathlib.Core.Path.{sym, subst}
use mathlib.Core.List.Memᴰ
use mathlib.Core.List.{List, [], ◌∷◌, ◌++◌, Memᴰ}
use mathlib.Core.Logic.{inl, inr}
use Rattle.syntax.specs.Terms.{Sheet, Goal}
use Rattle.machine.specs.Machine.{Alternative, outcome, step, start, pile_after}
use Rattle.machine.specs.Reached.{Reached}

abbrev pub All : (Alternative → Type 0) → List Alternative → Type 0
All P [] = Unit {0}
All P (a ∷ alts) = P a × All P alts

module _ (P : Alternative → Type 0) where
  pub all_append : (alts more : List Alternative) → All P alts → All P more → All P (alts ++ more)
  all_append [] more h k = k
  all_append (a ∷ alts) more h k = (h.0, all_append alts more h.1 k)

  all-member : (a : Alternative) (pile : List Alternative) → All P pile → Memᴰ a pile → P a
  all-member a [] h m = absurd (Memᴰ.not-nil m)
  all-member a (x ∷ xs) h m = elim (Memᴰ.cases_cons m) [ inl e ↦ subst P (sym e) h.0 | inr k ↦ all-member a xs h.1 k ]

  -- what holds of the goal alone, and of all that comes of an alternative if it holds of that one, holds of every alternative reached
  module _ (sh : Sheet) (g : Goal) (keeps : (a : Alternative) → P a → All P (outcome sh a)) (begins : All P (start sh g)) where
    pub all-step : (pile : List Alternative) → All P pile → All P (step sh pile)
    unfolding step
    all-step [] h = tt
    all-step (a ∷ below) h = all_append (outcome sh a) below (keeps a h.0) h.1

    all_after : (n : ℕ) → All P (pile_after sh g n)
    unfolding pile_after
    all_after zero = begins
    all_after (suc n) = all-step (pile_after sh g n) (all_after n)

    pub all-reached : (a : Alternative) → Reached sh g a → P a
    all-reached a r = all-member a (pile_after sh g r.0) (all_after r.0) r.1
