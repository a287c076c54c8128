-- One law for each way out of `in_range` and `ended`. Assumes nothing.
use Prim.Native.Nat.{ℕ, ◌≤◌, ◌<◌}
use mathlib.Core.Path.{◌≡◌, sym, ap, ◌∙◌}
use mathlib.Core.Bool.{Bool, true, false, ◌&&◌}
use lib.Dec.{leb}
use borrow.Author.Tests.{le-leb, lt-leb, eq-eqb, ne_eqb}
use Rattle.syntax.specs.Limits.{most_steps, most_answers}
use Rattle.syntax.specs.declared.RunEnd.TheVariants.{Wanted, Done, Steps}
use Rattle.machine.specs.Runs.{in_range}
use Rattle.std.specs.Prelude.{Some, None}
use Rattle.run.specs.Ends.{ended_by}

-- one of two conditions, where the first is false, and both, where it is true
pub first-false : {a : Bool} (b : Bool) → a ≡ false → a ≡ (a && b)
first-false b e = e ∙ sym (ap (λ (c : Bool). c && b) e)

pub first-true : {a : Bool} (b : Bool) → a ≡ true → b ≡ (a && b)
first-true b e = sym (ap (λ (c : Bool). c && b) e)

pub range-steps : {r : Bool} (a w : ℕ) → r ≡ (leb 1 a && leb a most_steps) → r ≡ false → r ≡ in_range a w
unfolding in_range
range-steps a w e f = e ∙ first-false (leb 1 w && leb w most_answers) (sym e ∙ f)

pub range-answers : {r s : Bool} (a w : ℕ) → r ≡ (leb 1 a && leb a most_steps) → r ≡ true → s ≡ (leb 1 w && leb w most_answers) → s ≡ in_range a w
unfolding in_range
range-answers a w e t f = f ∙ first-true (leb 1 w && leb w most_answers) (sym e ∙ t)

-- ---- ends

pub ended-done : {h : ℕ} (w a l : ℕ) → h ≡ 0 → Some Done ≡ ended_by h w a l
ended-done {h} w a l e = simp (eq-eqb h 0 e)

pub ended-wanted : {h w a : ℕ} (l : ℕ) → (h ≡ 0 → ⊥) → w ≤ a → Some Wanted ≡ ended_by h w a l
ended-wanted {h} {w} {a} l e f = simp (ne_eqb h 0 e, le-leb w a f)

pub ended-steps : {h w a l : ℕ} → (h ≡ 0 → ⊥) → a < w → l ≡ 0 → Some Steps ≡ ended_by h w a l
ended-steps {h} {w} {a} {l} e f g = simp (ne_eqb h 0 e, lt-leb w a f, eq-eqb l 0 g)

pub ended-open : {h w a l : ℕ} → (h ≡ 0 → ⊥) → a < w → (l ≡ 0 → ⊥) → None ≡ ended_by h w a l
ended-open {h} {w} {a} {l} e f g = simp (ne_eqb h 0 e, lt-leb w a f, ne_eqb l 0 g)
