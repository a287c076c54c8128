-- A run in turns: a run of m + n steps is n steps more from where m left it.
use Prim.Native.Nat.{ℕ, zero, suc, ◌+◌}
use native.Mathlib.Omega.{arith}
use native.Mathlib.Nat.{zero-add, suc-add}
use mathlib.Core.Path.{◌≡◌, refl, sym, ap, ◌∙◌}
use mathlib.Core.Bool.{Bool, true, false, ◌&&◌}
use mathlib.Core.Option.{none, some}
use lib.Dec.{leb, ltb}
use lib.ListN.{length}
use borrow.Author.Tests.{ne_eqb}
use Rattle.syntax.specs.Terms.{Sheet, Goal}
use Rattle.machine.specs.Runs.{Wanted, Done, Steps, Full, Deep, Progress, Ended, is_empty, is_answer, next_line, goes_deeper, first_end, advance, end_or, run_from, resumed}

module _ (sh : Sheet) (g : Goal) (wanted room : ℕ) where
  -- an end by the five tests, or else on
  abbrev end_by : Progress → Bool → Bool → Bool → Bool → Bool → (Unit {0} → Ended) → Ended
  end_by p a b c d e on =
      end_or p (elim b [ true ↦ some Done | false ↦ elim a [ true ↦ some Wanted | false ↦ elim c [ true ↦ some Steps | false ↦ elim d [ true ↦ some Full | false ↦ elim e [ true ↦ some Deep | false ↦ none ] ] ] ] ]) on

  -- the same, with the tests of where the run stands but for that of the steps
  abbrev end_here : Progress → Bool → (Unit {0} → Ended) → Ended
  end_here p c on =
      end_by p (leb wanted p.answers) (is_empty p.pile) c (is_answer p.pile && ltb room (length p.text + length (next_line g p.pile))) (goes_deeper sh p.pile) on

  run_none : (p : Progress) → run_from sh g wanted room 0 p ≡ end_here p true (λ _. record { kind = Steps; at = p })
  unfolding run_from first_end
  run_none p = refl

  run-some : (k : ℕ) (p : Progress) → run_from sh g wanted room (suc k) p ≡ end_here p false (λ _. run_from sh g wanted room k (advance sh g p))
  unfolding run_from first_end
  run-some k p = ap (λ (c : Bool). end_here p c (λ _. run_from sh g wanted room k (advance sh g p))) (ne_eqb (suc k) 0 (λ q. omega arith))

  -- no steps and then n
  module _ (n : ℕ) (p : Progress) where
    none-by : (a b c d e : Bool) (on on0 : Unit {0} → Ended) → run_from sh g wanted room n p ≡ end_by p a b c d e on → run_from sh g wanted room n p ≡ resumed sh g wanted room n (end_by p a b true d e on0)
    unfolding end_or resumed
    none-by a true c d e on on0 q = q
    none-by true false c d e on on0 q = q
    none-by false false c d e on on0 q = refl

    none_more : (c : Bool) (on : Unit {0} → Ended) → run_from sh g wanted room n p ≡ end_here p c on → run_from sh g wanted room n p ≡ resumed sh g wanted room n (run_from sh g wanted room 0 p)
    none_more c on q =
        none-by (leb wanted p.answers) (is_empty p.pile) c (is_answer p.pile && ltb room (length p.text + length (next_line g p.pile))) (goes_deeper sh p.pile) on (λ _. record { kind = Steps; at = p }) q
        ∙ ap (resumed sh g wanted room n) (sym (run_none p))

    -- a step, and then n steps more than before
    some-by : (a b d e : Bool) (on later : Unit {0} → Ended) → later tt ≡ resumed sh g wanted room n (on tt) → end_by p a b false d e later ≡ resumed sh g wanted room n (end_by p a b false d e on)
    unfolding end_or resumed
    some-by a true d e on later q = refl
    some-by true false d e on later q = refl
    some-by false false true e on later q = refl
    some-by false false false true on later q = refl
    some-by false false false false on later q = q

  from-none : (n : ℕ) (p : Progress) → run_from sh g wanted room n p ≡ resumed sh g wanted room n (run_from sh g wanted room 0 p)
  from-none zero p = none_more 0 p true (λ _. record { kind = Steps; at = p }) (run_none p)
  from-none (suc k) p = none_more (suc k) p false (λ _. run_from sh g wanted room k (advance sh g p)) (run-some k p)

  pub more-steps : (m n : ℕ) (p : Progress) → run_from sh g wanted room (m + n) p ≡ resumed sh g wanted room n (run_from sh g wanted room m p)
  more-steps zero n p = ap (λ (k : ℕ). run_from sh g wanted room k p) (zero-add n) ∙ from-none n p
  more-steps (suc m) n p =
      ap (λ (k : ℕ). run_from sh g wanted room k p) (suc-add m n)
      ∙ run-some (m + n) p
      ∙ some-by n p (leb wanted p.answers) (is_empty p.pile) (is_answer p.pile && ltb room (length p.text + length (next_line g p.pile))) (goes_deeper sh p.pile) (λ _. run_from sh g wanted room m (advance sh g p)) (λ _. run_from sh g wanted room (m + n) (advance sh g p)) (more-steps m n (advance sh g p))
      ∙ ap (resumed sh g wanted room n) (sym (run-some m p))
