-- How many alternatives a pile has, of texts that are accepted: reading gives bodies of few literals, and no side of a bracket empty. Assumes nothing.
use Prim.Native.Nat.{ℕ, suc, ◌+◌, ◌*◌, ◌≤◌}
use native.Mathlib.Omega.{arith}
use mathlib.Core.Path.{◌≡◌, refl, ap}
use mathlib.Core.Bool.{Bool}
use mathlib.Core.List.{List, [], ◌∷◌, ◌++◌}
use lib.ListN.{length}
use Rattle.syntax.specs.Limits.{literals, longest_path}
use Rattle.syntax.specs.Terms.{done, literals_in, literals_of, Clause, Sheet, Goal}
use Rattle.syntax.specs.Verdicts.{Outcome, refused, accepted, goal_outcome}
use Rattle.mode_rules.specs.Modes.{goal_fault}
use Rattle.mode_rules.specs.Checking.{checked_with, checked_goal_from, checked_goal}
use Rattle.machine.specs.Machine.{Alternative, path, pile_after}
use Rattle.machine.specs.Traces.{Fact, fact_text, fact_clause, fact_clauses, with_facts, facts_in, records_of, traced_sheet}
use Rattle.machine.specs.Low.{BodyShort, ClausesShort}
use Rattle.machine_theorems.proofs.EveryRun.{refused-accepted, faultless-none}
use Rattle.machine_theorems.proofs.Piles.{All}
use Rattle.machine_theorems.proofs.Low.{most-alternatives}
use Rattle.run_layout.proofs.Limits.{goal-limited, checked-sheet-limited, clauses-short}
use Rattle.claims.specs.Piles.{PathsWithin}

-- what checking accepts was read
goal-read : (sh : Sheet) (s : List ℕ) (g : Goal) → checked_goal sh s ≡ accepted g → goal_outcome s ≡ accepted g
unfolding checked_goal checked_goal_from
goal-read sh s g e = go (goal_outcome s) e
  where
    go : (o : Outcome Goal) → checked_goal_from sh o ≡ accepted g → o ≡ accepted g
    go (refused r) q = absurd (refused-accepted r g q)
    go (accepted x) q = ap accepted (faultless-none x g (goal_fault sh x) q).1

facts-short : (at : ℕ) (fs : List Fact) → ClausesShort (fact_clauses at fs)
unfolding fact_clauses fact_clause literals_in
facts-short at [] = tt
facts-short at (f ∷ fs) =
    let none : literals_of (fact_clause at f).body ≡ 0 = refl in
    (record { few = omega (arith, none); filled = tt }, facts-short (at + length (fact_text f)) fs)

both-short : (cls more : List Clause) → ClausesShort cls → ClausesShort more → ClausesShort (cls ++ more)
both-short [] more h k = k
both-short (cl ∷ cls) more h k = (h.0, both-short cls more h.1 k)

paths-all : (pile : List Alternative) → PathsWithin pile → All (λ a. path a ≤ longest_path) pile
paths-all [] h = tt
paths-all (a ∷ below) h = (h.0, paths-all below h.1)

module _ (stored : Bool) (sheet goal : List ℕ) (sh : Sheet) (g : Goal) (s : checked_with stored sheet ≡ accepted sh) (e : checked_goal sh goal ≡ accepted g) where
  own-short : ClausesShort sh.clauses
  own-short = clauses-short sh.clauses (checked-sheet-limited stored sheet sh s).clauses

  -- with the facts of a trace too, of which an empty one has none
  pub pile-height : (trace : List ℕ) (n : ℕ) → PathsWithin (pile_after (traced_sheet (length sheet) trace sh) g n)
      → length (pile_after (traced_sheet (length sheet) trace sh) g n) ≤ literals * suc longest_path
  unfolding with_facts
  pile-height trace n h =
      most-alternatives (traced_sheet (length sheet) trace sh) g
      (both-short sh.clauses (fact_clauses (length sheet) (facts_in (records_of trace))) own-short (facts-short (length sheet) (facts_in (records_of trace))))
      (goal-limited goal g (goal-read sh goal g e)).short n
      (paths-all (pile_after (traced_sheet (length sheet) trace sh) g n) h)
