-- No clauses, and the goal `(true;true).`: a loaded bracket and a pile that stands at it, so the laws of brackets are not empty. Assumes nothing.
use Prim.Native.Nat.{ℕ, ◌+◌, ◌-◌, ◌≤◌}
use native.Mathlib.Omega.{arith}
use mathlib.Core.Path.{◌≡◌, refl, ap, ◌∙◌}
use mathlib.Core.List.{List, [], ◌∷◌}
use lib.ListN.{length, set, replicate, length-replicate}
use Rattle.syntax.specs.Words.{body_length}
use Rattle.syntax.specs.Terms.{truth, either, done, also, literals_of, Goal}
use Rattle.machine.specs.Machine.{pending}
use Rattle.machine.specs.Low.{BodyShort}
use Rattle.run_layout.specs.Regions.{bodies, state_words, alternative_of, alternative_size, literal_from, split_kind}
use Rattle.run_layout.specs.Program.{body_at, record_kind, BodyLoaded, Program}
use Rattle.run_layout.specs.Pile.{literal_at}
use Rattle.run_layout.proofs.Pile.{Written, Means, started, written}
use Rattle.run_layout.proofs.RunLayoutWitness.{sheet, no-clause, few-clauses, none-short, zeros, zeros-long, zeros-clean}

unfoldable pub goal : Goal
goal = record { body = also (either (also truth done) (also truth done)) done; names = [] }

unfoldable pub unused : List ℕ
unused = replicate (bodies - 28) 0

-- the goal's record, and from 4 on: where the sides part, the left side and its end, the right side and its end, the body's end
unfoldable pub code : List ℕ
code =
    0 ∷ 4 ∷ 0 ∷ 0 ∷ 5 ∷ 0 ∷ 16 ∷ 0 ∷ 0 ∷ 0 ∷ 0 ∷ 0 ∷ 6 ∷ 0 ∷ 24 ∷ 0 ∷ 0 ∷ 0 ∷ 0 ∷ 0 ∷ 6 ∷ 0 ∷ 24 ∷ 0 ∷ 4 ∷ 0 ∷ 0 ∷ 0 ∷ unused

unused-long : length unused ≡ (bodies - 28)
unfolding unused
unused-long = length-replicate {A = ℕ} (bodies - 28) 0

code-long : length code ≡ bodies
unfolding code
code-long = let e : length unused ≡ (bodies - 28) = unused-long in omega arith

goal_stands : BodyLoaded [] sheet [] code (body_at code 0) goal.body
unfolding goal code body_length
goal_stands =
    let l : length code ≡ bodies = code-long in
    record {
      room = (let q : literal_from 4 6 ≤ length code = omega arith in q);
      items = (((refl, refl), (refl, tt), (refl, refl), (refl, tt), (refl, refl)), tt);
      ends = refl;
    }

goal_short : BodyShort goal.body
unfolding goal literals_of
goal_short = record { few = omega arith; filled = (((omega arith, (tt, tt)), (omega arith, (tt, tt))), tt) }

pub program : Program [] sheet goal [] code
program =
    let l : length code ≡ bodies = code-long in
    record {
      small = omega arith;
      long = omega arith;
      short = omega arith;
      few = few-clauses;
      bodies_short = none-short;
      goal_short = goal_short;
      goal = goal_stands;
      clause = λ k cl e. absurd (no-clause k cl e);
    }

-- the goal alone
unfoldable pub words : List ℕ
words = set (set (set (set (set (set zeros (alternative_of 0) 0) (alternative_of 0 + 1) (body_at code 0)) (alternative_of 0 + 2) 0) (alternative_of 0 + 3) 0) (alternative_of 0 + 4) 0) (alternative_of 0 + 5) 0

words-written : Written 0 0 (body_at code 0) 0 0 0 zeros words
unfolding words
words-written = let l : length zeros ≡ state_words = zeros-long in written zeros 0 0 (body_at code 0) 0 0 0 0 (let q : alternative_of 0 + alternative_size ≤ length zeros = omega arith in q)

pub pile : Means [] sheet goal [] code words 1 0 (record { literals = pending 0 goal.body []; bindings = []; next = 0; calls = [] } ∷ [])
pile = started [] sheet goal [] code zeros words 0 program (let l : length zeros ≡ state_words = zeros-long in omega arith) zeros-clean (λ a h. tt) words-written

first-split : record_kind code (body_at code 0) ≡ split_kind
unfolding code
first-split = refl

-- it stands at the bracket
pub at_split : record_kind code (literal_at words 0) ≡ split_kind
at_split = ap (record_kind code) words-written.literal ∙ first-split
