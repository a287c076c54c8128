-- `marks::literals::plain_walk` meets its contract. Assumes nothing.
use Rattle.marks.proofs.Places.{node-inside, past-ends}
use native.Mathlib.Omega.{arith}
use Rattle.mode_rules.specs.Modes.{everything}
use Rattle.marks.proofs.LiteralsLaws.{at_least, literal-room, atom-at, first-term, right-term, sides-at, walked-truth, walked-falsity, walked_call, walked-equation}
use Rattle.marks.proofs.literals.plain_walk.Goals as goal

pub word_at-kind-requires : goal.word_at-kind-requires
word_at-kind-requires c = literal-room c.requires.literal_at

pub overflow_add-q : goal.overflow_add-q
overflow_add-q c = omega (arith, literal-room c.requires.literal_at)

pub overflow_add-more : goal.overflow_add-more
overflow_add-more c = omega (arith, c.requires.p_bound.1, literal-room c.requires.literal_at)

pub returns-then-kind-eq-TRUTH_KIND : goal.returns-then-kind-eq-TRUTH_KIND
returns-then-kind-eq-TRUTH_KIND c = λ d w. walked-truth c.word_at-kind.result c.word_at-kind.ensures c.requires.p_bound.0 d.list c.args.check.clause c.args.literal c.args.known c.if-kind-eq-TRUTH_KIND.true w

pub returns-then-kind-eq-FALSITY_KIND : goal.returns-then-kind-eq-FALSITY_KIND
unfolding everything
returns-then-kind-eq-FALSITY_KIND c = λ d w. walked-falsity c.word_at-kind.result c.word_at-kind.ensures c.requires.p_bound.0 d.list c.args.check.clause c.args.literal c.args.known c.if-kind-eq-FALSITY_KIND.true w

pub call_walk-requires : goal.call_walk-requires
call_walk-requires c = record { atom_at = atom-at c.word_at-kind.result c.word_at-kind.ensures c.requires.p_bound.0 c.if-kind-eq-CALL_KIND.true c.requires.literal_at; literal_le_p = c.requires.p_bound.1 }

pub returns-then-kind-eq-CALL_KIND : goal.returns-then-kind-eq-CALL_KIND
returns-then-kind-eq-CALL_KIND c = λ d w. walked_call c.word_at-kind.result c.word_at-kind.ensures c.requires.p_bound.0 d.list c.args.check.clause c.args.literal c.args.known c.if-kind-eq-CALL_KIND.true c.call_walk.result (c.call_walk.ensures d) w

pub past-right-requires : goal.past-right-requires
past-right-requires c = node-inside (first-term c.word_at-kind.result c.word_at-kind.ensures c.requires.p_bound.0 (at_least _ c.if-kind-eq-TRUTH_KIND.false c.if-kind-eq-FALSITY_KIND.false) c.requires.literal_at)

pub past-next-requires : goal.past-next-requires
past-next-requires c = node-inside (right-term c.word_at-kind.result c.word_at-kind.ensures c.requires.p_bound.0 (at_least _ c.if-kind-eq-TRUTH_KIND.false c.if-kind-eq-FALSITY_KIND.false) c.if-kind-eq-CALL_KIND.false c.past-right.result (past-ends c.past-right.ensures) c.requires.literal_at)

pub settle-after-requires : goal.settle-after-requires
settle-after-requires c = sides-at c.word_at-kind.result c.word_at-kind.ensures c.requires.p_bound.0 (at_least _ c.if-kind-eq-TRUTH_KIND.false c.if-kind-eq-FALSITY_KIND.false) c.if-kind-eq-CALL_KIND.false c.past-right.result (past-ends c.past-right.ensures) c.requires.literal_at

pub returns : goal.returns
returns c = λ d w. walked-equation c.word_at-kind.result c.word_at-kind.ensures c.requires.p_bound.0 (at_least _ c.if-kind-eq-TRUTH_KIND.false c.if-kind-eq-FALSITY_KIND.false) c.if-kind-eq-CALL_KIND.false c.past-right.result (past-ends c.past-right.ensures) d.list c.args.check.clause c.args.literal c.args.known c.settle-after.result c.settle-after.ensures (past-ends c.past-next.ensures) w
