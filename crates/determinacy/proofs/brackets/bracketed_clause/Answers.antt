use native.Mathlib.Omega.{arith}
use Rattle.determinacy.proofs.BracketLaws.{ahead-begins, ahead-clause, ahead-stops, ahead-on, ahead-ends}
use Rattle.determinacy.proofs.brackets.bracketed_clause.Goals as goal

pub loop-i-init : goal.loop-i-init
loop-i-init c = (omega arith, λ w. ahead-begins w)

pub is_bracketed-requires : goal.is_bracketed-requires
is_bracketed-requires c = ahead-clause c.loop-i-test.true (c.loop-i.invariant.1 c.requires)

pub returns-then-is_bracketed : goal.returns-then-is_bracketed
returns-then-is_bracketed c = λ w. ahead-stops c.loop-i-test.true c.is_bracketed.ensures c.if-is_bracketed.true (c.loop-i.invariant.1 w)

pub past_clause-at-requires : goal.past_clause-at-requires
past_clause-at-requires c = ahead-clause c.loop-i-test.true (c.loop-i.invariant.1 c.requires)

pub loop-i-preserved : goal.loop-i-preserved
loop-i-preserved c = (omega arith, λ w. ahead-on c.loop-i-test.true c.is_bracketed.ensures c.if-is_bracketed.false c.past_clause-at.ensures (c.loop-i.invariant.1 w))

pub returns : goal.returns
returns c = λ w. ahead-ends c.loop-i-test.false (c.loop-i.invariant.1 w)
