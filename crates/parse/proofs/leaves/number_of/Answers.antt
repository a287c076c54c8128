use Rattle.parse.proofs.Reading.{span-inside, number-found, number_step, number-none}
use borrow.Author.Rules.{rules}
use Rattle.parse.proofs.leaves.number_of.Goals as goal

pub same_span-requires : goal.same_span-requires
same_span-requires c = search (span-inside, rules)

pub returns-then-same_span : goal.returns-then-same_span
returns-then-same_span c = search (number-found, rules)

pub loop-i-preserved : goal.loop-i-preserved
loop-i-preserved c = record { from_is = c.loop-i.invariant.from_is; so_far = search (number_step, rules) }

pub returns : goal.returns
returns c = search (number-none, rules)
