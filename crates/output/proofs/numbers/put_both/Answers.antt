-- The fault and what follows it, one after another.
use Rattle.words.proofs.BuffersLaws.{then}
use Rattle.output.proofs.numbers.put_both.Goals as goal

pub returns-clause-numbers : goal.returns-clause-numbers
returns-clause-numbers c = (then c.put_numbers-past.ensures c.put_numbers.ensures).text
