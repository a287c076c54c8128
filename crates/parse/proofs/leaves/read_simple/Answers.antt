-- `parse::leaves::read_simple` meets its contract: each way out is a law of `TermLaws`. Assumes nothing.
use Rattle.parse.proofs.TermLaws.{term-variable, term-numeral, term-other}
use borrow.Author.Rules.{rules}
use Rattle.parse.proofs.leaves.read_simple.Goals as goal

pub returns-in-Variable : goal.returns-in-Variable
returns-in-Variable c = λ most. search (term-variable, rules)

pub returns-in-Numeral : goal.returns-in-Numeral
returns-in-Numeral c = λ most. search (term-numeral, rules)

pub returns-in_default : goal.returns-in_default
returns-in_default c = λ most. search (term-other, rules)
