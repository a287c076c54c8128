-- `parse::literals::read_right` meets its contract: each way out is a law of `LiteralLaws`. Assumes nothing.
use Rattle.parse.proofs.LiteralLaws.{right_given, right-asked}
use borrow.Author.Rules.{rules}
use Rattle.parse.proofs.literals.read_right.Goals as goal

pub read_term-requires : goal.read_term-requires
read_term-requires c = search (right-asked, rules)

pub returns : goal.returns
returns c = search (right_given, rules)
