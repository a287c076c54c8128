-- `parse::literals::read_one` meets its contract: each way out is a law of `LiteralLaws`. Assumes nothing.
use Rattle.parse.proofs.LiteralLaws.{one-named, one-other}
use borrow.Author.Rules.{rules}
use Rattle.parse.proofs.literals.read_one.Goals as goal

pub returns-in-Name : goal.returns-in-Name
returns-in-Name c = search (one-named, rules)

pub returns-in_default : goal.returns-in_default
returns-in_default c = search (one-other, rules)
