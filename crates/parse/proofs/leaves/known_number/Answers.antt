-- `parse::leaves::known_number` meets its contract: each way out is a law of `Reading`. Assumes nothing.
use Rattle.parse.proofs.Reading.{met-anonymous, met-named}
use borrow.Author.Rules.{rules}
use Rattle.parse.proofs.leaves.known_number.Goals as goal

pub returns-then-is_anonymous : goal.returns-then-is_anonymous
returns-then-is_anonymous c = search (met-anonymous, rules)

pub returns : goal.returns
returns c = search (met-named, rules)
