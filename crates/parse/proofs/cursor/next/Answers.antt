-- `parse::cursor::next` meets its contract: each way out is a law of `Reading`. Assumes nothing.
use Rattle.parse.proofs.Reading.{moved}
use borrow.Author.Rules.{rules}
use Rattle.parse.proofs.cursor.next.Goals as goal

pub returns : goal.returns
returns c = search (moved, rules)
