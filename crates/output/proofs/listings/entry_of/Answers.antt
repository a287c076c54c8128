-- `output::listings::entry_of` meets its contract: each way out is a law of `ListingsLaws`. Assumes nothing.
use Rattle.output.proofs.ListingsLaws.{entry-none, entry-some}
use borrow.Author.Rules.{rules}
use Rattle.output.proofs.listings.entry_of.Goals as goal

pub returns-then-n-i : goal.returns-then-n-i
returns-then-n-i c = search (entry-none, rules)

pub returns : goal.returns
returns c = search (entry-some, rules)
