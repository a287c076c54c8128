-- `parse::literals::read_plain` meets its contract: each way out is a law of `SideLaws`. Assumes nothing.
use Rattle.parse.proofs.PlainLaws.{counted_ready, plain-one, plain-full}
use borrow.Author.Rules.{rules}
use Rattle.parse.proofs.literals.read_plain.Goals as goal

pub read_one-requires : goal.read_one-requires
read_one-requires c = search (counted_ready, rules)

pub returns-then-st-lt-LITERALS : goal.returns-then-st-lt-LITERALS
returns-then-st-lt-LITERALS c = search (plain-one, rules)

pub returns : goal.returns
returns c = search (plain-full, rules)
