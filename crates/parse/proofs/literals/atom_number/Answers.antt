-- `parse::literals::atom_number` meets its contract: each way out is a law of `LiteralLaws`. Assumes nothing.
use Rattle.parse.proofs.LiteralLaws.{number-long, number-true, number-fail, number-call}
use borrow.Author.Rules.{rules}
use Rattle.parse.proofs.literals.atom_number.Goals as goal

pub returns-then-size-ne-NODE_WORDS : goal.returns-then-size-ne-NODE_WORDS
returns-then-size-ne-NODE_WORDS c = search (number-long, rules)

pub returns-then-is_true : goal.returns-then-is_true
returns-then-is_true c = search (number-true, rules)

pub returns-then-is_fail : goal.returns-then-is_fail
returns-then-is_fail c = search (number-fail, rules)

pub returns : goal.returns
returns c = search (number-call, rules)
