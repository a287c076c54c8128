-- `parse::literals::alone` meets its contract: each way out is a law of `LiteralLaws`. Assumes nothing.
use Rattle.parse.proofs.LiteralLaws.{number-asked, alone-call, alone-other}
use native.Mathlib.Omega.{arith}
use borrow.Author.Rules.{rules}
use Rattle.parse.proofs.literals.alone.Goals as goal

pub put-requires : goal.put-requires
put-requires c = (omega arith, search (number-asked, rules))

pub returns-then-number-eq-CALL_KIND : goal.returns-then-number-eq-CALL_KIND
returns-then-number-eq-CALL_KIND c = search (alone-call, rules)

pub returns : goal.returns
returns c = search (alone-other, rules)
