use Rattle.marks.proofs.LookupLaws.{rest-first, rest_found, rest_on, rest-missing}
use borrow.Author.Rules.{rules}
use Rattle.marks.proofs.lookup.look_among.Goals as goal

pub loop-i-init : goal.loop-i-init
loop-i-init c = search (rest-first, rules)

pub returns-then-is_match : goal.returns-then-is_match
returns-then-is_match c = search (rest_found, rules)

pub loop-i-preserved : goal.loop-i-preserved
loop-i-preserved c = search (rest_on, rules)

pub returns : goal.returns
returns c = search (rest-missing, rules)
