-- `marks::lookup::is_at` meets its contract. Assumes nothing.
use Rattle.marks.proofs.LookupLaws.{at_long, at_end, at-empty, at-differs, at_rest}
use borrow.Author.Rules.{rules}
use Rattle.marks.proofs.lookup.is_at.Goals as goal

pub returns-then-size-len : goal.returns-then-size-len
returns-then-size-len c = search (at_long, rules)

pub returns-then-latest-place : goal.returns-then-latest-place
returns-then-latest-place c = search (at_end, rules)

pub returns-then-len-eq0 : goal.returns-then-len-eq0
returns-then-len-eq0 c = search (at-empty, rules)

pub returns-then-text-p : goal.returns-then-text-p
returns-then-text-p c = search (at-differs, rules)

pub returns : goal.returns
returns c = search (at_rest, rules)
