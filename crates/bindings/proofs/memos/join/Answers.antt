use Rattle.bindings.proofs.Remembering.{joined-left, joined-right}
use borrow.Author.Rules.{rules}
use Rattle.bindings.proofs.memos.join.Goals as goal

pub returns-then-x-y : goal.returns-then-x-y
returns-then-x-y c = search (joined-left, rules)

pub returns : goal.returns
returns c = search (joined-right, rules)
