use Rattle.bindings.proofs.Remembering.{weighed-remembers, weighed-then}
use Rattle.bindings.proofs.memos.keep.Goals as goal

pub returns-then-weight-least : goal.returns-then-weight-least
returns-then-weight-least c = weighed-remembers _ _ c.args.left c.args.right c.put_weight.ensures

pub returns : goal.returns
returns c = weighed-then _ _ _ c.args.left c.args.right c.put_weight-2.ensures c.enter.ensures
