use Rattle.bindings.proofs.Remembering.{weighed-remembers, weighed-then}
use Rattle.bindings.proofs.memos.remember.Goals as goal

pub returns-in_default : goal.returns-in_default
returns-in_default c = weighed-remembers _ _ c.args.left c.args.right c.weigh.ensures

pub returns : goal.returns
returns c = weighed-then _ _ _ c.args.left c.args.right c.weigh.ensures c.keep.ensures
