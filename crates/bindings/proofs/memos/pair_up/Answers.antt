use Rattle.bindings.proofs.Remembering.{paired}
use Rattle.bindings.proofs.memos.pair_up.Goals as goal

pub returns : goal.returns
returns c = paired c.args.scratch.now _ _ _ c.args.left c.args.right c.fresh-m.result c.fresh-m.ensures c.assign.ensures c.assign-2.ensures
