use Rattle.bindings.proofs.Remembering.{merged}
use Rattle.bindings.proofs.memos.merge.Goals as goal

pub returns : goal.returns
returns c = merged c.args.scratch.now _ c.args.i c.args.j c.root_of-a.result c.root_of-b.result c.root_of-a.ensures.leads c.root_of-b.ensures.leads c.join.ensures
