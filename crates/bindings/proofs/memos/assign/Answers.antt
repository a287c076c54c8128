use Rattle.bindings.proofs.Remembering.{assigned}
use Rattle.bindings.proofs.memos.assign.Goals as goal

pub returns : goal.returns
returns c = assigned c.args.scratch.now c.row_for.new.scratch c.args.term c.args.i c.in-Some.k _ c.in-Some.ensures c.in-Some.ensures.row c.requires.1.1 _ c.put_number.ensures
