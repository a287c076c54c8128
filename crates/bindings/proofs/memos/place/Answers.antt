use Rattle.bindings.proofs.Remembering.{assigned-left, assigned-right, merged-both}
use Rattle.bindings.proofs.memos.place.Goals as goal

pub returns-in-None-Some : goal.returns-in-None-Some
returns-in-None-Some c = assigned-left c.args.scratch.now _ c.args.left c.args.right c.in-None-Some.j c.requires.1.0.0 c.in-None-Some.ensures c.assign.ensures

pub returns-in-Some-None : goal.returns-in-Some-None
returns-in-Some-None c = assigned-right c.args.scratch.now _ c.args.left c.args.right c.in-Some-None.i c.requires.1.0.0 c.in-Some-None.ensures c.assign-in-Some-None.ensures

pub returns-in-Some-Some : goal.returns-in-Some-Some
returns-in-Some-Some c = merged-both c.args.scratch.now _ c.args.left c.args.right c.in-Some-Some.i c.in-Some-Some.j c.requires.1.0.0 c.in-Some-Some.ensures c.in-Some-Some.ensures' c.merge.ensures
