use Rattle.bindings.proofs.Remembering.{begins-remembers}
use Rattle.bindings.proofs.memos.enter.Goals as goal

pub returns-then-m-lt-COUNTED : goal.returns-then-m-lt-COUNTED
returns-then-m-lt-COUNTED c = begins-remembers c.args.scratch.now _ c.args.left c.args.right c.begin.ensures

pub returns-then-m-ge-CLASS_COUNT : goal.returns-then-m-ge-CLASS_COUNT
returns-then-m-ge-CLASS_COUNT c = begins-remembers c.args.scratch.now _ c.args.left c.args.right c.begin_anew.ensures
