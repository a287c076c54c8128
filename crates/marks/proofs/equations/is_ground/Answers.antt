-- `marks::equations::is_ground` meets its contract. Assumes nothing.
use Rattle.marks.proofs.EquationsGrounding.{test-is}
use Rattle.marks.proofs.equations.is_ground.Goals as goal

pub returns : goal.returns
returns c = test-is c.args.table.now c.args.p c.args.known c.ground_test.ensures c.is_none.ensures
