-- `marks::equations::equate_variable` meets its contract. Assumes nothing.
use Rattle.marks.proofs.EquationsGrounding.{left-grounds, right-grounds, neither-grounds}
use Rattle.marks.proofs.equations.equate_variable.Goals as goal

pub returns-then-is_ground : goal.returns-then-is_ground
returns-then-is_ground c = left-grounds c.args.table.now c.args.p c.args.q c.args.known c.is_ground.result c.is_ground.result c.is_ground.ensures c.if-is_ground.true c.ground_term-left.result c.ground_term.result c.ground_term-left.ensures c.ground_term.ensures

pub returns-then-is_ground-2 : goal.returns-then-is_ground-2
returns-then-is_ground-2 c = right-grounds c.args.table.now c.args.p c.args.q c.args.known c.is_ground.result c.is_ground-2.result c.is_ground.ensures c.is_ground-2.ensures c.if-is_ground.false c.if-is_ground-2.true c.ground_term-left-then-is_ground-2.result c.ground_term-then-is_ground-2.result c.ground_term-left-then-is_ground-2.ensures c.ground_term-then-is_ground-2.ensures

pub returns : goal.returns
returns c = neither-grounds c.args.table.now c.args.p c.args.q c.args.known c.is_ground.result c.is_ground-2.result c.is_ground.ensures c.is_ground-2.ensures c.if-is_ground.false c.if-is_ground-2.false
