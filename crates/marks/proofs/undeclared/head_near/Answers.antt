-- `marks::undeclared::head_near` meets its contract. Assumes nothing.
use native.Mathlib.Omega.{arith}
use Rattle.marks.proofs.UndeclaredClauses.{clause-room, head-at}
use Rattle.marks.proofs.undeclared.head_near.Goals as goal

pub overflow_add-head : goal.overflow_add-head
overflow_add-head c = omega (arith, clause-room c.requires)

pub find_near-requires : goal.find_near-requires
find_near-requires c = head-at c.requires
