-- `marks::arguments::ground_marked` meets its contract. The measure is what is left of the words. Assumes nothing.
use Prim.Native.Nat.{◌-◌}
use Rattle.marks.proofs.arguments.+ground_marked.Given as goal

abbrev pub decreases-ground_marked : goal.decreases-ground_marked
decreases-ground_marked l = l.stop - l.p
