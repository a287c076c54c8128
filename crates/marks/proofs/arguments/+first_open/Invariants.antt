-- `marks::arguments::first_open` meets its contract. The measure is what is left of the words. Assumes nothing.
use Prim.Native.Nat.{◌-◌}
use Rattle.marks.proofs.arguments.+first_open.Given as goal

abbrev pub decreases-first_open : goal.decreases-first_open
decreases-first_open l = l.stop - l.p
