-- `marks::equations::equate` and `marks::equations::equate_all` meet their contracts. The left side is measured: a term by its words, a list of terms by the words that are left. Assumes nothing.
use Prim.Native.Nat.{◌+◌, ◌-◌, ◌*◌}
use lib.ListN.{get_or}
use Rattle.marks.proofs.equations.+equate_equate_all.Given as goal

abbrev pub decreases-equate : goal.decreases-equate
decreases-equate l = 2 * get_or l.read.table.now (l.p + 1) 0

abbrev pub decreases-equate_all : goal.decreases-equate_all
decreases-equate_all l = 2 * (l.stop - l.p) + 1
