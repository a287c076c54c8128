-- `marks::terms::ground_test` and `marks::terms::ground_test_all` meet their contracts. A term is measured by its words, a list of terms by the words that are left. Assumes nothing.
use lib.ListN.{get_or}
use Prim.Native.Nat.{◌+◌, ◌-◌, ◌*◌}
use Rattle.marks.proofs.terms.+ground_test_ground_test_all.Given as goal

abbrev pub decreases-ground_test : goal.decreases-ground_test
decreases-ground_test l = 2 * get_or l.table.now (l.p + 1) 0

abbrev pub decreases-ground_test_all : goal.decreases-ground_test_all
decreases-ground_test_all l = 2 * (l.stop - l.p) + 1
