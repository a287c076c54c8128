-- `marks::terms::ground_term` and `marks::terms::ground_terms` meet their contracts. A term is measured by its words, a list of terms by the words that are left. Assumes nothing.
use Prim.Native.Nat.{◌+◌, ◌-◌, ◌*◌}
use lib.ListN.{get_or}
use Rattle.marks.proofs.terms.+ground_term_ground_terms.Given as goal

abbrev pub decreases-ground_term : goal.decreases-ground_term
decreases-ground_term l = 2 * get_or l.table.now (l.p + 1) 0

abbrev pub decreases-ground_terms : goal.decreases-ground_terms
decreases-ground_terms l = 2 * (l.stop - l.p) + 1
