-- `formatter::terms::append_term` and `formatter::terms::append_terms` meet their contracts. A term is measured by its words, a list of terms by the words that are left. Assumes nothing.
use lib.ListN.{get_or}
use Prim.Native.Nat.{◌+◌, ◌-◌, ◌*◌}
use Rattle.formatter.proofs.terms.+append_term_append_terms.Given as goal

abbrev pub decreases-append_term : goal.decreases-append_term
decreases-append_term l = 2 * get_or l.read.table.now (l.p + 1) 0

abbrev pub decreases-append_terms : goal.decreases-append_terms
decreases-append_terms l = 2 * (l.stop - l.p) + 1
