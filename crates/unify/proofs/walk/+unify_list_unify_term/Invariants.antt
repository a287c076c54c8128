use Prim.Native.Nat.{◌+◌, ◌-◌, ◌*◌}
use lib.ListN.{get_or}
use Rattle.unify.proofs.walk.+unify_list_unify_term.Given as goal

abbrev pub decreases-unify_list : goal.decreases-unify_list
decreases-unify_list l = (l.e - l.p) * 2 + 1

abbrev pub decreases-unify_term : goal.decreases-unify_term
decreases-unify_term l = get_or l.nodes.now (l.p + 1) 0 * 2
