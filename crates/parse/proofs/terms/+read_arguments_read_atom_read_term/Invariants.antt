-- `parse::terms::read_arguments`, `parse::terms::read_atom`, `parse::terms::read_term` meet their contracts: each way out is a law of `TermLaws`. Assumes nothing.
use Prim.Native.Nat.{◌+◌, ◌*◌}
use Rattle.parse.proofs.terms.+read_arguments_read_atom_read_term.Given as goal

abbrev pub decreases-read_arguments : goal.decreases-read_arguments
decreases-read_arguments l = l.left * 20 + 2 + l.k

abbrev pub decreases-read_atom : goal.decreases-read_atom
decreases-read_atom l = l.left * 20

abbrev pub decreases-read_term : goal.decreases-read_term
decreases-read_term l = l.left * 20 + 1
