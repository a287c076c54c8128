-- `determinacy::inputs::join_inputs` meets its contract. The measure is what is left of the words. Assumes nothing.
use Prim.Native.Nat.{◌-◌}
use Rattle.determinacy.proofs.inputs.+join_inputs.Given as goal

abbrev pub decreases-join_inputs : goal.decreases-join_inputs
decreases-join_inputs l = l.args.stop - l.args.left
