use Rattle.bindings.specs.Scratch.{stack_side_words}
use Rattle.bindings.proofs.stack.put_side.Goals as goal

pub returns : goal.returns
unfolding stack_side_words
returns c = c.put_three.ensures
