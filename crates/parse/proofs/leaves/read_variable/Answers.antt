-- `parse::leaves::read_variable` meets its contract: each way out is a law of `Reading`. Assumes nothing.
use Rattle.parse.proofs.Reading.{leaf-ready, variable-met, variable-unmet}
use Rattle.parse.proofs.leaves.read_variable.Goals as goal

pub leaf-requires : goal.leaf-requires
leaf-requires c = let both = leaf-ready c.args.s.now c.args.st c.args.table.now c.args.table.now c.args.n _ c.known_number.ensures _ c.in-Some.is c.requires.room_to_read c.requires.kind_value in record { room_to_read = both.0; what_bound = both.1 }

pub returns-in-Some : goal.returns-in-Some
returns-in-Some c = variable-met _ _ _ _ _ _ c.known_number.ensures _ _ c.in-Some.is c.leaf.ensures

pub returns-in-None : goal.returns-in-None
returns-in-None c = variable-unmet _ _ _ _ _ _ c.known_number.ensures _ c.in-None.is c.new_variable.ensures
