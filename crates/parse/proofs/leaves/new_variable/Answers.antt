-- `parse::leaves::new_variable` meets its contract: each way out is a law of `Reading`. Assumes nothing.
use Rattle.parse.proofs.Reading.{new-ready, new-given, new-refused}
use borrow.Author.Rules.{rules}
use Rattle.parse.proofs.leaves.new_variable.Goals as goal

pub leaf-requires : goal.leaf-requires
leaf-requires c = let both = new-ready _ _ _ _ _ _ c.with_new-new.ensures.is c.with_new-new.ensures.stored c.if-count-lt-VARIABLES.true c.requires.kind_value c.requires.room_to_read in record { room_to_read = both.0; what_bound = both.1 }

pub returns-then-count-lt-VARIABLES : goal.returns-then-count-lt-VARIABLES
returns-then-count-lt-VARIABLES c = search (new-given, rules)

pub returns : goal.returns
returns c = search (new-refused, rules)
