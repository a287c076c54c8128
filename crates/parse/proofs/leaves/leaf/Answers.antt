-- `parse::leaves::leaf` meets its contract. Assumes nothing.
use Rattle.parse.proofs.Reading.{node-room}
use borrow.Author.Rules.{rules}
use Rattle.parse.proofs.leaves.leaf.Goals as goal

pub leaf_at-requires : goal.leaf_at-requires
leaf_at-requires c = search (node-room, rules)
