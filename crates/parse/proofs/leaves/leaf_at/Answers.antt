-- `parse::leaves::leaf_at` meets its contract. Assumes nothing.
use native.Mathlib.Omega.{arith}
use Rattle.parse.proofs.Reading.{leaf-given, node-room}
use borrow.Author.Rules.{rules}
use Rattle.parse.proofs.leaves.leaf_at.Goals as goal

pub put_three-requires : goal.put_three-requires
put_three-requires c = omega (arith, node-room _ _ _ _ c.requires.room_to_read c.requires.what_bound.1.1, c.requires.what_bound.0, c.requires.what_bound.1.0)

pub returns : goal.returns
returns c = search (leaf-given, rules)
