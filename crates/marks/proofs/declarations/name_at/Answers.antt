-- `marks::declarations::name_at` meets its contract. Assumes nothing.
use native.Mathlib.Omega.{arith}
use Rattle.marks.proofs.Marking.{name-room, name-least, name-is}
use Rattle.marks.proofs.declarations.name_at.Goals as goal

pub word_at-what-requires : goal.word_at-what-requires
word_at-what-requires c = omega (arith, name-room c.requires)

pub overflow_add-p : goal.overflow_add-p
overflow_add-p c = omega (arith, name-room c.requires)

pub word_at-at-requires : goal.word_at-at-requires
word_at-at-requires c = omega (arith, name-room c.requires)

pub length_of-requires : goal.length_of-requires
length_of-requires c = name-least c.word_at-what.result c.word_at-what.ensures c.requires

pub arity_of-requires : goal.arity_of-requires
arity_of-requires c = name-least c.word_at-what.result c.word_at-what.ensures c.requires

pub returns : goal.returns
returns c = name-is c.word_at-what.ensures c.word_at-at.ensures c.length_of.ensures c.arity_of.ensures
