-- `marks::undeclared::undeclared_item` meets its contract. Assumes nothing.
use native.Mathlib.Omega.{arith}
use Rattle.marks.proofs.Items.{item_room, no_call, called_at, called}
use Rattle.marks.proofs.undeclared.undeclared_item.Goals as goal

pub word_at-requires : goal.word_at-requires
word_at-requires c = item_room c.requires

pub returns-then-word_at-ne-CALL_KIND : goal.returns-then-word_at-ne-CALL_KIND
returns-then-word_at-ne-CALL_KIND c = λ d w. no_call c.word_at.ensures c.if-word_at-ne-CALL_KIND.true d.list c.args.check.clause c.args.literal w

pub overflow_add-q : goal.overflow_add-q
overflow_add-q c = omega (arith, item_room c.requires)

pub undeclared_atom-requires : goal.undeclared_atom-requires
undeclared_atom-requires c = called_at c.word_at.ensures c.if-word_at-ne-CALL_KIND.false c.requires

pub returns : goal.returns
returns c = λ d w. called c.word_at.ensures c.if-word_at-ne-CALL_KIND.false d.list c.args.check.clause c.args.literal c.undeclared_atom.result (c.undeclared_atom.ensures d) w
