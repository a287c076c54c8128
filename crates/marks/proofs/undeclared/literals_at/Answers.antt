-- `marks::undeclared::literals_at` meets its contract. Assumes nothing.
use Rattle.words.proofs.Items.{item_room}
use Rattle.marks.proofs.Items.{no-literal, one_literal}
use Rattle.marks.proofs.undeclared.literals_at.Goals as goal

pub word_at-requires : goal.word_at-requires
word_at-requires c = item_room c.args.table.now c.args.p c.requires.0 c.requires.1

pub returns-then-word_at-ge-LEFT_KIND : goal.returns-then-word_at-ge-LEFT_KIND
returns-then-word_at-ge-LEFT_KIND c = no-literal c.args.table.now c.args.p c.word_at.result c.word_at.ensures c.if-word_at-ge-LEFT_KIND.true

pub returns : goal.returns
returns c = one_literal c.args.table.now c.args.p c.word_at.result c.word_at.ensures c.if-word_at-ge-LEFT_KIND.false
