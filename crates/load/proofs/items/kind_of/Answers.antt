-- `load::items::kind_of` meets its contract. Assumes nothing.
use Rattle.words.proofs.Items.{item_room}
use Rattle.load.proofs.ItemsLaws.{kind-plain, kind-split, kind-jump}
use Rattle.load.proofs.items.kind_of.Goals as goal

pub word_at-word-requires : goal.word_at-word-requires
word_at-word-requires c = item_room c.args.table.now c.args.p c.requires.0 c.requires.1

pub returns-then-word-le-EQUATION_KIND : goal.returns-then-word-le-EQUATION_KIND
returns-then-word-le-EQUATION_KIND c = kind-plain c.args.table.now c.args.p c.word_at-word.result c.word_at-word.ensures c.if-word-le-EQUATION_KIND.true

pub returns-then-kind-eq-LEFT_KIND : goal.returns-then-kind-eq-LEFT_KIND
returns-then-kind-eq-LEFT_KIND c = kind-split c.args.table.now c.args.p c.word_at-word.result c.word_at-word.ensures c.if-word-le-EQUATION_KIND.false c.kind_of_item-kind.result c.kind_of_item-kind.ensures c.if-kind-eq-LEFT_KIND.true

pub returns : goal.returns
returns c = kind-jump c.args.table.now c.args.p c.word_at-word.result c.word_at-word.ensures c.if-word-le-EQUATION_KIND.false c.kind_of_item-kind.result c.kind_of_item-kind.ensures c.if-kind-eq-LEFT_KIND.false
