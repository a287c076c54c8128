use native.Mathlib.Omega.{arith}
use Rattle.bindings.proofs.ShortcutsLaws.{inside, next-name, next-front, next-plain, next-or}
use Rattle.bindings.proofs.shortcuts.next_from.Goals as goal

pub word_at-v-requires : goal.word_at-v-requires
word_at-v-requires c = inside c.args.nodes.now c.args.front.now c.args.at.node c.args.at.copy c.requires.from

pub returns-then-v-ge-FIRST_NAME : goal.returns-then-v-ge-FIRST_NAME
returns-then-v-ge-FIRST_NAME c = λ g. next-name c.args.nodes.now c.args.front.now c.args.at.node c.args.at.copy g.from c.word_at-v.ensures c.if-v-ge-FIRST_NAME.true

pub cell_of-x-requires : goal.cell_of-x-requires
cell_of-x-requires c = (c.requires.from.given.copy, omega (arith, c.if-v-ge-FIRST_NAME.false))

pub word_at-w-requires : goal.word_at-w-requires
word_at-w-requires c = next-front c.args.nodes.now c.args.front.now c.args.at.node c.args.at.copy c.requires.from c.word_at-v.ensures c.if-v-ge-FIRST_NAME.false c.cell_of-x.ensures

pub returns-then-x-y : goal.returns-then-x-y
returns-then-x-y c = λ g. next-plain c.args.nodes.now c.args.front.now c.args.at.node c.args.at.copy g.from c.word_at-v.ensures c.if-v-ge-FIRST_NAME.false c.cell_of-x.ensures c.word_at-w.ensures c.held.result c.held.ensures

pub word_at-requires : goal.word_at-requires
word_at-requires c = omega (arith, c.if-x-y.false, next-front c.args.nodes.now c.args.front.now c.args.at.node c.args.at.copy c.requires.from c.word_at-v.ensures c.if-v-ge-FIRST_NAME.false c.cell_of-x.ensures)

pub returns : goal.returns
returns c = λ g. rw c.or.ensures (next-or c.args.nodes.now c.args.front.now c.args.at.node c.args.at.copy g.from c.word_at-v.ensures c.if-v-ge-FIRST_NAME.false c.cell_of-x.ensures g.cuts c.cut_of-y.ensures (omega (arith, c.if-x-y.false)) c.word_at.ensures c.word_at-w.ensures c.held-2.result c.held-3.result c.held-2.ensures c.held-3.ensures)
