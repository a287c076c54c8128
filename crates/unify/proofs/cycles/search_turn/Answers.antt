use native.Mathlib.Omega.{arith}
use mathlib.Core.Path.{refl, sym, ◌∙◌}
use Rattle.unify.proofs.CycleLaws.{at-end, at-node, at-copy, at-look, at-found, at-cell, top-room, top-cell, top-inside, top-term, top-look, turn-finished, next-variable, next-cell, turn-cycle, turn-enter, turn-entered}
use Rattle.unify.proofs.cycles.search_turn.Goals as goal

pub overflow_mul-top : goal.overflow_mul-top
overflow_mul-top c = omega (arith, top-room c.requires.0 c.requires.1)

pub overflow_add-top : goal.overflow_add-top
overflow_add-top c = omega (arith, top-room c.requires.0 c.requires.1)

pub word_at-x-requires : goal.word_at-x-requires
word_at-x-requires c = omega (arith, top-room c.requires.0 c.requires.1)

pub overflow_add-top-2 : goal.overflow_add-top-2
overflow_add-top-2 c = omega (arith, top-room c.requires.0 c.requires.1)

pub word_at-from-requires : goal.word_at-from-requires
word_at-from-requires c = omega (arith, top-room c.requires.0 c.requires.1)

pub overflow_add-top-3 : goal.overflow_add-top-3
overflow_add-top-3 c = omega (arith, top-room c.requires.0 c.requires.1)

pub word_at-w-requires : goal.word_at-w-requires
word_at-w-requires c = top-inside c.requires.0 c.requires.1 c.word_at-x.ensures c.word_at-from.ensures

pub size_at-requires : goal.size_at-requires
size_at-requires c = rw (at-node c.word_at-w.result c.unpack-at.ensures) (top-term c.requires.0 c.requires.1 c.word_at-x.ensures c.word_at-from.ensures c.word_at-w.ensures).0

pub overflow_add-e : goal.overflow_add-e
overflow_add-e c = omega (arith, (at-end c.args.nodes.now c.word_at-w.result c.unpack-at.ensures c.size_at.ensures), top-term c.requires.0 c.requires.1 c.word_at-x.ensures c.word_at-from.ensures c.word_at-w.ensures)

pub next_place-i-requires : goal.next_place-i-requires
next_place-i-requires c = at-look c.word_at-w.result c.unpack-at.ensures (top-look c.requires.0 c.requires.1 c.word_at-x.ensures c.word_at-from.ensures c.word_at-w.ensures (at-end c.args.nodes.now c.word_at-w.result c.unpack-at.ensures c.size_at.ensures))

pub put-requires : goal.put-requires
put-requires c = omega (arith, top-cell c.requires.0 c.requires.1 c.word_at-x.ensures c.word_at-from.ensures, top-room c.requires.0 c.requires.1)

pub returns-then-e-i : goal.returns-then-e-i
returns-then-e-i c = λ g. turn-finished g c.requires.1 c.word_at-x.ensures c.word_at-from.ensures c.word_at-w.ensures (at-end c.args.nodes.now c.word_at-w.result c.unpack-at.ensures c.size_at.ensures) (at-found c.word_at-w.result c.unpack-at.ensures c.next_place-i.ensures) c.if-e-i.true c.slot_of.ensures.0 c.slot_of.ensures.1 c.put.ensures c.put-then-e-i.ensures

pub word_at-v-requires : goal.word_at-v-requires
word_at-v-requires c = (next-variable c.requires.0 c.requires.1 c.word_at-x.ensures c.word_at-from.ensures c.word_at-w.ensures (at-end c.args.nodes.now c.word_at-w.result c.unpack-at.ensures c.size_at.ensures) (at-found c.word_at-w.result c.unpack-at.ensures c.next_place-i.ensures) c.if-e-i.false refl refl).1

pub cell_of-y-requires : goal.cell_of-y-requires
cell_of-y-requires c = (omega (arith, at-copy c.word_at-w.result c.unpack-at.ensures), (next-variable c.requires.0 c.requires.1 c.word_at-x.ensures c.word_at-from.ensures c.word_at-w.ensures (at-end c.args.nodes.now c.word_at-w.result c.unpack-at.ensures c.size_at.ensures) (at-found c.word_at-w.result c.unpack-at.ensures c.next_place-i.ensures) c.if-e-i.false c.word_at-v.ensures refl).0)

pub word_at-requires : goal.word_at-requires
word_at-requires c = omega (arith, next-cell c.requires.0 c.requires.1 c.word_at-x.ensures c.word_at-from.ensures c.word_at-w.ensures (at-end c.args.nodes.now c.word_at-w.result c.unpack-at.ensures c.size_at.ensures) (at-found c.word_at-w.result c.unpack-at.ensures c.next_place-i.ensures) c.if-e-i.false c.word_at-v.ensures (at-cell c.word_at-w.result c.word_at-v.result c.unpack-at.ensures c.cell_of-y.ensures), top-room c.requires.0 c.requires.1)

pub returns-then-word_at-ne0 : goal.returns-then-word_at-ne0
returns-then-word_at-ne0 c = λ g. (refl, turn-cycle g c.requires.1 c.word_at-x.ensures c.word_at-from.ensures c.word_at-w.ensures (at-end c.args.nodes.now c.word_at-w.result c.unpack-at.ensures c.size_at.ensures) (at-found c.word_at-w.result c.unpack-at.ensures c.next_place-i.ensures) c.if-e-i.false c.word_at-v.ensures (at-cell c.word_at-w.result c.word_at-v.result c.unpack-at.ensures c.cell_of-y.ensures) (λ z. c.if-word_at-ne0.true (c.word_at.ensures ∙ z)))

pub put-requires-2 : goal.put-requires-2
put-requires-2 c = omega (arith, next-variable c.requires.0 c.requires.1 c.word_at-x.ensures c.word_at-from.ensures c.word_at-w.ensures (at-end c.args.nodes.now c.word_at-w.result c.unpack-at.ensures c.size_at.ensures) (at-found c.word_at-w.result c.unpack-at.ensures c.next_place-i.ensures) c.if-e-i.false c.word_at-v.ensures (at-cell c.word_at-w.result c.word_at-v.result c.unpack-at.ensures c.cell_of-y.ensures), top-term c.requires.0 c.requires.1 c.word_at-x.ensures c.word_at-from.ensures c.word_at-w.ensures, top-room c.requires.0 c.requires.1)

pub enter-requires : goal.enter-requires
enter-requires c = turn-enter c.requires.0 c.requires.1 c.word_at-x.ensures c.word_at-from.ensures c.word_at-w.ensures (at-end c.args.nodes.now c.word_at-w.result c.unpack-at.ensures c.size_at.ensures) (at-found c.word_at-w.result c.unpack-at.ensures c.next_place-i.ensures) c.if-e-i.false c.word_at-v.ensures (at-cell c.word_at-w.result c.word_at-v.result c.unpack-at.ensures c.cell_of-y.ensures) (sym c.word_at.ensures ∙ c.if-word_at-ne0.false) c.put-2.ensures

pub returns : goal.returns
returns c = λ g. turn-entered g c.requires.1 c.word_at-x.ensures c.word_at-from.ensures c.word_at-w.ensures (at-end c.args.nodes.now c.word_at-w.result c.unpack-at.ensures c.size_at.ensures) (at-found c.word_at-w.result c.unpack-at.ensures c.next_place-i.ensures) c.if-e-i.false c.word_at-v.ensures (at-cell c.word_at-w.result c.word_at-v.result c.unpack-at.ensures c.cell_of-y.ensures) (sym c.word_at.ensures ∙ c.if-word_at-ne0.false) c.put-2.ensures c.enter.ensures
