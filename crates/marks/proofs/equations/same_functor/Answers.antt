-- `marks::equations::same_functor` meets its contract. Assumes nothing.
use native.Mathlib.Omega.{arith}
use mathlib.Core.Path.{◌∙◌}
use borrow.Author.Tests.{ne_eqb}
use Rattle.marks.proofs.Places.{room-three}
use Rattle.marks.proofs.Equating.{left_at, right-at, functors-differ, functors-inside, functors-same}
use Rattle.marks.proofs.equations.same_functor.Goals as goal

pub word_at-v-requires : goal.word_at-v-requires
word_at-v-requires c = omega (arith, room-three c.args.read.table.now c.args.p (left_at c.requires.pair_at))

pub word_at-w-requires : goal.word_at-w-requires
word_at-w-requires c = omega (arith, room-three c.args.read.table.now c.args.q (right-at c.requires.pair_at))

pub returns-else-v-w : goal.returns-else-v-w
returns-else-v-w c = λ w. ne_eqb _ _ c.if-v-w.false ∙ functors-differ c.word_at-v.ensures c.word_at-w.ensures c.requires.first_name_bound c.if-v-w.false w

pub overflow_add-p : goal.overflow_add-p
overflow_add-p c = omega (arith, room-three c.args.read.table.now c.args.p (left_at c.requires.pair_at))

pub word_at-a-requires : goal.word_at-a-requires
word_at-a-requires c = omega (arith, room-three c.args.read.table.now c.args.p (left_at c.requires.pair_at))

pub overflow_add-q : goal.overflow_add-q
overflow_add-q c = omega (arith, room-three c.args.read.table.now c.args.q (right-at c.requires.pair_at))

pub word_at-b-requires : goal.word_at-b-requires
word_at-b-requires c = omega (arith, room-three c.args.read.table.now c.args.q (right-at c.requires.pair_at))

pub same_bytes-requires : goal.same_bytes-requires
same_bytes-requires c = let pre = c.requires in functors-inside c.word_at-v.ensures c.word_at-w.ensures pre.first_name_bound c.if-v-w.true c.word_at-a.ensures c.word_at-b.ensures c.length_of.ensures pre.pair_at

pub returns-then-v-w : goal.returns-then-v-w
returns-then-v-w c = functors-same c.word_at-v.ensures c.word_at-w.ensures c.requires.first_name_bound c.if-v-w.true c.word_at-a.ensures c.word_at-b.ensures c.length_of.ensures c.same_bytes.ensures
