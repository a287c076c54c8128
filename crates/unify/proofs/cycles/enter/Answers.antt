use native.Mathlib.Omega.{arith}
use mathlib.Core.Path.{refl}
use lib.ListN.{length-set}
use Rattle.unify.proofs.CycleLaws.{at-node, enter-inside, enter-term, enter-place, entered-fits, enter-done, entered-on}
use Rattle.unify.proofs.cycles.enter.Goals as goal

pub first_place-first-requires : goal.first_place-first-requires
first_place-first-requires c = ((omega (arith, enter-inside c.requires), c.requires.given.roomy), enter-term c.requires c.word_at-w.ensures)

pub bind-requires : goal.bind-requires
bind-requires c = (c.requires.cell, (omega (arith, enter-inside c.requires), omega arith))

pub overflow_mul-i : goal.overflow_mul-i
overflow_mul-i c = omega (arith, enter-inside c.requires)

pub overflow_add-i : goal.overflow_add-i
overflow_add-i c = omega (arith, enter-inside c.requires)

pub put-requires : goal.put-requires
put-requires c = rw c.bind.ensures (omega (arith, enter-inside c.requires, entered-fits c.requires c.word_at-w.ensures c.first_place-first.ensures, c.requires.cell))

pub overflow_add-i-2 : goal.overflow_add-i-2
overflow_add-i-2 c = omega (arith, enter-inside c.requires)

pub put-requires-2 : goal.put-requires-2
put-requires-2 c = rw (c.put.ensures, c.bind.ensures) (simp length-set (omega (arith, enter-inside c.requires, entered-fits c.requires c.word_at-w.ensures c.first_place-first.ensures, enter-place c.requires c.word_at-w.ensures c.first_place-first.ensures)))

pub size_at-size-requires : goal.size_at-size-requires
size_at-size-requires c = rw (at-node c.word_at-w.result c.unpack.ensures) (enter-term c.requires c.word_at-w.ensures).0

pub overflow_add-result : goal.overflow_add-result
overflow_add-result c = omega (arith, enter-inside c.requires)

pub overflow_add-result-2 : goal.overflow_add-result-2
overflow_add-result-2 c = omega (arith, enter-inside c.requires)

pub returns : goal.returns
returns c = λ g. enter-done g c.word_at-w.ensures c.first_place-first.ensures (entered-on _ _ _ _ c.bind.ensures c.put.ensures c.put-2.ensures) c.spent.ensures refl
