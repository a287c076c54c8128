use native.Mathlib.Omega.{arith}
use Rattle.answers.proofs.NumberLaws.{unmark-few, unmark-start, unmark-cell, unmark-next, unmark-end}
use Rattle.answers.proofs.numbers.unmark.Goals as goal

pub loop-j-init : goal.loop-j-init
loop-j-init c = unmark-start c.requires c.word_at-count.ensures

pub word_at-x-requires : goal.word_at-x-requires
word_at-x-requires c =
    let loop = c.loop-j in
    omega (arith, c.requires.numbers_are.long, unmark-few c.requires c.word_at-count.ensures, c.loop-j-test.true, loop.auto.numbers)

pub bounds-numbers-x : goal.bounds-numbers-x
bounds-numbers-x c =
    let loop = c.loop-j in
    let cell = unmark-cell c.requires c.word_at-count.ensures c.loop-j-test.true loop.invariant c.word_at-x.ensures in
    omega (arith, c.requires.numbers_are.long, cell, loop.auto.numbers)

pub loop-j-preserved : goal.loop-j-preserved
loop-j-preserved c =
    let loop = c.loop-j in
    unmark-next c.requires c.word_at-count.ensures c.loop-j-test.true loop.invariant c.word_at-x.ensures
    (omega (arith, c.requires.numbers_are.long, loop.auto.numbers))

pub returns : goal.returns
returns c =
    let loop = c.loop-j in
    unmark-end c.requires c.word_at-count.ensures (omega (arith, c.requires.numbers_are.long, loop.auto.numbers)) c.loop-j-test.false loop.invariant
