use native.Mathlib.Omega.{arith}
use Rattle.answers.proofs.NumberLaws.{number-known, number-new, number-room}
use Rattle.answers.proofs.numbers.number_of.Goals as goal

pub returns-then-known-ne0 : goal.returns-then-known-ne0
returns-then-known-ne0 c = λ met h. number-known met c.args.x c.args.numbers.now c.word_at-known.ensures c.requires.0 c.if-known-ne0.true h

pub bounds-numbers-count : goal.bounds-numbers-count
bounds-numbers-count c =
    let some = c.requires.1 in
    omega (arith, number-room some c.word_at-known.ensures c.word_at-count.ensures c.requires.0 c.if-known-ne0.false, some.numbers_are.long)

pub overflow_cast-numbers-2 : goal.overflow_cast-numbers-2
overflow_cast-numbers-2 c =
    omega (arith, number-room c.requires.1 c.word_at-known.ensures c.word_at-count.ensures c.requires.0 c.if-known-ne0.false)

pub overflow_cast-numbers-3 : goal.overflow_cast-numbers-3
overflow_cast-numbers-3 c =
    omega (arith, number-room c.requires.1 c.word_at-known.ensures c.word_at-count.ensures c.requires.0 c.if-known-ne0.false)

pub returns : goal.returns
returns c =
    λ met h. number-new met c.args.x c.args.numbers.now c.word_at-known.ensures c.word_at-count.ensures c.requires.0 c.if-known-ne0.false h
