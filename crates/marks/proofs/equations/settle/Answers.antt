-- `marks::equations::settle` meets its contract. Assumes nothing.
use native.Mathlib.Omega.{arith}
use mathlib.Core.Path.{◌≡◌}
use lib.ListN.{length}
use Rattle.syntax.specs.Limits.{variables}
use Rattle.marks.proofs.Places.{room-three}
use Rattle.marks.proofs.Equating.{left_at, right-at}
use Rattle.marks.proofs.Passing.{settled-left, settled-right}
use borrow.Author.Rules.{rules}
use Rattle.marks.proofs.equations.settle.Goals as goal

pub word_at-requires : goal.word_at-requires
word_at-requires c = omega (arith, room-three c.args.read.table.now c.args.p (left_at c.requires))

pub equate_variable-requires : goal.equate_variable-requires
equate_variable-requires c = record { term_at = left_at c.requires; term_at_2 = right-at c.requires }

pub returns-then-word_at-lt-FIRST_NAME : goal.returns-then-word_at-lt-FIRST_NAME
returns-then-word_at-lt-FIRST_NAME c = let wide : length c.args.known ≡ variables = search rules in
    settled-left c.args.known wide c.word_at.result c.equate_variable.ensures c.word_at.ensures c.if-word_at-lt-FIRST_NAME.true

pub word_at-requires-2 : goal.word_at-requires-2
word_at-requires-2 c = omega (arith, room-three c.args.read.table.now c.args.q (right-at c.requires))

pub equate_variable-requires-then-word_at-lt-FIRST_NAME-2 : goal.equate_variable-requires-then-word_at-lt-FIRST_NAME-2
equate_variable-requires-then-word_at-lt-FIRST_NAME-2 c = record { term_at = left_at c.requires; term_at_2 = right-at c.requires }

pub returns-then-word_at-lt-FIRST_NAME-2 : goal.returns-then-word_at-lt-FIRST_NAME-2
returns-then-word_at-lt-FIRST_NAME-2 c = let wide : length c.args.known ≡ variables = search rules in
    settled-right c.args.known wide c.word_at-2.result c.equate_variable-then-word_at-lt-FIRST_NAME-2.ensures c.word_at-2.ensures c.if-word_at-lt-FIRST_NAME-2.true
