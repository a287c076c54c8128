-- `words::tables::past_item` meets its contract. Assumes nothing.
use Rattle.words.proofs.Items.{item_room, past-none, past-marker, first-inside, past-call, right-inside, past-equation}
use native.Mathlib.Omega.{arith}
use Rattle.words.proofs.tables.past_item.Goals as goal

pub word_at-word-requires : goal.word_at-word-requires
word_at-word-requires c = item_room c.args.table.now c.args.p c.requires.0 c.requires.1

pub overflow_add-q : goal.overflow_add-q
overflow_add-q c = omega (arith, item_room c.args.table.now c.args.p c.requires.0 c.requires.1)

pub returns-then-word-lt-CALL_KIND : goal.returns-then-word-lt-CALL_KIND
returns-then-word-lt-CALL_KIND c = past-none c.args.table.now c.args.p c.word_at-word.result c.word_at-word.ensures c.if-word-lt-CALL_KIND.true

pub returns-then-word-gt-EQUATION_KIND : goal.returns-then-word-gt-EQUATION_KIND
returns-then-word-gt-EQUATION_KIND c = past-marker c.args.table.now c.args.p c.word_at-word.result c.word_at-word.ensures c.if-word-gt-EQUATION_KIND.true

pub past-next-requires : goal.past-next-requires
past-next-requires c = first-inside c.args.table.now c.args.p c.word_at-word.result c.word_at-word.ensures c.if-word-lt-CALL_KIND.false c.if-word-gt-EQUATION_KIND.false c.requires.0 c.requires.1

pub returns-then-word-eq-CALL_KIND : goal.returns-then-word-eq-CALL_KIND
returns-then-word-eq-CALL_KIND c = past-call c.args.table.now c.args.p c.word_at-word.result c.word_at-word.ensures c.if-word-lt-CALL_KIND.false c.if-word-gt-EQUATION_KIND.false c.past-next.result c.past-next.ensures c.if-word-eq-CALL_KIND.true

pub past-requires : goal.past-requires
past-requires c = right-inside c.args.table.now c.args.p c.word_at-word.result c.word_at-word.ensures c.if-word-lt-CALL_KIND.false c.if-word-gt-EQUATION_KIND.false c.past-next.result c.past-next.ensures c.if-word-eq-CALL_KIND.false c.requires.0 c.requires.1

pub returns : goal.returns
returns c = past-equation c.args.table.now c.args.p c.word_at-word.result c.word_at-word.ensures c.if-word-lt-CALL_KIND.false c.if-word-gt-EQUATION_KIND.false c.past-next.result c.past-next.ensures c.if-word-eq-CALL_KIND.false c.past.result c.past.ensures
