-- `load::items::other_of` meets its contract. Assumes nothing.
use Rattle.words.proofs.Items.{item_room}
use Rattle.load.proofs.Seeking.{searchable}
use Rattle.load.proofs.ItemsLaws.{item-low, other_none, call-inside, other-call, equation-inside, other-equation, other-behind, side-small, other-side}
use native.Mathlib.Omega.{arith}
use Rattle.load.proofs.items.other_of.Goals as goal

pub word_at-word-requires : goal.word_at-word-requires
word_at-word-requires c = item_room c.args.table.now c.args.at.read c.requires.1.0 c.requires.1.1.has

pub returns-then-word-lt-CALL_KIND : goal.returns-then-word-lt-CALL_KIND
returns-then-word-lt-CALL_KIND c = other_none c.word_at-word.ensures c.if-word-lt-CALL_KIND.true

pub word_at-name-requires : goal.word_at-name-requires
word_at-name-requires c = call-inside c.requires.1.1 c.word_at-word.ensures c.if-word-eq-CALL_KIND.true

pub next_for-requires : goal.next_for-requires
next_for-requires c = record { heads_placed = searchable c.requires.1.1.headed; k_le_clauses = omega arith }

pub returns-then-word-eq-CALL_KIND : goal.returns-then-word-eq-CALL_KIND
returns-then-word-eq-CALL_KIND c = other-call c.word_at-word.ensures c.if-word-eq-CALL_KIND.true c.word_at-name.ensures c.next_for.ensures

pub past-requires : goal.past-requires
past-requires c = equation-inside c.requires.1.1 c.word_at-word.ensures c.if-word-eq-EQUATION_KIND.true

pub returns-then-word-eq-EQUATION_KIND : goal.returns-then-word-eq-EQUATION_KIND
returns-then-word-eq-EQUATION_KIND c = other-equation c.word_at-word.ensures c.if-word-eq-EQUATION_KIND.true c.past.ensures

pub next_literal-requires : goal.next_literal-requires
next_literal-requires c = omega (arith, item-low c.requires.1.1)

pub returns-then-word-eq-BEHIND_KIND : goal.returns-then-word-eq-BEHIND_KIND
returns-then-word-eq-BEHIND_KIND c = other-behind c.word_at-word.ensures c.if-word-eq-BEHIND_KIND.true c.next_literal.ensures

pub overflow_add-items : goal.overflow_add-items
overflow_add-items c = omega (arith, side-small c.requires.1.1 c.word_at-word.ensures c.if-word-lt-CALL_KIND.false c.if-word-eq-CALL_KIND.false c.if-word-eq-EQUATION_KIND.false c.if-word-eq-BEHIND_KIND.false c.items_of_side-items.ensures)

pub literal_from-requires : goal.literal_from-requires
literal_from-requires c = let w = c.requires.1.1 in
    (item-low w, omega (arith, side-small w c.word_at-word.ensures c.if-word-lt-CALL_KIND.false c.if-word-eq-CALL_KIND.false c.if-word-eq-EQUATION_KIND.false c.if-word-eq-BEHIND_KIND.false c.items_of_side-items.ensures))

pub returns : goal.returns
returns c = other-side c.word_at-word.ensures c.if-word-lt-CALL_KIND.false c.if-word-eq-CALL_KIND.false c.if-word-eq-EQUATION_KIND.false c.if-word-eq-BEHIND_KIND.false c.items_of_side-items.ensures c.literal_from.ensures
