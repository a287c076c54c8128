-- `formatter::bodies::append_item` meets its contract. Assumes nothing.
use Rattle.formatter.proofs.BodyLaws.{item_room, literal_written, behind_a_literal, left_written, before_a_left_side, right_written, before_a_right_side, end_written, behind_a_bracket}
use Rattle.formatter.proofs.bodies.append_item.Goals as goal

pub word_at-word-requires : goal.word_at-word-requires
word_at-word-requires c = item_room c.requires.stands

pub returns-then-word-le-EQUATION_KIND-clause-wrote : goal.returns-then-word-le-EQUATION_KIND-clause-wrote
returns-then-word-le-EQUATION_KIND-clause-wrote c = literal_written c.word_at-word.ensures c.args.from.started c.if-word-le-EQUATION_KIND.true c.append_comma-past_comma.ensures c.append_literal.ensures

pub returns-then-word-le-EQUATION_KIND-clause-started : goal.returns-then-word-le-EQUATION_KIND-clause-started
returns-then-word-le-EQUATION_KIND-clause-started c = behind_a_literal c.word_at-word.ensures c.args.from.started c.if-word-le-EQUATION_KIND.true

pub returns-then-kind-eq-LEFT_KIND-clause-wrote : goal.returns-then-kind-eq-LEFT_KIND-clause-wrote
returns-then-kind-eq-LEFT_KIND-clause-wrote c =
    left_written c.word_at-word.ensures c.args.from.started c.if-word-le-EQUATION_KIND.false c.kind_of_item-kind.ensures c.if-kind-eq-LEFT_KIND.true c.append_comma-past_comma-then-kind-eq-LEFT_KIND.ensures c.append_byte.ensures

pub returns-then-kind-eq-LEFT_KIND-clause-started : goal.returns-then-kind-eq-LEFT_KIND-clause-started
returns-then-kind-eq-LEFT_KIND-clause-started c = before_a_left_side c.word_at-word.ensures c.args.from.started c.if-word-le-EQUATION_KIND.false c.kind_of_item-kind.ensures c.if-kind-eq-LEFT_KIND.true

pub returns-then-kind-eq-RIGHT_KIND-clause-wrote : goal.returns-then-kind-eq-RIGHT_KIND-clause-wrote
returns-then-kind-eq-RIGHT_KIND-clause-wrote c =
    right_written c.word_at-word.ensures c.args.from.started c.if-word-le-EQUATION_KIND.false c.kind_of_item-kind.ensures c.if-kind-eq-RIGHT_KIND.true c.append_byte-then-kind-eq-RIGHT_KIND.ensures

pub returns-then-kind-eq-RIGHT_KIND-clause-started : goal.returns-then-kind-eq-RIGHT_KIND-clause-started
returns-then-kind-eq-RIGHT_KIND-clause-started c =
    before_a_right_side c.word_at-word.ensures c.args.from.started c.if-word-le-EQUATION_KIND.false c.kind_of_item-kind.ensures c.if-kind-eq-RIGHT_KIND.true

pub returns-clause-wrote : goal.returns-clause-wrote
returns-clause-wrote c =
    end_written c.word_at-word.ensures c.args.from.started c.if-word-le-EQUATION_KIND.false c.kind_of_item-kind.ensures c.if-kind-eq-LEFT_KIND.false c.if-kind-eq-RIGHT_KIND.false c.append_byte-2.ensures

pub returns-clause-started : goal.returns-clause-started
returns-clause-started c =
    behind_a_bracket c.word_at-word.ensures c.args.from.started c.if-word-le-EQUATION_KIND.false c.kind_of_item-kind.ensures c.if-kind-eq-LEFT_KIND.false c.if-kind-eq-RIGHT_KIND.false
