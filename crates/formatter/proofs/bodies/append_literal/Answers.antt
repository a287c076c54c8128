-- `formatter::bodies::append_literal` meets its contract. Assumes nothing.
use native.Mathlib.Omega.{arith}
use Rattle.formatter.proofs.TermLaws.{node_in, near}
use Rattle.formatter.proofs.BodyLaws.{item_room, true_written, fail_written, call_written, left_term, right_term, equation_written}
use Rattle.formatter.proofs.bodies.append_literal.Goals as goal

pub word_at-kind-requires : goal.word_at-kind-requires
word_at-kind-requires c = item_room c.requires.stands

pub returns-then-kind-eq-TRUTH_KIND : goal.returns-then-kind-eq-TRUTH_KIND
returns-then-kind-eq-TRUTH_KIND c = true_written c.word_at-kind.ensures c.if-kind-eq-TRUTH_KIND.true c.append_all.ensures

pub returns-then-kind-eq-FALSITY_KIND : goal.returns-then-kind-eq-FALSITY_KIND
returns-then-kind-eq-FALSITY_KIND c = fail_written c.word_at-kind.ensures c.if-kind-eq-FALSITY_KIND.true c.append_all-then-kind-eq-FALSITY_KIND.ensures

pub append_term-past_left-requires-clause-stands : goal.append_term-past_left-requires-clause-stands
append_term-past_left-requires-clause-stands c = left_term c.word_at-kind.ensures c.if-kind-eq-TRUTH_KIND.false c.if-kind-eq-FALSITY_KIND.false c.requires.plain c.requires.stands

pub append_term-past_left-requires-clause-room : goal.append_term-past_left-requires-clause-room
append_term-past_left-requires-clause-room c =
    let left = left_term c.word_at-kind.ensures c.if-kind-eq-TRUTH_KIND.false c.if-kind-eq-FALSITY_KIND.false c.requires.plain c.requires.stands in
    omega (arith, (node_in left).1, c.requires.room)

pub returns-then-kind-eq-CALL_KIND : goal.returns-then-kind-eq-CALL_KIND
returns-then-kind-eq-CALL_KIND c = call_written c.word_at-kind.ensures c.if-kind-eq-CALL_KIND.true c.append_term-past_left.ensures

pub append_byte-past_sign-requires : goal.append_byte-past_sign-requires
append_byte-past_sign-requires c =
    let left = left_term c.word_at-kind.ensures c.if-kind-eq-TRUTH_KIND.false c.if-kind-eq-FALSITY_KIND.false c.requires.plain c.requires.stands in
    omega (arith, (node_in left).1, near left (c.append_term-past_left.ensures left), c.requires.room)

pub past-right-requires : goal.past-right-requires
past-right-requires c = node_in (left_term c.word_at-kind.ensures c.if-kind-eq-TRUTH_KIND.false c.if-kind-eq-FALSITY_KIND.false c.requires.plain c.requires.stands)

pub append_term-requires-clause-stands : goal.append_term-requires-clause-stands
append_term-requires-clause-stands c =
    right_term c.word_at-kind.ensures c.if-kind-eq-TRUTH_KIND.false c.if-kind-eq-FALSITY_KIND.false c.requires.plain c.if-kind-eq-CALL_KIND.false c.past-right.ensures c.requires.stands

pub append_term-requires-clause-room : goal.append_term-requires-clause-room
append_term-requires-clause-room c =
    let left = left_term c.word_at-kind.ensures c.if-kind-eq-TRUTH_KIND.false c.if-kind-eq-FALSITY_KIND.false c.requires.plain c.requires.stands in
    let right = right_term c.word_at-kind.ensures c.if-kind-eq-TRUTH_KIND.false c.if-kind-eq-FALSITY_KIND.false c.requires.plain c.if-kind-eq-CALL_KIND.false c.past-right.ensures c.requires.stands in
    omega (arith, (node_in right).1, near left (c.append_term-past_left.ensures left), c.append_byte-past_sign.ensures.past, c.past-right.ensures, c.requires.room)

pub returns : goal.returns
returns c =
    equation_written c.word_at-kind.ensures c.if-kind-eq-TRUTH_KIND.false c.if-kind-eq-FALSITY_KIND.false c.requires.plain c.if-kind-eq-CALL_KIND.false c.past-right.ensures
    c.append_term-past_left.ensures c.append_byte-past_sign.ensures c.append_term.ensures
