-- `formatter::clauses::append_clause` meets its contract. Assumes nothing.
use native.Mathlib.Omega.{arith}
use Rattle.formatter.proofs.TermLaws.{node_in, near}
use Rattle.formatter.proofs.ClauseLaws.{head_at, clause_inside, clause_long, fact_written, body_in, body_inside, rule_written, body_near}
use Rattle.formatter.proofs.clauses.append_clause.Goals as goal

pub overflow_add-p : goal.overflow_add-p
overflow_add-p c = omega (arith, clause_inside c.requires.stands, clause_long c.requires.stands)

pub word_at-items-requires : goal.word_at-items-requires
word_at-items-requires c = omega (arith, clause_inside c.requires.stands, clause_long c.requires.stands, (node_in (head_at c.requires.stands)).0)

pub overflow_add-head : goal.overflow_add-head
overflow_add-head c = omega (arith, clause_inside c.requires.stands, clause_long c.requires.stands)

pub append_term-past_head-requires-clause-stands : goal.append_term-past_head-requires-clause-stands
append_term-past_head-requires-clause-stands c = head_at c.requires.stands

pub append_term-past_head-requires-clause-room : goal.append_term-past_head-requires-clause-room
append_term-past_head-requires-clause-room c = omega (arith, (node_in (head_at c.requires.stands)).1, c.requires.room)

pub append_all-requires : goal.append_all-requires
append_all-requires c =
    let h = head_at c.requires.stands in omega (arith, (node_in h).1, near h (c.append_term-past_head.ensures h), c.requires.room)

pub returns-then-items-eq0 : goal.returns-then-items-eq0
returns-then-items-eq0 c = fact_written c.word_at-items.ensures c.if-items-eq0.true c.append_term-past_head.ensures c.append_all.ensures

pub append_all-past_neck-requires : goal.append_all-past_neck-requires
append_all-past_neck-requires c =
    let h = head_at c.requires.stands in omega (arith, (node_in h).1, near h (c.append_term-past_head.ensures h), c.requires.room)

pub past-first-requires : goal.past-first-requires
past-first-requires c = node_in (head_at c.requires.stands)

pub append_body-past_body-requires-clause-stands : goal.append_body-past_body-requires-clause-stands
append_body-past_body-requires-clause-stands c = body_in c.word_at-items.ensures c.past-first.ensures c.requires.stands

pub append_body-past_body-requires-clause-room : goal.append_body-past_body-requires-clause-room
append_body-past_body-requires-clause-room c =
    let h = head_at c.requires.stands in
    omega (arith, (node_in h).1, near h (c.append_term-past_head.ensures h), c.append_all-past_neck.ensures.past, c.past-first.ensures, c.requires.room)

pub append_all-requires-2 : goal.append_all-requires-2
append_all-requires-2 c =
    let h = head_at c.requires.stands in
    omega (
      arith,
      (node_in h).1,
      near h (c.append_term-past_head.ensures h),
      c.append_all-past_neck.ensures.past,
      c.past-first.ensures,
      body_near c.word_at-items.ensures c.past-first.ensures c.append_body-past_body.ensures c.requires.stands,
      body_inside c.word_at-items.ensures c.past-first.ensures c.requires.stands,
      clause_inside c.requires.stands,
      c.requires.room,
    )

pub returns : goal.returns
returns c =
    rule_written c.word_at-items.ensures c.past-first.ensures c.if-items-eq0.false c.append_term-past_head.ensures c.append_all-past_neck.ensures c.append_body-past_body.ensures c.append_all-2.ensures
