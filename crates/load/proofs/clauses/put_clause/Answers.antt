-- `load::clauses::put_clause` meets its contract. Assumes nothing.
use Rattle.load.proofs.ClausesLaws.{head-inside, clause-search, clause-small, clause-inside, head-fits, head-node-fits, body-small, pair-ready, body-ready, clause-put}
use native.Mathlib.Omega.{arith}
use Rattle.load.proofs.clauses.put_clause.Goals as goal

pub word_at-word-requires : goal.word_at-word-requires
word_at-word-requires c = head-inside c.requires.1.1

pub next_for-after-requires : goal.next_for-after-requires
next_for-after-requires c = let s = clause-search c.requires.1.1 in record { heads_placed = s.0; k_le_clauses = omega (arith, s.1) }

pub overflow_mul-k : goal.overflow_mul-k
overflow_mul-k c = omega (arith, clause-small c.requires.1.1)

pub overflow_add-k : goal.overflow_add-k
overflow_add-k c = omega (arith, clause-small c.requires.1.1)

pub put_pair-requires : goal.put_pair-requires
put_pair-requires c = pair-ready c.word_at-word.ensures c.next_for-after.ensures c.requires.1.1

pub overflow_add-at : goal.overflow_add-at
overflow_add-at c = omega (arith, clause-inside c.requires.1.1)

pub word_at-items-requires : goal.word_at-items-requires
word_at-items-requires c = omega (arith, clause-inside c.requires.1.1)

pub overflow_add-at-2 : goal.overflow_add-at-2
overflow_add-at-2 c = omega (arith, clause-inside c.requires.1.1)

pub past-requires : goal.past-requires
past-requires c = head-fits c.requires.1.1

pub past-requires-2 : goal.past-requires-2
past-requires-2 c = head-node-fits c.requires.1.1

pub put_body-requires : goal.put_body-requires
put_body-requires c = let w = c.requires in
    (w.0, (w.1.0.body, body-ready c.word_at-word.ensures c.next_for-after.ensures c.put_pair.ensures c.word_at-items.ensures c.past.ensures c.past-2.ensures w.1.1))

pub literal_from-ends-requires : goal.literal_from-ends-requires
literal_from-ends-requires c = let small = body-small c.requires.1.1 c.word_at-items.ensures in
    (small.0, omega (arith, small.1.0))

pub next_literal-requires : goal.next_literal-requires
next_literal-requires c = omega (arith, c.literal_from-ends.ensures, (body-small c.requires.1.1 c.word_at-items.ensures).1.1)

pub returns : goal.returns
returns c = clause-put c.word_at-word.ensures c.next_for-after.ensures c.put_pair.ensures c.word_at-items.ensures c.past.ensures c.past-2.ensures c.put_body.ensures c.literal_from-ends.ensures c.next_literal.ensures
