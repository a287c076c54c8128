use native.Mathlib.Omega.{arith}
use Rattle.formatter.proofs.ClauseLaws.{clauses_begun, next_clause, clause_words_at, room_left, clauses_further, clauses_ended}
use Rattle.formatter.proofs.clauses.append_clauses.Goals as goal

pub loop-init : goal.loop-init
loop-init c = (omega arith, λ w. clauses_begun w)

pub append_clause-written-requires-clause-stands : goal.append_clause-written-requires-clause-stands
append_clause-written-requires-clause-stands c = next_clause c.loop-test.true (c.loop.invariant.1 c.requires.stand).0

pub past_clause-place-requires : goal.past_clause-place-requires
past_clause-place-requires c = clause_words_at c.loop-test.true (c.loop.invariant.1 c.requires.stand).0

pub loop-preserved : goal.loop-preserved
loop-preserved c = (
  room_left c.loop-test.true c.past_clause-place.ensures c.append_clause-written.ensures (c.loop.invariant.1 c.requires.stand).0 c.loop.invariant.0,
  λ w. clauses_further c.loop-test.true c.past_clause-place.ensures c.append_clause-written.ensures w.list (c.loop.invariant.1 w),
)

pub returns : goal.returns
returns c = λ w. clauses_ended c.loop-test.false w.list (c.loop.invariant.1 w)
