use Rattle.load.proofs.Sheets.{clauses-begin, clauses-end, ahead-clause, clause-here, node-fits, clauses-next}
use native.Mathlib.Omega.{arith}
use Rattle.load.proofs.programs.put_clauses.Goals as goal

pub loop-k-init : goal.loop-k-init
loop-k-init c = λ m cls w. clauses-begin w

pub put_clause-literal-requires : goal.put_clause-literal-requires
put_clause-literal-requires c = let w = c.requires in
    (w.0, ahead-clause (omega arith) (c.loop-k.invariant w.0 w.1.0 w.1.1))

pub clause_nodes-node-requires : goal.clause_nodes-node-requires
clause_nodes-node-requires c = let w = c.requires in
    clause-here (omega arith) (c.loop-k.invariant w.0 w.1.0 w.1.1)

pub past_clause-read-requires : goal.past_clause-read-requires
past_clause-read-requires c = let w = c.requires in
    clause-here (omega arith) (c.loop-k.invariant w.0 w.1.0 w.1.1)

pub overflow_add-node : goal.overflow_add-node
overflow_add-node c = let w = c.requires in
    omega (arith, node-fits (omega arith) (c.loop-k.invariant w.0 w.1.0 w.1.1) c.clause_nodes-node.ensures)

pub loop-k-preserved : goal.loop-k-preserved
loop-k-preserved c = λ m cls w. clauses-next (omega arith) (c.loop-k.invariant m cls w) c.clause_nodes-node.ensures c.put_clause-literal.ensures c.past_clause-read.ensures

pub returns : goal.returns
returns c = λ m cls w. clauses-end (omega arith) (c.loop-k.invariant m cls w)

-- behind the last clause
pub returns-2 : goal.returns-2
returns-2 c = λ m cls w. clauses-end (omega arith) (clauses-next (omega arith) (c.loop-k.invariant m cls w) c.clause_nodes-node.ensures c.put_clause-literal.ensures c.past_clause-read.ensures)
