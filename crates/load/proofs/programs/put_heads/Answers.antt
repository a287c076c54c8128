use Rattle.load.proofs.Sheets.{heads-begin, heads-clause, heads-room, heads-size, heads-next, heads-end}
use native.Mathlib.Omega.{arith}
use Rattle.load.proofs.programs.put_heads.Goals as goal

pub loop-k-init : goal.loop-k-init
loop-k-init c = λ ss cls w. heads-begin ss cls c.args.table.now c.args.q c.args.clauses c.args.code.now w

pub overflow_mul-k : goal.overflow_mul-k
overflow_mul-k c = omega (arith, (heads-room c.args.table.now c.loop-k.at c.loop-k.node c.args.clauses c.loop-k.code c.loop-k.k (omega arith) c.requires.0 _ (c.loop-k.invariant c.requires.0 c.requires.1.0 c.requires.1.1)).0)

pub put-requires : goal.put-requires
put-requires c = ((heads-room c.args.table.now c.loop-k.at c.loop-k.node c.args.clauses c.loop-k.code c.loop-k.k (omega arith) c.requires.0 _ (c.loop-k.invariant c.requires.0 c.requires.1.0 c.requires.1.1)).1.0, omega (arith, (heads-room c.args.table.now c.loop-k.at c.loop-k.node c.args.clauses c.loop-k.code c.loop-k.k (omega arith) c.requires.0 _ (c.loop-k.invariant c.requires.0 c.requires.1.0 c.requires.1.1)).1.1))

pub clause_nodes-node-requires : goal.clause_nodes-node-requires
clause_nodes-node-requires c = heads-clause c.args.table.now c.loop-k.at c.loop-k.node c.args.clauses c.loop-k.code c.loop-k.k (omega arith) c.requires.0 _ (c.loop-k.invariant c.requires.0 c.requires.1.0 c.requires.1.1)

pub past_clause-at-requires : goal.past_clause-at-requires
past_clause-at-requires c = heads-clause c.args.table.now c.loop-k.at c.loop-k.node c.args.clauses c.loop-k.code c.loop-k.k (omega arith) c.requires.0 _ (c.loop-k.invariant c.requires.0 c.requires.1.0 c.requires.1.1)

pub overflow_add-node : goal.overflow_add-node
overflow_add-node c = omega (arith, heads-size c.args.table.now c.loop-k.at c.loop-k.node c.args.clauses c.loop-k.code c.loop-k.k (omega arith) c.clause_nodes-node.result c.clause_nodes-node.ensures c.requires.0 _ (c.loop-k.invariant c.requires.0 c.requires.1.0 c.requires.1.1))

pub loop-k-preserved : goal.loop-k-preserved
loop-k-preserved c = λ ss cls w. heads-next c.args.table.now c.loop-k.at c.loop-k.node c.args.clauses c.loop-k.code c.loop-k.k (omega arith) c.clause_nodes-node.result c.clause_nodes-node.ensures _ c.put.ensures c.past_clause-at.result c.past_clause-at.ensures ss _ (c.loop-k.invariant ss cls w)

pub returns : goal.returns
returns c = λ ss cls w. heads-end ss _ c.args.table.now c.loop-k.at c.loop-k.node c.args.clauses c.loop-k.code c.loop-k.k (omega arith) (c.loop-k.invariant ss cls w)

-- behind the last clause
pub returns-2 : goal.returns-2
returns-2 c = λ ss cls w. heads-end ss _ _ _ _ _ _ _ (omega arith)
    (heads-next c.args.table.now c.loop-k.at c.loop-k.node c.args.clauses c.loop-k.code c.loop-k.k (omega arith) c.clause_nodes-node.result c.clause_nodes-node.ensures _ c.put.ensures c.past_clause-at.result c.past_clause-at.ensures ss _ (c.loop-k.invariant ss cls w))
