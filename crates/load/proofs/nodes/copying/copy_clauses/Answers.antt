use native.Mathlib.Omega.{arith}
use mathlib.Core.Path.{refl, ◌∙◌}
use Rattle.load.proofs.NodesClauses.{clauses-begin, clauses-turn, clauses-end}
use Rattle.load.proofs.nodes.copying.copy_clauses.Goals as goal

pub loop-clause-init : goal.loop-clause-init
loop-clause-init c = (refl, λ w. clauses-begin c.args.table.now c.args.clauses c.args.nodes.now c.args.at c.requires.table_len_bound.1.1 w)

pub copy_clause-q-requires : goal.copy_clause-q-requires
copy_clause-q-requires c = let pre = c.requires in
    let t = clauses-turn (omega arith) (c.loop-clause.invariant.1 pre.clauses_here) in
    record { table_len_bound = (pre.table_len_bound.0, (omega (arith, pre.table_len_bound.1.0, c.loop-clause.invariant.0), t.near)); clause_here = t.clause }

pub past_clause-p-requires : goal.past_clause-p-requires
past_clause-p-requires c = let t = clauses-turn (omega arith) (c.loop-clause.invariant.1 c.requires.clauses_here) in
    (t.clause.clause, t.clause.has)

pub loop-clause-preserved : goal.loop-clause-preserved
loop-clause-preserved c = (
  c.copy_clause-q.auto.nodes ∙ c.loop-clause.invariant.0,
  λ w.
      let t = clauses-turn (omega arith) (c.loop-clause.invariant.1 w) in
      t.on c.past_clause-p.result c.copy_clause-q.new.nodes c.copy_clause-q.result (c.past_clause-p.ensures t.clause.clause t.clause.has) (c.copy_clause-q.ensures t.clause),
)

pub returns : goal.returns
returns c = λ w. clauses-end (omega arith) (c.loop-clause.invariant.1 w)
