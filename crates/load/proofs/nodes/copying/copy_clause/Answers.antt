-- `load::nodes::copying::copy_clause` meets its contract. Assumes nothing.
use native.Mathlib.Omega.{arith}
use Rattle.load.proofs.NodesClauses.{clause-parts}
use Rattle.load.proofs.nodes.copying.copy_clause.Goals as goal

pub overflow_add-p : goal.overflow_add-p
overflow_add-p c = omega (arith, (clause-parts c.requires.clause_here).inside, c.requires.table_len_bound.0)

pub word_at-items-requires : goal.word_at-items-requires
word_at-items-requires c = omega (arith, (clause-parts c.requires.clause_here).inside)

pub overflow_add-head : goal.overflow_add-head
overflow_add-head c = omega (arith, (clause-parts c.requires.clause_here).inside, c.requires.table_len_bound.0)

pub past-body-requires : goal.past-body-requires
past-body-requires c = (clause-parts c.requires.clause_here).fits

pub copy_nodes-q-requires : goal.copy_nodes-q-requires
copy_nodes-q-requires c = record { room = (c.requires.table_len_bound.0, (c.requires.table_len_bound.1.0, omega (arith, c.requires.table_len_bound.1.1))); run_at = (clause-parts c.requires.clause_here).run c.past-body.result c.past-body.ensures }

pub copy_body-requires : goal.copy_body-requires
copy_body-requires c = record { room = (c.requires.table_len_bound.0, (omega (arith, c.requires.table_len_bound.1.0, c.copy_nodes-q.auto.nodes), (clause-parts c.requires.clause_here).near c.past-body.result c.args.at c.copy_nodes-q.result c.past-body.ensures c.requires.table_len_bound.1.1 (c.copy_nodes-q.ensures ((clause-parts c.requires.clause_here).run c.past-body.result c.past-body.ensures)).1)); body_here = (clause-parts c.requires.clause_here).here c.past-body.result c.word_at-items.result c.past-body.ensures c.word_at-items.ensures }

pub returns : goal.returns
returns c = λ w. (clause-parts w).joined c.past-body.result c.word_at-items.result c.args.at c.copy_nodes-q.result c.copy_body.result c.args.nodes.now c.copy_nodes-q.new.nodes c.copy_body.new.nodes c.past-body.ensures c.word_at-items.ensures (c.copy_nodes-q.ensures ((clause-parts w).run c.past-body.result c.past-body.ensures)) (c.copy_body.ensures ((clause-parts w).here c.past-body.result c.word_at-items.result c.past-body.ensures c.word_at-items.ensures))
