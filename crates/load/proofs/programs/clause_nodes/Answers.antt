-- `load::programs::clause_nodes` meets its contract. Assumes nothing.
use mathlib.Core.List.{[]}
use Rattle.load.proofs.ClausesSizes.{says}
use Rattle.load.proofs.ProgramsSizes.{clause-marks, clause-size}
use native.Mathlib.Omega.{arith}
use Rattle.load.proofs.programs.clause_nodes.Goals as goal

pub word_at-size-requires : goal.word_at-size-requires
word_at-size-requires c = omega (arith, (says [] c.args.table.now c.args.p c.requires.0 c.requires.1).inside)

pub overflow_add-p : goal.overflow_add-p
overflow_add-p c = omega (arith, (says [] c.args.table.now c.args.p c.requires.0 c.requires.1).inside)

pub word_at-items-requires : goal.word_at-items-requires
word_at-items-requires c = (says [] c.args.table.now c.args.p c.requires.0 c.requires.1).inside

pub overflow_add-items : goal.overflow_add-items
overflow_add-items c = omega (arith, clause-marks c.args.table.now c.args.p c.requires.0 c.requires.1 c.word_at-size.result c.word_at-items.result c.word_at-size.ensures c.word_at-items.ensures)

pub nodes_of-requires : goal.nodes_of-requires
nodes_of-requires c = clause-marks c.args.table.now c.args.p c.requires.0 c.requires.1 c.word_at-size.result c.word_at-items.result c.word_at-size.ensures c.word_at-items.ensures

pub returns : goal.returns
returns c = λ ss cl h. clause-size ss c.args.table.now c.args.p cl h c.word_at-size.result c.word_at-items.result c.word_at-size.ensures c.word_at-items.ensures c.nodes_of.result c.nodes_of.ensures
