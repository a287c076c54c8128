-- `words::tables::past_clause` meets its contract. Assumes nothing.
use native.Mathlib.Omega.{arith}
use Rattle.words.proofs.TablesLaws.{clause-says, past-clause}
use Rattle.words.proofs.tables.past_clause.Goals as goal

pub word_at-size-requires : goal.word_at-size-requires
word_at-size-requires c = omega (arith, (clause-says c.args.table.now c.args.p c.requires.0 c.requires.1).words.inside)

pub overflow_add-result : goal.overflow_add-result
overflow_add-result c = omega (arith, (clause-says c.args.table.now c.args.p c.requires.0 c.requires.1).inside, c.word_at-size.ensures)

pub returns : goal.returns
returns c = past-clause c.args.table.now c.args.p c.word_at-size.result c.word_at-size.ensures
