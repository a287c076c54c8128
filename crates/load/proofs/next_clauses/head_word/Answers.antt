-- `load::next_clauses::head_word` meets its contract. Assumes nothing.

use Rattle.load.proofs.next_clauses.head_word.Goals as goal

pub returns : goal.returns
returns c = cc
