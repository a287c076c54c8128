-- `bindings::memos::number_in` meets its contract. Assumes nothing.
use Rattle.bindings.proofs.Remembering.{number-of-half}
use Rattle.bindings.proofs.memos.number_in.Goals as goal

pub returns : goal.returns
returns c = let args = c.args in number-of-half args.scratch.now args.k args.v c.word_at-w.result c.half_of.result c.word_at-w.ensures c.half_of.ensures
