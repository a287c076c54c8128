-- `bindings::memos::put_number` meets its contract. Assumes nothing.
use Rattle.bindings.proofs.Remembering.{placed-half}
use Rattle.bindings.proofs.memos.put_number.Goals as goal

pub returns : goal.returns
returns c = let args = c.args in placed-half args.scratch.now args.k args.v args.i c.word_at-w.result c.with_half.result c.word_at-w.ensures c.with_half.ensures
