-- `run_layout::with_half` meets its contract: each way out is a law of `Halves`. Assumes nothing.
use Rattle.run_layout.proofs.Halves.{stored_low, stored-high}
use Rattle.run_layout.proofs.with_half.Goals as goal

pub returns-then-h-eq0 : goal.returns-then-h-eq0
returns-then-h-eq0 c = let args = c.args in stored_low args.h args.w args.i c.if-h-eq0.true

pub returns : goal.returns
returns c = let args = c.args in stored-high args.h args.w args.i c.if-h-eq0.false
