-- `run_layout::half_of` meets its contract: each way out is a law of `Halves`. Assumes nothing.
use Rattle.run_layout.proofs.Halves.{half-low, half_high}
use Rattle.run_layout.proofs.half_of.Goals as goal

pub returns-then-h-eq0 : goal.returns-then-h-eq0
returns-then-h-eq0 c = half-low c.args.h c.args.w c.if-h-eq0.true

pub returns : goal.returns
returns c = half_high c.args.h c.args.w c.if-h-eq0.false
