use Rattle.machine_theorems.proofs.Earlier.{exactly-those}
use Rattle.claims.proofs.done_comes_before_wanted.Goals as goal

pub returns : goal.returns
returns c = exactly-those
