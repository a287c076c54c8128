use Rattle.mode_theorems.proofs.Written.{mark-turns-only-16}
use Rattle.claims.proofs.mark_turns_only_16.Goals as goal

pub returns : goal.returns
returns c = mark-turns-only-16
