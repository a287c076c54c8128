use Rattle.claims.proofs.Printing.{runner-prints}
use Rattle.claims.proofs.runner_prints_what_rules_says.Goals as goal

pub returns : goal.returns
returns c = runner-prints
