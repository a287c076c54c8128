use Rattle.derivations.proofs.Outcomes.{outcome-right}
use Rattle.claims.proofs.outcomes_are_right.Goals as goal

pub returns : goal.returns
returns c = outcome-right
