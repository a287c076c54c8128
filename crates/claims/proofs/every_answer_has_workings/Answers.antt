use Rattle.derivations.proofs.Runs.{run-has-workings}
use Rattle.claims.proofs.every_answer_has_workings.Goals as goal

pub returns : goal.returns
returns c = run-has-workings
