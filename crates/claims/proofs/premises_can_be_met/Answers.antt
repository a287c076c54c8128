use Rattle.machine_theorems.proofs.SafetyWitness.{example as run-example}
use Rattle.machine_theorems.proofs.DeterminacyWitness.{example as line-example}
use Rattle.claims.proofs.premises_can_be_met.Goals as goal

pub returns-clause-run : goal.returns-clause-run
returns-clause-run c = run-example

pub returns-clause-line : goal.returns-clause-line
returns-clause-line c = line-example
