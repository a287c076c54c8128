use Rattle.machine_theorems.proofs.EveryRun.{run_spec, run-begins, tally-pile}
use Rattle.machine_theorems.proofs.Turns.{more-steps}
use Rattle.claims.proofs.run_is_the_step_repeated.Goals as goal

pub returns-clause-ends : goal.returns-clause-ends
returns-clause-ends c = run_spec

pub returns-clause-begins : goal.returns-clause-begins
returns-clause-begins c = run-begins

pub returns-clause-tallied : goal.returns-clause-tallied
returns-clause-tallied c = tally-pile

pub returns-clause-turns : goal.returns-clause-turns
returns-clause-turns c = more-steps
