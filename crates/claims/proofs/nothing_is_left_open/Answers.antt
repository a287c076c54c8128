use Rattle.machine_theorems.proofs.EveryRun.{nothing-open-over-texts, nothing-open-accepted, nothing-open-in-runs}
use Rattle.machine_theorems.proofs.Traces.{nothing-open-traced}
use Rattle.claims.proofs.nothing_is_left_open.Goals as goal

pub returns-clause-steps : goal.returns-clause-steps
returns-clause-steps c = nothing-open-over-texts

pub returns-clause-accepted : goal.returns-clause-accepted
returns-clause-accepted c = nothing-open-accepted

pub returns-clause-runs : goal.returns-clause-runs
returns-clause-runs c = nothing-open-in-runs

pub returns-clause-traced : goal.returns-clause-traced
returns-clause-traced c = nothing-open-traced
