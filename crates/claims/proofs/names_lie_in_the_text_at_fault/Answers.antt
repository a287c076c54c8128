use mathlib.Core.List.{[]}
use Rattle.claims.proofs.Names.{check-name, check-goal-name, run-name, traced-name}
use Rattle.claims.proofs.names_lie_in_the_text_at_fault.Goals as goal

pub returns-clause-check : goal.returns-clause-check
returns-clause-check c = λ s. check-name s []

pub returns-clause-goal : goal.returns-clause-goal
returns-clause-goal c = check-goal-name

pub returns-clause-run : goal.returns-clause-run
returns-clause-run c = run-name

pub returns-clause-traced : goal.returns-clause-traced
returns-clause-traced c = λ s g trace asked room. traced-name s g asked room trace
