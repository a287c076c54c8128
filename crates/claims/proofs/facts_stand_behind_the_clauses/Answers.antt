use Rattle.machine_theorems.proofs.Traces.{own-clauses, facts-behind, trace_accepted, goal-same, without-trace}
use Rattle.claims.proofs.facts_stand_behind_the_clauses.Goals as goal

pub returns-clause-own : goal.returns-clause-own
returns-clause-own c = own-clauses

pub returns-clause-behind : goal.returns-clause-behind
returns-clause-behind c = facts-behind

pub returns-clause-accepted : goal.returns-clause-accepted
returns-clause-accepted c = trace_accepted

pub returns-clause-goal : goal.returns-clause-goal
returns-clause-goal c = goal-same

pub returns-clause-empty : goal.returns-clause-empty
returns-clause-empty c = without-trace
