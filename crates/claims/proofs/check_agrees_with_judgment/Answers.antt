use Rattle.mode_theorems.proofs.Agreement.{text-agrees, verdict-agrees, goal-text-agrees, both-agree}
use Rattle.claims.proofs.check_agrees_with_judgment.Goals as goal

pub returns-clause-sheet : goal.returns-clause-sheet
returns-clause-sheet c = text-agrees

pub returns-clause-verdict : goal.returns-clause-verdict
returns-clause-verdict c = verdict-agrees

pub returns-clause-goal : goal.returns-clause-goal
returns-clause-goal c = goal-text-agrees

pub returns-clause-both : goal.returns-clause-both
returns-clause-both c = both-agree
