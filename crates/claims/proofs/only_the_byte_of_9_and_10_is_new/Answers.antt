use Rattle.mode_theorems.proofs.Earlier.{verdict-earlier, goal-verdict-earlier}
use Rattle.claims.proofs.only_the_byte_of_9_and_10_is_new.Goals as goal

pub returns-clause-sheet : goal.returns-clause-sheet
returns-clause-sheet c = verdict-earlier

pub returns-clause-goal : goal.returns-clause-goal
returns-clause-goal c = goal-verdict-earlier
