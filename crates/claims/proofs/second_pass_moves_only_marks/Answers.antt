use Rattle.mode_theorems.proofs.Later.{verdict-moved, goal-verdict-moved, accepted-still, goal-accepted-still, others-stay, goal-others-stay}
use Rattle.claims.proofs.second_pass_moves_only_marks.Goals as goal

pub returns-clause-moved : goal.returns-clause-moved
returns-clause-moved c = verdict-moved

pub returns-clause-goal_moved : goal.returns-clause-goal_moved
returns-clause-goal_moved c = goal-verdict-moved

pub returns-clause-accepted : goal.returns-clause-accepted
returns-clause-accepted c = accepted-still

pub returns-clause-goal_accepted : goal.returns-clause-goal_accepted
returns-clause-goal_accepted c = goal-accepted-still

pub returns-clause-others : goal.returns-clause-others
returns-clause-others c = others-stay

pub returns-clause-goal_others : goal.returns-clause-goal_others
returns-clause-goal_others c = goal-others-stay
