use Rattle.pilvaust.proofs.GoalLaws.{part-programmed}
use Rattle.pilvaust.proofs.WorkingsLaws.{part-told}
use Rattle.pilvaust.proofs.replaying.check_goal_workings.Goals as goal

pub load_and_check-requires : goal.load_and_check-requires
load_and_check-requires c = part-programmed c.requires.programmed

pub returns : goal.returns
returns c = part-told _ _ _ _ c.load_and_check.ensures
