-- `pilvaust::running::check_goal_and_run` meets its contract: the part that it hands on is the words of the goal's variables. Assumes nothing.
use Rattle.pilvaust.proofs.GoalLaws.{part-programmed, part-runs}
use Rattle.pilvaust.proofs.running.check_goal_and_run.Goals as goal

pub load_and_run-requires : goal.load_and_run-requires
load_and_run-requires c = part-programmed c.requires.programmed

pub returns : goal.returns
returns c = part-runs c.load_and_run.ensures
