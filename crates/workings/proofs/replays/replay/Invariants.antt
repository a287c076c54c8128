use Rattle.workings.proofs.LoopLaws.{Going}
use Rattle.workings.proofs.replays.replay.Given as goal

abbrev pub invariant-loop-next : goal.invariant-loop-next
invariant-loop-next l = Going l.program.nodes.now l.program.code.now l.clauses l.workings l.fn.state l.fn.scratch l.state l.scratch l.left l.at

abbrev pub decreases-loop-next : goal.decreases-loop-next
decreases-loop-next l = l.left
