use Rattle.machine_theorems.proofs.MoreSteps.{same-beginning-answers, same-beginning-untraced}
use Rattle.claims.proofs.more_steps_same_beginning.Goals as goal

pub returns-clause-traced : goal.returns-clause-traced
returns-clause-traced c = same-beginning-answers

pub returns-clause-untraced : goal.returns-clause-untraced
returns-clause-untraced c = same-beginning-untraced
