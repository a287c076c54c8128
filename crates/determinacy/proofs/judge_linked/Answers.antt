-- `determinacy::judge_linked` meets its contract. Assumes nothing.
use Rattle.determinacy.proofs.JudgeLaws.{pairable, linked-judged}
use Rattle.determinacy.proofs.judge_linked.Goals as goal

pub first_pair-requires : goal.first_pair-requires
first_pair-requires c = pairable c.cleared-state.ensures c.cleared-scratch.ensures c.requires

pub returns : goal.returns
returns c = λ w. linked-judged c.cleared-state.ensures c.cleared-scratch.ensures c.first_pair.ensures.is w
