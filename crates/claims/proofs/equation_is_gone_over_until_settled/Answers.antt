use Rattle.mode_rules.proofs.Passes.{settle-still, settling-derived, settling-unique}
use Rattle.claims.proofs.equation_is_gone_over_until_settled.Goals as goal

pub returns-clause-still : goal.returns-clause-still
returns-clause-still c = settle-still

pub returns-clause-derived : goal.returns-clause-derived
returns-clause-derived c = settling-derived

pub returns-clause-unique : goal.returns-clause-unique
returns-clause-unique c = λ t u τ σ. settling-unique
