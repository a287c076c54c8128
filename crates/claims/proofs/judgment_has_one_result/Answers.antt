use Rattle.mode_theorems.proofs.Bodies.{body-unique}
use Rattle.claims.proofs.judgment_has_one_result.Goals as goal

pub returns : goal.returns
returns c = λ ds τ σ ρ b. body-unique
