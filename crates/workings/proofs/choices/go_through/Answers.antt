use Rattle.workings.proofs.PassLaws.{pass-steppable, pass-none, pass-some}
use Rattle.workings.proofs.choices.go_through.Goals as goal

pub step-p-requires : goal.step-p-requires
step-p-requires c = pass-steppable c.requires

pub returns-then-p-pile : goal.returns-then-p-pile
returns-then-p-pile c = λ w. pass-none w c.step-p.new.state c.step-p.new.scratch c.step-p.result c.step-p.ensures c.if-p-pile.true

pub returns : goal.returns
returns c = λ w. pass-some w c.step-p.new.state c.step-p.new.scratch c.step-p.result c.step-p.ensures c.if-p-pile.false
