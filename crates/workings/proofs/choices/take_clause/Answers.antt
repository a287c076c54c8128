use Rattle.workings.proofs.ClauseLaws.{take-tryable, take-none, take-some}
use Rattle.workings.proofs.choices.take_clause.Goals as goal

pub try_clause-p-requires : goal.try_clause-p-requires
try_clause-p-requires c = take-tryable c.requires

pub returns-then-p-height : goal.returns-then-p-height
returns-then-p-height c = λ w. take-none w c.try_clause-p.new.state c.try_clause-p.new.scratch c.try_clause-p.result c.try_clause-p.ensures c.if-p-height.true

pub returns : goal.returns
returns c = λ w. take-some w c.try_clause-p.new.state c.try_clause-p.new.scratch c.try_clause-p.result c.try_clause-p.ensures c.if-p-height.false
