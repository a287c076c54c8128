use Rattle.run.proofs.StepLaws.{start-layable, start-end}
use Rattle.run.proofs.steps.start.Goals as goal

pub lay-requires : goal.lay-requires
lay-requires c = start-layable c.requires.1 c.word_at-first.ensures

pub returns : goal.returns
returns c = λ nodes w. start-end w c.word_at-first.ensures c.lay.new.state c.lay.ensures
