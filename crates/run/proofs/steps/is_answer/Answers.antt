use Rattle.run.proofs.StepLaws.{answer-none, run_room, run_inside, answer-end}
use Rattle.run.proofs.steps.is_answer.Goals as goal

pub returns-then-pile-eq0 : goal.returns-then-pile-eq0
returns-then-pile-eq0 c = λ nodes w. answer-none w c.if-pile-eq0.true

pub top_at-s-requires : goal.top_at-s-requires
top_at-s-requires c = run_room c.requires.1 c.if-pile-eq0.false

pub word_at-requires : goal.word_at-requires
word_at-requires c = run_inside c.requires.1 c.if-pile-eq0.false c.top_at-s.ensures

pub returns : goal.returns
returns c = λ nodes w. answer-end w c.if-pile-eq0.false c.top_at-s.ensures c.word_at.ensures
