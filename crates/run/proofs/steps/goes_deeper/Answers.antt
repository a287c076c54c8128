use Rattle.run.proofs.StepLaws.{deeper-none, run_room, run_inside, deeper-other, deeper-last, deeper-end}
use Rattle.run.proofs.steps.goes_deeper.Goals as goal

pub returns-then-pile-eq0 : goal.returns-then-pile-eq0
returns-then-pile-eq0 c = λ nodes w. deeper-none w c.if-pile-eq0.true

pub top_at-s-requires : goal.top_at-s-requires
top_at-s-requires c = run_room c.requires.1 c.if-pile-eq0.false

pub word_at-requires : goal.word_at-requires
word_at-requires c = run_inside c.requires.1 c.if-pile-eq0.false c.top_at-s.ensures

pub returns-then-word_at-ne-CALL_KIND : goal.returns-then-word_at-ne-CALL_KIND
returns-then-word_at-ne-CALL_KIND c = λ nodes w. deeper-other w c.if-pile-eq0.false c.top_at-s.ensures c.word_at.ensures c.if-word_at-ne-CALL_KIND.true

pub returns-then-s-eq0 : goal.returns-then-s-eq0
returns-then-s-eq0 c = λ nodes w. deeper-last w c.if-pile-eq0.false c.top_at-s.ensures c.word_at.ensures c.if-s-eq0.true

pub returns : goal.returns
returns c = λ nodes w. deeper-end w c.if-pile-eq0.false c.top_at-s.ensures c.word_at.ensures c.if-word_at-ne-CALL_KIND.false c.if-s-eq0.false
