use Rattle.run.proofs.WordLaws.{read-call, read-other}
use Rattle.run.proofs.alternatives.laying.topmost.Goals as goal

pub returns-then-word_at-ne-CALL_KIND : goal.returns-then-word_at-ne-CALL_KIND
returns-then-word_at-ne-CALL_KIND c = read-other c.args.code.now c.args.l c.word_at.result c.word_at.ensures c.if-word_at-ne-CALL_KIND.true

pub returns : goal.returns
returns c = read-call c.args.code.now c.args.l c.word_at.result c.word_at-2.result c.word_at.ensures c.if-word_at-ne-CALL_KIND.false c.word_at-2.ensures
