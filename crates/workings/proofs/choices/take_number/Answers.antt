use Rattle.workings.proofs.DueLaws.{due-room, due-inside, not-a-call, number-zero, number-past, path-long, clause-takable, clause-made, misfit}
use Rattle.workings.proofs.choices.take_number.Goals as goal

pub top_at-s-requires : goal.top_at-s-requires
top_at-s-requires c = due-room c.requires

pub word_at-requires : goal.word_at-requires
word_at-requires c = due-inside c.requires c.top_at-s.ensures

pub returns-then-word_at-ne-CALL_KIND : goal.returns-then-word_at-ne-CALL_KIND
returns-then-word_at-ne-CALL_KIND c = λ w. misfit w _ _ _ (not-a-call w c.top_at-s.ensures c.word_at.ensures c.if-word_at-ne-CALL_KIND.true c.args.number)

pub returns-then-number-eq0 : goal.returns-then-number-eq0
returns-then-number-eq0 c = λ w. misfit w _ _ _ (number-zero w c.top_at-s.ensures c.word_at.ensures c.if-word_at-ne-CALL_KIND.false c.args.number c.if-number-eq0.true)

pub returns-then-clauses-number : goal.returns-then-clauses-number
returns-then-clauses-number c = λ w. misfit w _ _ _ (number-past w c.top_at-s.ensures c.word_at.ensures c.if-word_at-ne-CALL_KIND.false c.args.number c.if-clauses-number.true)

pub returns-then-s-ge-LONGEST_PATH : goal.returns-then-s-ge-LONGEST_PATH
returns-then-s-ge-LONGEST_PATH c = λ w. misfit w _ _ _ (path-long w c.top_at-s.ensures c.word_at.ensures c.if-word_at-ne-CALL_KIND.false c.args.number c.if-s-ge-LONGEST_PATH.true)

pub take_clause-requires : goal.take_clause-requires
take_clause-requires c = clause-takable c.requires c.top_at-s.ensures c.word_at.ensures c.if-word_at-ne-CALL_KIND.false c.args.number c.if-number-eq0.false c.if-clauses-number.false c.if-s-ge-LONGEST_PATH.false

pub returns : goal.returns
returns c = λ w. clause-made w c.top_at-s.ensures c.word_at.ensures c.if-word_at-ne-CALL_KIND.false c.args.number c.if-number-eq0.false c.if-clauses-number.false c.if-s-ge-LONGEST_PATH.false _ _ _ c.take_clause.ensures
