use Rattle.run.proofs.alternatives.records.top_at.Goals as goal

pub returns : goal.returns
returns c = λ k. record { copy = c.word_at-copy.ensures k; literal = c.word_at-literal.ensures k; next = c.word_at-next.ensures k; mark = c.word_at-mark.ensures k; path = c.word_at-path.ensures k }
