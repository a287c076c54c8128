use Rattle.run.proofs.alternatives.records.caller_at.Goals as goal

pub returns : goal.returns
returns c = λ k. record { copy = c.word_at-copy.ensures k; literal = c.word_at-literal.ensures k }
