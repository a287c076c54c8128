use mathlib.Core.Path.{refl}
use Rattle.run.specs.Words.{next_words}
use Rattle.run.proofs.alternatives.records.put_next.Goals as goal

pub returns : goal.returns
unfolding next_words
returns c = refl
