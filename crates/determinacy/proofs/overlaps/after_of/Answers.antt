-- `determinacy::overlaps::after_of` meets its contract. Assumes nothing.
use mathlib.Core.Path.{ap, ◌∙◌}
use Rattle.determinacy.specs.Overlaps.{some_number}
use Rattle.determinacy.proofs.OverlapLaws.{after-none, after-some}
use Rattle.determinacy.proofs.overlaps.after_of.Goals as goal

pub returns-then-after-eq0 : goal.returns-then-after-eq0
returns-then-after-eq0 c = after-none c.word_at-after.result c.if-after-eq0.true ∙ ap some_number c.word_at-after.ensures

pub returns : goal.returns
returns c = after-some c.word_at-after.result c.if-after-eq0.false ∙ ap some_number c.word_at-after.ensures
