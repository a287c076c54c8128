use mathlib.Core.Path.{ap}
use Rattle.run.specs.declared.alternatives.records.Top.{Top}
use Rattle.run.proofs.AnswerLaws.{rewind-room, rewind-stored, rewind-low, rewind-ends}
use Rattle.run.proofs.telling.rewind.Goals as goal

pub top_at-s-requires : goal.top_at-s-requires
top_at-s-requires c = rewind-room c.requires

pub undo-requires : goal.undo-requires
undo-requires c = record { stored = rewind-stored c.requires; mark_le_n = rewind-low c.requires (ap (λ (s : Top). s.mark) c.top_at-s.ensures) }

pub returns : goal.returns
returns c = rewind-ends c.requires (ap (λ (s : Top). s.mark) c.top_at-s.ensures) c.undo.ensures
