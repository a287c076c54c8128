use Rattle.run.proofs.StepLaws.{step_room, step-stored, step-mark, step-steppable, step_end}
use Rattle.run.proofs.steps.step.Goals as goal

pub top_at-s-requires : goal.top_at-s-requires
top_at-s-requires c = step_room c.requires

pub undo-requires : goal.undo-requires
undo-requires c = record { stored = step-stored c.requires c.top_at-s.ensures; mark_le_n = step-mark c.requires c.top_at-s.ensures }

pub work-requires : goal.work-requires
work-requires c = step-steppable c.requires c.top_at-s.ensures c.undo.ensures

pub returns : goal.returns
returns c = λ w. step_end w c.top_at-s.ensures c.undo.ensures c.work.new.state c.work.new.scratch c.work.result c.work.ensures
