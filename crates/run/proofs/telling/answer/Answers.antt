use Rattle.run.proofs.AnswerLaws.{answer-rewinds, answer-tells, answer-room, answer-full, answer-steps, answer-on}
use Rattle.run.proofs.telling.answer.Goals as goal

pub rewind-trail-requires : goal.rewind-trail-requires
rewind-trail-requires c = answer-rewinds c.requires

pub tell-requires : goal.tell-requires
tell-requires c =
    record {
      some_answerable = answer-tells c.requires _ c.rewind-trail.ensures;
      at_in_bounds = answer-room c.requires c.rewind-trail.ensures;
      clean = c.requires.under.lent.clean;
    }

pub returns-in_default : goal.returns-in_default
returns-in_default c =
    let told = c.tell.ensures in
    λ w. answer-full w _ c.rewind-trail.ensures told.fitted c.tell.auto.scratch told.clean c.in_default.is

pub step-p-requires : goal.step-p-requires
step-p-requires c = answer-steps c.requires c.rewind-trail.ensures c.tell.auto.scratch c.tell.ensures.clean

pub returns : goal.returns
returns c =
    let told = c.tell.ensures in
    let stepped = c.step-p in
    λ w. answer-on w _ c.rewind-trail.ensures told.fitted c.tell.auto.scratch told.clean c.in-Some.is _ _ stepped.result stepped.ensures
