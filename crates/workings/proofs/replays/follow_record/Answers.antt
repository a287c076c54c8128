use Rattle.workings.proofs.FollowLaws.{choice-due, no-record, not-fitting, followed}
use Rattle.workings.proofs.replays.follow_record.Goals as goal

pub make_choice-requires : goal.make_choice-requires
make_choice-requires c = choice-due c.requires

pub returns-in_default : goal.returns-in_default
returns-in_default c = λ w. no-record w c.record_at.ensures c.in_default.is _ _

pub returns-in_default-make_choice : goal.returns-in_default-make_choice
returns-in_default-make_choice c = λ w. not-fitting w c.record_at.ensures c.in-Some.choice c.in-Some.is _ _ _ c.make_choice.ensures c.in_default-make_choice.is

pub returns : goal.returns
returns c = λ w. followed w c.record_at.ensures c.in-Some.choice c.in-Some.is _ _ _ c.make_choice.ensures c.in-Some-make_choice.pile c.in-Some-make_choice.is c.record_bytes.ensures
