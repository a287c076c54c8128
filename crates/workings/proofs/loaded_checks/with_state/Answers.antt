use Rattle.workings.proofs.CheckLaws.{checkable, state-told}
use Rattle.workings.proofs.loaded_checks.with_state.Goals as goal

pub replay_and_tell-requires : goal.replay_and_tell-requires
replay_and_tell-requires c = checkable c.requires.0 c.cleared-state.ensures c.requires.1

pub returns : goal.returns
returns c = λ w. state-told w c.cleared-state.ensures c.requires.1 _ _ _ c.replay_and_tell.ensures.told
