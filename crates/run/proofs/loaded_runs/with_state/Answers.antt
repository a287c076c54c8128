use Rattle.run.proofs.ProgramLaws.{runnable, linked_runs}
use Rattle.run.proofs.loaded_runs.with_state.Goals as goal

pub run-requires : goal.run-requires
run-requires c = runnable c.requires.0 c.cleared-state.ensures c.requires.1

pub returns : goal.returns
returns c = λ w. linked_runs w c.cleared-state.ensures c.requires.1 c.run.ensures.gives
