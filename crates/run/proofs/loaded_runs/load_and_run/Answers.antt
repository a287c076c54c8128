use Rattle.run.proofs.ProgramLaws.{limited_of, linked, program_runs}
use Rattle.run.proofs.loaded_runs.load_and_run.Goals as goal

pub load_program-requires : goal.load_program-requires
load_program-requires c = record { tables = limited_of c.requires; room = record { nodes_long = c.cleared-nodes.ensures.long; symbols_long = c.cleared-symbols.ensures.long; code_long = c.cleared-code.ensures.long } }

pub choose_room-requires : goal.choose_room-requires
choose_room-requires c = linked _ c.requires c.load_program.ensures

pub returns : goal.returns
returns c = λ w. program_runs _ w c.load_program.ensures c.choose_room.ensures
