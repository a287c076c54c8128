use Rattle.run.proofs.ProgramLaws.{limited_of}
use Rattle.workings.proofs.CheckLaws.{linked-over, load-told}
use Rattle.workings.proofs.loaded_checks.load_and_check.Goals as goal

pub load_program-requires : goal.load_program-requires
load_program-requires c = record { tables = limited_of c.requires; room = record { nodes_long = c.cleared-nodes.ensures.long; symbols_long = c.cleared-symbols.ensures.long; code_long = c.cleared-code.ensures.long } }

pub choose_room-requires : goal.choose_room-requires
choose_room-requires c = linked-over _ c.requires c.load_program.ensures

pub returns : goal.returns
returns c = λ w. load-told _ w c.load_program.ensures _ _ _ _ c.choose_room.ensures
