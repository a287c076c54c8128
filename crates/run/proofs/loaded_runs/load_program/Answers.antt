use Rattle.run.proofs.ProgramLaws.{loads, links, linked_tables}
use Rattle.run.proofs.loaded_runs.load_program.Goals as goal

pub load_nodes-requires : goal.load_nodes-requires
load_nodes-requires c = loads c.requires.tables c.requires.room

pub link-requires : goal.link-requires
link-requires c = links c.requires.tables c.requires.room c.load_nodes.auto.nodes c.load_nodes.ensures

pub returns : goal.returns
returns c = λ w. linked_tables w c.requires.room c.load_nodes.auto.nodes c.load_nodes.ensures c.link.ensures
