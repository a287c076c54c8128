-- `load::records::nodes_of` meets its contract. Assumes nothing.
use Rattle.load.proofs.RecordsSizes.{nodes-of-is}
use Rattle.load.proofs.records.nodes_of.Goals as goal

pub returns : goal.returns
returns c = nodes-of-is c.args.words c.args.others
