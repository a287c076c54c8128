-- `load::records::put_pair` meets its contract. Assumes nothing.
use Rattle.load.specs.Records.{put_pair}
use Rattle.load.proofs.records.put_pair.Goals as goal

pub returns : goal.returns
unfolding put_pair
returns c = cc
