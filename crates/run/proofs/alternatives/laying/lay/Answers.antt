use Rattle.run.proofs.LayLaws.{lay-inside, lay-room, lay-end}
use Rattle.run.proofs.alternatives.laying.lay.Goals as goal

pub topmost-requires : goal.topmost-requires
topmost-requires c = lay-inside c.requires c.first_literal-s.result c.first_literal-s.ensures

pub put_top-requires : goal.put_top-requires
put_top-requires c = lay-room c.requires c.first_literal-s.result c.first_literal-s.ensures c.topmost.result c.topmost.ensures

pub returns : goal.returns
returns c = λ w. lay-end w c.first_literal-s.result c.first_literal-s.ensures c.topmost.result c.topmost.ensures c.put_top.new.state c.put_top.ensures
