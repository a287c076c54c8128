-- `load::items::put_item` meets its contract. Assumes nothing.
use Rattle.load.proofs.ItemsLaws.{record-ready, item-put}
use Rattle.load.proofs.items.put_item.Goals as goal

pub kind_of-kind-requires : goal.kind_of-kind-requires
kind_of-kind-requires c = (c.requires.1.0, c.requires.1.1.has)

pub other_of-other-requires : goal.other_of-other-requires
other_of-other-requires c = c.requires

pub put_record-requires : goal.put_record-requires
put_record-requires c = record-ready c.kind_of-kind.ensures c.other_of-other.ensures c.requires.1.1

pub returns : goal.returns
returns c = item-put c.kind_of-kind.ensures c.other_of-other.ensures c.put_record.ensures
