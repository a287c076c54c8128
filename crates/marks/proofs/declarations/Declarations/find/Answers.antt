-- `marks::declarations::Declarations::find` meets its contract. Assumes nothing.
use Rattle.marks.proofs.Marking.{declarations-room, place_is}
use borrow.Author.Rules.{rules}
use Rattle.marks.proofs.declarations.Declarations.find.Goals as goal

pub look_among-requires : goal.look_among-requires
look_among-requires c = search (declarations-room, rules)

pub returns : goal.returns
returns c = search (place_is, rules)
