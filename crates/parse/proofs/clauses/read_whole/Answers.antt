-- `parse::clauses::read_whole` meets its contract. Assumes nothing.
use Rattle.parse.proofs.BodyLaws.{whole-given}
use Rattle.parse.proofs.SideLaws.{no_end}
use borrow.Author.Rules.{rules}
use Rattle.parse.proofs.clauses.read_whole.Goals as goal

pub read_body-requires : goal.read_body-requires
read_body-requires c = record { room_to_read = search rules; fact = no_end.1.1 }

pub returns : goal.returns
returns c = search (whole-given, rules)
