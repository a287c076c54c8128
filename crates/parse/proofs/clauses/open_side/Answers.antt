-- `parse::clauses::open_side` meets its contract. Assumes nothing.
use mathlib.Core.Path.{refl}
use Rattle.parse.proofs.SideLaws.{stored}
use borrow.Author.Rules.{rules}
use Rattle.parse.proofs.clauses.open_side.Goals as goal

pub returns : goal.returns
returns c = (refl, search (stored, rules))
