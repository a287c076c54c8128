-- `parse::sheets::items::next_clause` meets its contract: each way out is a law of `SheetLaws`. Assumes nothing.
use Rattle.parse.proofs.SheetLaws.{clause-full, clause-one}
use borrow.Author.Rules.{rules}
use Rattle.parse.proofs.sheets.items.next_clause.Goals as goal

pub returns-then-cs-eq-CLAUSES : goal.returns-then-cs-eq-CLAUSES
returns-then-cs-eq-CLAUSES c = search (clause-full, rules)

pub returns : goal.returns
returns c = search (clause-one, rules)
