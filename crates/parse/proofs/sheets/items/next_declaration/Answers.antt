-- `parse::sheets::items::next_declaration` meets its contract: each way out is a law of `SheetLaws`. Assumes nothing.
use Rattle.parse.proofs.SheetLaws.{declaration-full, declaration-one}
use borrow.Author.Rules.{rules}
use Rattle.parse.proofs.sheets.items.next_declaration.Goals as goal

pub returns-then-ds-eq-DECLARATIONS : goal.returns-then-ds-eq-DECLARATIONS
returns-then-ds-eq-DECLARATIONS c = search (declaration-full, rules)

pub returns : goal.returns
returns c = search (declaration-one, rules)
