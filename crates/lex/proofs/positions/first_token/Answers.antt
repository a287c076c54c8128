-- `lex::positions::first_token` meets its contract: past the end of the text there is only its end.
use Rattle.lex.proofs.PositionsLaws.{token-past}
use borrow.Author.Rules.{rules}
use Rattle.lex.proofs.positions.first_token.Goals as goal

pub returns-then-text-at : goal.returns-then-text-at
returns-then-text-at c = search (token-past, rules)
