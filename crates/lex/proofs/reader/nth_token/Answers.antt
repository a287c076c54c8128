use Rattle.std.proofs.Common.{rules}
use Rattle.lex.specs.Nth.{nth_token}
use Rattle.lex.proofs.reader.nth_token.Goals as goal

pub returns : goal.returns
unfolding nth_token
returns c = search rules
