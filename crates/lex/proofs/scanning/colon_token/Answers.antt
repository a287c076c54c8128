-- `lex::scanning::colon_token` meets its contract, with and without a dash after the colon.
use Rattle.std.proofs.Common.{rules}
use Rattle.lex.proofs.ScanningLaws.{colon-neck, colon-alone, colon-end}
use Rattle.lex.proofs.scanning.colon_token.Goals as goal

pub returns-in-Some : goal.returns-in-Some
returns-in-Some c = search (colon-neck, rules)

pub returns-in_default : goal.returns-in_default
returns-in_default c = search (colon-alone, rules)

pub returns-in_default-2 : goal.returns-in_default-2
returns-in_default-2 c = search (colon-end, rules)
