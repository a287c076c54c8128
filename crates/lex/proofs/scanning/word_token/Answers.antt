-- `lex::scanning::word_token` meets its contract, on either side of the limit of 31 bytes.
use Rattle.std.proofs.Common.{rules}
use Rattle.lex.proofs.ScanningLaws.{word_in, word_over}
use Rattle.lex.proofs.scanning.word_token.Goals as goal

pub returns-then-len-le-WORD_BYTES : goal.returns-then-len-le-WORD_BYTES
returns-then-len-le-WORD_BYTES g c = λ test d. word_in c.args.kind c.args.at _ c.run_end.result (c.run_end.ensures.run test d) (search rules)

pub returns-else-len-le-WORD_BYTES : goal.returns-else-len-le-WORD_BYTES
returns-else-len-le-WORD_BYTES g c = λ test d. word_over c.args.kind c.args.at _ c.run_end.result (c.run_end.ensures.run test d) (search rules)
