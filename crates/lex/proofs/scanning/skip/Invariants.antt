-- `lex::scanning::skip` meets its contract: the scanner's place and what is still to be skipped from there on make up the token's place.
use Rattle.std.proofs.Common.{◌≤◌, ◌<◌, ◌+◌, ◌-◌, length}
use Rattle.syntax.specs.Tokens.{outside, in_comment}
use Rattle.lex.proofs.ScanningLaws.{Ahead}
use Rattle.lex.proofs.scanning.skip.Given as goal

abbrev pub invariant-comment : goal.invariant-comment
invariant-comment l = (l.initial.at ≤ l.at) × (l.at < length l.s) × Ahead in_comment l.s l.from (l.at + 1)

abbrev pub decreases-comment : goal.decreases-comment
decreases-comment l = length l.s - l.at

abbrev pub invariant-token : goal.invariant-token
invariant-token l = (l.at ≤ length l.s) × Ahead outside l.s l.from l.at

abbrev pub decreases-token : goal.decreases-token
decreases-token l = length l.s - l.at
