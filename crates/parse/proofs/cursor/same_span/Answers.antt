-- `parse::cursor::same_span` meets its contract: each way out is a law of `ParseLaws`. Assumes nothing.
use Rattle.parse.proofs.ParseLaws.{span_same, span-other}
use borrow.Author.Rules.{rules}
use Rattle.parse.proofs.cursor.same_span.Goals as goal

pub returns-then-span_length-t : goal.returns-then-span_length-t
returns-then-span_length-t c = search (span_same, rules)

pub returns-else-span_length-t : goal.returns-else-span_length-t
returns-else-span_length-t c = search (span-other, rules)
