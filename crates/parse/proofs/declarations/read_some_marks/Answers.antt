-- `parse::declarations::read_some_marks` meets its contract: each way out is a law of `MarkLaws`. Assumes nothing.
use Rattle.parse.proofs.Starts.{kind-eq, kind-not_eq}
use Rattle.parse.proofs.MarkLaws.{some-open, some-none}
use Rattle.parse.proofs.declarations.read_some_marks.Goals as goal

pub returns-then-eq : goal.returns-then-eq
returns-then-eq c = some-open _ _ _ _ (kind-eq c.if-eq.ensures) c.next-inner.ensures c.read_marks.ensures

pub returns : goal.returns
returns c = some-none _ _ c.requires (kind-not_eq c.if-eq.ensures)
