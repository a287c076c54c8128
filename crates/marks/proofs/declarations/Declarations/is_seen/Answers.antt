-- `marks::declarations::Declarations::is_seen` meets its contract: each way out is a law of `SheetsLaws`. Assumes nothing.
use mathlib.Core.Path.{◌∙◌}
use borrow.Author.Tests.{ne_eqb}
use Rattle.words.proofs.TextsLaws.{same_pointwise}
use Rattle.marks.proofs.SheetsLaws.{inside, other-arguments, by_bytes}
use Rattle.marks.proofs.declarations.Declarations.is_seen.Goals as goal

pub name_of-name-requires : goal.name_of-name-requires
name_of-name-requires c = c.requires

pub name_bytes-requires : goal.name_bytes-requires
name_bytes-requires c = inside c.args.self.stands c.requires c.name_of-name.ensures

pub returns-else-name-eq-SEEN_ARGUMENTS : goal.returns-else-name-eq-SEEN_ARGUMENTS
returns-else-name-eq-SEEN_ARGUMENTS c = λ d. ne_eqb _ _ c.if-name-eq-SEEN_ARGUMENTS.false ∙ other-arguments d c.requires c.name_of-name.ensures c.if-name-eq-SEEN_ARGUMENTS.false

pub returns-then-name-eq-SEEN_ARGUMENTS : goal.returns-then-name-eq-SEEN_ARGUMENTS
returns-then-name-eq-SEEN_ARGUMENTS c = λ d. c.eq.ensures ∙ same_pointwise _ _ ∙ by_bytes d c.requires c.name_of-name.ensures c.if-name-eq-SEEN_ARGUMENTS.true c.name_bytes.ensures
