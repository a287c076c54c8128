-- As many as there are, and no more than there is room for. Assumes nothing.
use mathlib.Core.Path.{◌∙◌}
use Rattle.output.proofs.ListingsLaws.{listed-accepted, listed-refused}
use Rattle.output.proofs.listings.listed.Goals as goal

pub returns-in-Ok : goal.returns-in-Ok
returns-in-Ok c = c.min.ensures ∙ listed-accepted c.args.verdict c.in-Ok.counts c.args.room c.in-Ok.is

pub returns-in-Err : goal.returns-in-Err
returns-in-Err c = listed-refused c.args.verdict c.in-Err.field-0 c.args.room c.in-Err.is
