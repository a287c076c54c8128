use Rattle.std.proofs.Common.{◌∙◌, refl}
use Rattle.syntax.specs.Verdicts.{read_verdict}
use Rattle.pilvaust.proofs.entries.read_entries.Goals as goal

pub returns : goal.returns
unfolding read_verdict
returns c =
    let found = c.read_listing.ensures in
    (c.fill.ensures.0 ∙ found.is, c.fill.ensures.1 ∙ found.fills c.args.entries.now refl)
