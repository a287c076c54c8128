use Rattle.std.proofs.Common.{◌∙◌, refl}
use Rattle.mode_rules.specs.Checking.{verdict_with}
use Rattle.pilvaust.proofs.entries.check_entries.Goals as goal

pub returns : goal.returns
unfolding verdict_with
returns c =
    let found = c.check_listing.ensures in
    (c.fill.ensures.0 ∙ found.is, c.fill.ensures.1 ∙ found.fills c.args.entries.now refl)
