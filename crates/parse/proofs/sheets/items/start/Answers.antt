-- `parse::sheets::items::start` meets its contract: each way out is a law of `SheetLaws`. Assumes nothing.
use Rattle.parse.proofs.SheetLaws.{started}
use Rattle.parse.proofs.sheets.items.start.Goals as goal

pub returns : goal.returns
returns c = let both = started _ _ c.requires c.token_at.ensures in record { is = both.0; stands = both.1 }
