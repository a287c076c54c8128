-- `pilvaust::entries::check_listing` meets its contract: what it returns is a law of `Listings`. Assumes nothing.
use Rattle.pilvaust.proofs.Listings.{check-lists}
use borrow.Author.Rules.{rules}
use Rattle.pilvaust.proofs.entries.check_listing.Goals as goal

pub returns : goal.returns
returns c = check-lists c.args.sheet.now c.read_checked-verdict.new.declared c.read_checked-verdict.new.table (search rules) c.args.room c.read_checked-verdict.result c.listed-count.result c.read_checked-verdict.ensures.is c.read_checked-verdict.ensures.holds c.listed-count.ensures
