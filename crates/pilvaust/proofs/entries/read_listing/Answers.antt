-- `pilvaust::entries::read_listing` meets its contract: what it returns is a law of `Listings`. Assumes nothing.
use Rattle.pilvaust.proofs.Listings.{read-lists}
use borrow.Author.Rules.{rules}
use Rattle.pilvaust.proofs.entries.read_listing.Goals as goal

pub returns : goal.returns
returns c = read-lists c.args.sheet.now c.read_text-verdict.new.declared c.read_text-verdict.new.table (search rules) c.args.room c.read_text-verdict.result c.listed-count.result c.read_text-verdict.ensures.is c.read_text-verdict.ensures.holds c.listed-count.ensures
