-- `run::settings::is_within` meets its contract. Assumes nothing.
use borrow.Author.Tests.{le-leb, lt-leb}
use lib.Dec.{leb}
use Rattle.run.proofs.SettingsLaws.{first-true, first-false}
use Rattle.run.proofs.settings.is_within.Goals as goal

pub returns-then-n-ge1 : goal.returns-then-n-ge1
returns-then-n-ge1 c = first-true (leb c.args.n c.args.most) (le-leb 1 c.args.n c.if-n-ge1.true)

pub returns-else-n-ge1 : goal.returns-else-n-ge1
returns-else-n-ge1 c = first-false (leb c.args.n c.args.most) (lt-leb 1 c.args.n c.if-n-ge1.false)
