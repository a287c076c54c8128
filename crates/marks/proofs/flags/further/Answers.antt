-- `marks::flags::further` meets its contract. Assumes nothing.
use mathlib.Core.Path.{◌≡◌}
use mathlib.Core.Bool.{true, false}
use borrow.Author.Rules.{rules}
use borrow.Author.Tests.{tests}
use Rattle.std.proofs.lemmas.Iterator.{YieldsList-from_slice, YieldsList-from_zip, cases_from_any}
use Rattle.marks.proofs.FlagsLaws.{newly, any-further}
use Rattle.marks.proofs.flags.further.Goals as goal

pub returns : goal.returns
returns c = any-further c.args.before c.args.after c.any.result
    (cases_from_any c.any.new.self _ _ (λ x. newly x ≡ true) (λ x. newly x ≡ false) c.any.ensures.ran
    (YieldsList-from_zip (YieldsList-from_slice c.args.before cc) (YieldsList-from_slice c.args.after cc))
    (λ x q k. search (rules, tests)) (λ x q k. search (rules, tests)))
