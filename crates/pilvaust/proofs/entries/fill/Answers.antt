use Rattle.std.proofs.Common.{ℕ, ◌+◌, ◌≡◌, List, sym, ap, add-one, arith, rules}
use Rattle.std.proofs.Math.ListN.{set}
use Rattle.syntax.specs.declared.Entry.{Entry}
use Rattle.output.specs.Listings.{pasted}
use Rattle.words.specs.Tables.{entry_from}
use Rattle.pilvaust.proofs.entries.fill.Goals as goal

-- one more entry stored
pasted-more : (f : ℕ → Entry) (i : ℕ) (es : List Entry) → set (pasted f i es) i (f i) ≡ pasted f (i + 1) es
unfolding pasted
pasted-more f i es = ap (λ (k : ℕ). pasted f k es) (sym (add-one i))

pub loop-i-init : goal.loop-i-init
unfolding pasted
loop-i-init c = search rules

pub loop-i-preserved : goal.loop-i-preserved
loop-i-preserved c =
    let stored = pasted-more (entry_from c.args.found.words) c.loop-i.i c.args.entries.now in
    (cc, omega arith)
