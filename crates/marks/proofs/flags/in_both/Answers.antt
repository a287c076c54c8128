use mathlib.Core.Bool.{Bool, false, ◌&&◌}
use mathlib.Core.Path.{sym, ap, ◌∙◌}
use lib.ListN.{get_or}
use Rattle.marks.proofs.FlagsLaws.{halfway-starts, halfway-on, halfway-ends}
use borrow.Author.Rules.{rules}
use Rattle.marks.proofs.flags.in_both.Goals as goal
use Rattle.marks.proofs.flags.in_both.Goals.{then-left-i, else-left-i}

pub loop-i-init : goal.loop-i-init
loop-i-init c = halfway-starts (search rules) (search rules)

pub loop-i-preserved : goal.loop-i-preserved
loop-i-preserved c = let right = get_or c.args.right c.loop-i.i false in
    halfway-on c.loop-i-test.true
    (elim c.if-left-i.branch [
      | then-left-i w ↦ w.both-is ∙ sym (ap (λ (l : Bool). l && right) w.if-left-i.true)
      | else-left-i w ↦ w.both-is ∙ w.if-left-i.false ∙ sym (ap (λ (l : Bool). l && right) w.if-left-i.false)
    ])
    c.loop-i.invariant

pub returns : goal.returns
returns c = halfway-ends c.loop-i-test.false c.loop-i.invariant
