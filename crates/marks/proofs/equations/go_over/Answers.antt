use native.Mathlib.Omega.{arith}
use Rattle.marks.proofs.Passing.{going-starts, going-ends, going-adds, going_on}
use borrow.Author.Rules.{rules}
use Rattle.marks.proofs.equations.go_over.Goals as goal

pub loop-after-init : goal.loop-after-init
loop-after-init c = going-starts (search rules)

pub returns-then-not-further : goal.returns-then-not-further
returns-then-not-further c = going-ends c.loop-after.invariant c.equate-after.ensures c.further.ensures c.if-not-further.true

pub loop-after-smaller : goal.loop-after-smaller
loop-after-smaller c = omega (arith, going-adds c.loop-after.invariant c.equate-after.ensures c.further.ensures c.requires c.if-not-further.false)

pub loop-after-preserved : goal.loop-after-preserved
loop-after-preserved c = going_on c.loop-after.invariant c.equate-after.ensures c.further.ensures c.requires
