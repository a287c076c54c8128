use native.Mathlib.Omega.{arith}
use Rattle.unify.proofs.CycleLaws.{look-begin, look-end, look-stop, look-inside, look-next}
use Rattle.unify.proofs.cycles.next_place.Goals as goal

pub loop-i-init : goal.loop-i-init
loop-i-init c = λ g. look-begin g

pub leads_on-requires : goal.leads_on-requires
leads_on-requires c = (omega (arith, look-inside c.requires (c.loop-i.invariant c.requires) c.loop-i-test.true), (c.requires.copy, (c.requires.long, c.requires.roomy)))

pub returns-then-leads_on : goal.returns-then-leads_on
returns-then-leads_on c = λ g. look-stop g (c.loop-i.invariant g) (c.leads_on.ensures.leads c.if-leads_on.true)

pub loop-i-preserved : goal.loop-i-preserved
loop-i-preserved c = λ g. look-next g (c.loop-i.invariant g) c.loop-i-test.true (c.leads_on.ensures.stays c.if-leads_on.false)

pub loop-i-smaller : goal.loop-i-smaller
loop-i-smaller c = omega (arith, look-inside c.requires (c.loop-i.invariant c.requires) c.loop-i-test.true)

pub overflow_add-i : goal.overflow_add-i
overflow_add-i c = omega (arith, look-inside c.requires (c.loop-i.invariant c.requires) c.loop-i-test.true)

pub returns : goal.returns
returns c = λ g. look-end g (c.loop-i.invariant g) c.loop-i-test.false
