use mathlib.Core.Path.{refl}
use mathlib.Core.Logic.{inl, inr}
use Rattle.unify.proofs.CycleLaws.{test-none, test-false, test-true}
use Rattle.unify.proofs.cycles.is_cyclic.Goals as goal

pub returns-then-pending-eq0 : goal.returns-then-pending-eq0
returns-then-pending-eq0 c = λ g. test-none g c.if-pending-eq0.true

pub returns-in-NoCycle : goal.returns-in-NoCycle
returns-in-NoCycle c = λ g. test-false (c.find_cycle.ensures g) c.in-NoCycle.is

pub returns-in-Cycle : goal.returns-in-Cycle
returns-in-Cycle c = λ g. test-true (c.find_cycle.ensures g) c.in-Cycle.is
