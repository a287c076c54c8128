use mathlib.Core.Path.{refl}
use Rattle.unify.proofs.CycleLaws.{look-room, look-cycle, look-none, look-given}
use Rattle.unify.proofs.solve.look.Goals as goal

pub forget-requires : goal.forget-requires
forget-requires c = look-room c.requires c.find_cycle-found.ensures

pub returns-in-Cycle : goal.returns-in-Cycle
returns-in-Cycle c = λ g. look-cycle g c.find_cycle-found.ensures c.forget.ensures c.in-Cycle.is

pub returns-in-NoCycle : goal.returns-in-NoCycle
returns-in-NoCycle c = λ g. look-none g c.find_cycle-found.ensures c.forget.ensures c.in-NoCycle.is

pub returns-in-GivenUp : goal.returns-in-GivenUp
returns-in-GivenUp c = λ g. look-given g c.find_cycle-found.ensures c.forget.ensures
