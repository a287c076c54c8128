use Rattle.machine_theorems.proofs.Low.{low-after}
use Rattle.claims.proofs.Piles.{pile-height}
use Rattle.claims.proofs.pile_is_low.Goals as goal

pub returns-clause-below : goal.returns-clause-below
returns-clause-below c = low-after

pub returns-clause-most : goal.returns-clause-most
returns-clause-most c = λ stored sheet goal trace sh g s e. pile-height stored sheet goal sh g s e trace
