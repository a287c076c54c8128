-- `marks::declarations::Declarations::name_of` meets its contract. Assumes nothing.
use native.Mathlib.Omega.{arith}
use Rattle.marks.proofs.Marking.{declarations-room}
use Rattle.marks.proofs.declarations.Declarations.name_of.Goals as goal

pub entry_at-requires : goal.entry_at-requires
entry_at-requires c = omega (arith, declarations-room c.args.self.stands, c.requires)
