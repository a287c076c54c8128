use native.Mathlib.Omega.{arith}
use lib.ListN.{length-set}
use Rattle.answers.proofs.records.put_row.Goals as goal

pub bounds-stack-i-2 : goal.bounds-stack-i-2
bounds-stack-i-2 c = simp length-set (omega arith)
