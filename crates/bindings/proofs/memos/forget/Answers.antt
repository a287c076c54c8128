use native.Mathlib.Omega.{arith}
use lib.ListN.{length-set}
use Rattle.bindings.proofs.memos.forget.Goals as goal

pub bounds-scratch-268288 : goal.bounds-scratch-268288
bounds-scratch-268288 c = simp length-set (omega arith)
