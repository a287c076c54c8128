use Rattle.bindings.proofs.Remembering.{begins}
use native.Mathlib.Omega.{arith}
use lib.ListN.{length-set}
use Rattle.bindings.proofs.memos.begin.Goals as goal

pub bounds-scratch-322051 : goal.bounds-scratch-322051
bounds-scratch-322051 c = simp length-set (omega arith)

pub bounds-scratch-268289 : goal.bounds-scratch-268289
bounds-scratch-268289 c = simp length-set (omega arith)

pub returns : goal.returns
returns c = begins c.args.scratch.now c.args.k c.args.limit c.requires.0 c.requires.1.0
