use Prim.Native.Nat.{◌+◌}
use Rattle.run_layout.specs.Regions.{weights}
use Rattle.bindings.proofs.Remembering.{weighed-one}
use native.Mathlib.Omega.{arith}
use Rattle.bindings.proofs.memos.put_weight.Goals as goal

pub returns : goal.returns
returns c = weighed-one c.args.scratch.now (weights + c.args.h) c.sum.result (omega arith) (omega (arith, c.requires.1))
