use Rattle.run.proofs.RunLaws.{go-startable, go-underway, go-ends}
use native.Mathlib.Omega.{arith}
use Rattle.run.proofs.whole_runs.run_to_end.Goals as goal

pub start-requires : goal.start-requires
start-requires c = go-startable c.requires

pub turn-requires : goal.turn-requires
turn-requires c = record { underway = go-underway c.requires c.start.ensures; k_bound = omega (arith, c.well_formed) }

pub returns : goal.returns
returns c = λ w. go-ends w c.start.ensures c.args.allowance c.args.wanted c.turn.ensures
