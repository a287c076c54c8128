use native.Mathlib.Omega.{arith}
use Rattle.run.proofs.RunLaws.{go-stored, go-runs, go-leaves}
use Rattle.run.proofs.whole_runs.run.Goals as goal

pub undo-requires : goal.undo-requires
undo-requires c = record { stored = go-stored c.args.allowance c.args.wanted c.requires c.run_to_end-last.ensures; mark_le_n = omega arith }

pub returns : goal.returns
returns c = record { gives = λ w. go-runs c.args.allowance c.args.wanted w c.run_to_end-last.ensures; leaves = go-leaves c.args.allowance c.args.wanted c.requires c.run_to_end-last.ensures c.undo.ensures }
