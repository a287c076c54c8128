-- `load::nodes::copying::copy_nodes` meets its contract. The invariant: what is left of the run gives the whole (`Running`). Assumes nothing.
use mathlib.Core.Path.{◌≡◌}
use lib.ListN.{length}
use Rattle.load.specs.Flat.{number_of, flat_words, flat_all, RunAt}
use Rattle.load.proofs.Runs.{Running}
use Rattle.load.proofs.nodes.copying.copy_nodes.Given as goal

abbrev pub invariant-loop-p : goal.invariant-loop-p
invariant-loop-p l =
    (length l.nodes ≡ length l.initial.nodes) × ((w : RunAt l.table l.from l.stop) → Running l.table l.stop (number_of l.source) l.initial.nodes l.at (flat_words (flat_all (number_of l.source) w.run)) l.nodes l.p l.q)
