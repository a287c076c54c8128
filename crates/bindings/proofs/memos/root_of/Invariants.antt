use Rattle.run_layout.specs.Regions.{class_count}
use Rattle.std.proofs.Common.{◌<◌}
use Rattle.bindings.specs.Memos.{Reaches}
use Rattle.bindings.proofs.memos.root_of.Given as goal

abbrev pub invariant-loop : goal.invariant-loop
invariant-loop l =
    (l.r < class_count) × Reaches l.scratch l.i l.r
