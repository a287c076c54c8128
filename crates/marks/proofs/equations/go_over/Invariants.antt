-- `marks::equations::go_over` meets its contract. The loop's invariant: the rest of the passes leaves the same. The measure: the variables that are unknown.
-- Assumes nothing.
use Prim.Native.Nat.{◌-◌}
use Rattle.syntax.specs.Limits.{variables}
use Rattle.mode_rules.proofs.Passes.{count_known}
use Rattle.marks.proofs.Passing.{Going}
use Rattle.marks.proofs.equations.go_over.Given as goal

abbrev pub invariant-loop-after : goal.invariant-loop-after
invariant-loop-after l =
    Going l.read.text.now l.read.table.now l.p l.q l.initial.flags l.flags

abbrev pub decreases-loop-after : goal.decreases-loop-after
decreases-loop-after l =
    variables - count_known l.flags
