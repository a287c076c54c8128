use Prim.Native.Nat.{◌≤◌}
use Rattle.answers.proofs.ValueLaws.{AllFrom}
use Rattle.answers.proofs.values.all_anonymous.Given as goal

abbrev pub invariant-loop-i : goal.invariant-loop-i
invariant-loop-i l =
    (l.i ≤ l.count) × AllFrom l.goal l.names l.count l.i
