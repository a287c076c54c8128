-- `parse::leaves::number_of` meets its contract: each way out is a law of `Reading`. Assumes nothing.
use Prim.Native.Nat.{◌-◌}
use mathlib.Core.Path.{◌≡◌}
use lib.ListN.{length}
use Rattle.syntax.specs.Limits.{variables}
use Rattle.parse.proofs.Reading.{searched}
use Rattle.parse.proofs.leaves.number_of.Given as goal

abbrev pub invariant-loop-i : goal.invariant-loop-i
invariant-loop-i l = record {
  from_is : l.from ≡ length l.table - variables;
  so_far : searched l.s l.st.token l.st.count l.table 0 ≡ searched l.s l.st.token l.st.count l.table l.i;
}
