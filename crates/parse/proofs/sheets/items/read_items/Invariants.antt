-- `parse::sheets::items::read_items` meets its contract: each way out is a law of `SheetLaws`. Assumes nothing.
use Prim.Native.Nat.{◌-◌}
use mathlib.Core.Path.{◌≡◌}
use lib.ListN.{length}
use Rattle.parse.specs.Sheets.{Loading}
use Rattle.parse.proofs.sheets.items.read_items.Given as goal

abbrev pub invariant-loop-st : goal.invariant-loop-st
invariant-loop-st l = record {
  loading : Loading l.s l.declared l.table l.read.declarations l.read.clauses l.read.used l.st;
  declared_long : length l.declared ≡ length l.initial.declared;
  table_long : length l.table ≡ length l.initial.table;
}

abbrev pub decreases-loop-st : goal.decreases-loop-st
decreases-loop-st l = length l.s - l.st.token.at
