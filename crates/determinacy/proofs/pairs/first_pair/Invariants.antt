-- `determinacy::pairs::first_pair` meets its contract. The invariant: what is left of the clauses gives the answer of the whole (`Ranging`). Assumes nothing.
use Prim.Native.Nat.{◌≤◌}
use mathlib.Core.Path.{◌≡◌}
use lib.ListN.{length}
use Rattle.determinacy.specs.Tables.{PairsReady}
use Rattle.determinacy.proofs.PairLaws.{Ranging}
use Rattle.determinacy.proofs.pairs.first_pair.Given as goal

abbrev pub invariant-loop-i : goal.invariant-loop-i
invariant-loop-i l =
    (l.i ≤ l.k) × ((length l.state ≡ length l.initial.state) × ((length l.scratch ≡ length l.initial.scratch) × ((w : PairsReady l.declarations l.table l.k l.program l.initial.state l.initial.scratch) → Ranging w l.state l.scratch l.at l.i)))
