-- `determinacy::brackets::bracketed_clause` meets its contract. The invariant: what is left of the clauses gives the answer of the whole. Assumes nothing.
use Prim.Native.Nat.{◌≤◌}
use Rattle.machine.specs.Determinacy.{first_bracketed}
use Rattle.determinacy.specs.Clauses.{ClausesIn}
use Rattle.determinacy.proofs.BracketLaws.{Ahead}
use Rattle.determinacy.proofs.brackets.bracketed_clause.Given as goal

abbrev pub invariant-loop-i : goal.invariant-loop-i
invariant-loop-i l =
    (l.i ≤ l.k) × ((w : ClausesIn l.table l.k) → Ahead l.table l.at l.i l.k (first_bracketed 1 w.list))
