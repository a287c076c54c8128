-- `marks::clauses::clause_faults::clauses_fault` meets its contract. The invariant: what is left of the clauses gives the answer of the whole (`Ahead`). Assumes nothing.
use Rattle.mode_rules.specs.Modes.{clauses_fault}
use Rattle.marks.specs.InTables.{DeclarationsIn}
use Rattle.marks.specs.Tables.{ClausesAt}
use Rattle.marks.proofs.UndeclaredClauses.{Ahead}
use Rattle.marks.proofs.clauses.clause_faults.clauses_fault.Given as goal

abbrev pub invariant-loop-i : goal.invariant-loop-i
invariant-loop-i l =
    (d : DeclarationsIn l.declarations) (w : ClausesAt l.declarations.text.now l.table 0 l.clauses) → Ahead l.declarations.text.now l.table l.at l.i l.clauses (clauses_fault d.list 1 w.list) (clauses_fault d.list)
