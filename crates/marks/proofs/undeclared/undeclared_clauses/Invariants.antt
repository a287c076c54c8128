-- `marks::undeclared::undeclared_clauses` meets its contract. The invariant: what is left of the clauses gives the answer of the whole (`Ahead`). Assumes nothing.
use Rattle.mode_rules.specs.Modes.{undeclared_clauses}
use Rattle.marks.specs.InTables.{DeclarationsIn}
use Rattle.marks.specs.Tables.{ClausesAt}
use Rattle.marks.proofs.UndeclaredClauses.{Ahead}
use Rattle.marks.proofs.undeclared.undeclared_clauses.Given as goal

abbrev pub invariant-loop-i : goal.invariant-loop-i
invariant-loop-i l =
    (d : DeclarationsIn l.declarations) (w : ClausesAt l.declarations.text.now l.table 0 l.clauses) → Ahead l.declarations.text.now l.table l.at l.i l.clauses (undeclared_clauses d.list 1 w.list) (undeclared_clauses d.list)
