-- `marks::sheets::check_sheet` meets its contract: each way out is a law of `SheetsLaws`. Assumes nothing.
use Rattle.std.proofs.lemmas.Result.{err_from_is_err_and}
use Rattle.marks.proofs.ClausesSheets.{sheet-clauses}
use Rattle.marks.proofs.SheetsLaws.{undeclared-first, unwritten-next, marks-last}
use Rattle.marks.proofs.sheets.check_sheet.Goals as goal

pub undeclared_clauses-requires : goal.undeclared_clauses-requires
undeclared_clauses-requires c = let w = c.requires in sheet-clauses w.stands

pub returns-in_err-undeclared_clauses : goal.returns-in_err-undeclared_clauses
returns-in_err-undeclared_clauses c = let p = err_from_is_err_and c.from_residual.result c.from_residual.ensures.1 in
    rw (p.1, p.2)
    (undeclared-first c.args.stored c.undeclared_clauses.ensures c.in_err-undeclared_clauses.was)

pub returns-in_err-unwritten_fault : goal.returns-in_err-unwritten_fault
returns-in_err-unwritten_fault c = let p = err_from_is_err_and c.from_residual-in_err-unwritten_fault.result c.from_residual-in_err-unwritten_fault.ensures.1 in
    rw (p.1, p.2)
    (unwritten-next c.args.stored c.undeclared_clauses.ensures c.in_ok-undeclared_clauses.was c.unwritten_fault.ensures c.in_err-unwritten_fault.was)

pub clauses_fault-requires : goal.clauses_fault-requires
clauses_fault-requires c = let w = c.requires in
    sheet-clauses w.stands

pub returns : goal.returns
returns c = marks-last c.args.stored c.undeclared_clauses.ensures c.in_ok-undeclared_clauses.was
    c.unwritten_fault.ensures c.in_ok-unwritten_fault.was c.clauses_fault.ensures
