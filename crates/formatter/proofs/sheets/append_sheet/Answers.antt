use Rattle.formatter.proofs.SheetLaws.{sheet_written}
use Rattle.formatter.proofs.sheets.append_sheet.Goals as goal

pub returns : goal.returns
returns c = sheet_written c.append_declarations-past_declarations.ensures.wrote c.append_clauses.ensures
