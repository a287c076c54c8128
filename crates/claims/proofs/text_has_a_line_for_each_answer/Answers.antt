use Rattle.machine_theorems.proofs.Lines.{run-lines}
use Rattle.claims.proofs.Rooms.{text-fits}
use Rattle.claims.proofs.text_has_a_line_for_each_answer.Goals as goal

pub returns-clause-lines : goal.returns-clause-lines
returns-clause-lines c = run-lines

pub returns-clause-fits : goal.returns-clause-fits
returns-clause-fits c = text-fits
