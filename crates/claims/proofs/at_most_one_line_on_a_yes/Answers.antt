use Rattle.machine_theorems.proofs.Determinacy.{joins-exactly, determinate-exactly}
use Rattle.machine_theorems.proofs.FirstPair.{against-names}
use Rattle.machine_theorems.proofs.AtMostOne.{at-most-one-line, at-most-one-answer}
use Rattle.claims.proofs.at_most_one_line_on_a_yes.Goals as goal

pub returns-clause-exactly : goal.returns-clause-exactly
returns-clause-exactly c = determinate-exactly

pub returns-clause-joined : goal.returns-clause-joined
returns-clause-joined c = joins-exactly

pub returns-clause-names : goal.returns-clause-names
returns-clause-names c = against-names

pub returns-clause-line : goal.returns-clause-line
returns-clause-line c = at-most-one-line

pub returns-clause-answer : goal.returns-clause-answer
returns-clause-answer c = at-most-one-answer
