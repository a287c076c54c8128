use Rattle.syntax.proofs.Numerals.{numeral-leads}
use Rattle.machine_theorems.proofs.Numerals.{one-numeral}
use Rattle.claims.proofs.numerals_are_equal_without_zeros.Goals as goal

pub returns-clause-same : goal.returns-clause-same
returns-clause-same c = one-numeral

pub returns-clause-leads : goal.returns-clause-leads
returns-clause-leads c = numeral-leads
