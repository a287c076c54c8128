use Rattle.format_theorems.proofs.Claims.{equal_exactly_but_for_names, written_again_the_same, read_back_the_same}
use Rattle.claims.proofs.equal_sheets_are_written_alike.Goals as goal

pub returns-clause-exactly : goal.returns-clause-exactly
returns-clause-exactly c = equal_exactly_but_for_names

pub returns-clause-again : goal.returns-clause-again
returns-clause-again c = written_again_the_same

pub returns-clause-back : goal.returns-clause-back
returns-clause-back c = read_back_the_same
