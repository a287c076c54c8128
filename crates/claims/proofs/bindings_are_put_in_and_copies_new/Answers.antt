use Rattle.machine_theorems.proofs.Reached.{none-applies, copies-new}
use Rattle.claims.proofs.bindings_are_put_in_and_copies_new.Goals as goal

pub returns-clause-none_applies : goal.returns-clause-none_applies
returns-clause-none_applies c = none-applies

pub returns-clause-new : goal.returns-clause-new
returns-clause-new c = copies-new
