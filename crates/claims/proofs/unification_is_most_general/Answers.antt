use Rattle.machine_theorems.proofs.Unifier.{unify-spec, unify-unbounded}
use Rattle.claims.proofs.unification_is_most_general.Goals as goal

pub returns-clause-general : goal.returns-clause-general
returns-clause-general c = unify-spec

pub returns-clause-rounds : goal.returns-clause-rounds
returns-clause-rounds c = unify-unbounded
