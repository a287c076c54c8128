use Rattle.machine_theorems.proofs.Next.{next-is-for}
use Rattle.claims.proofs.tried_clause_is_for_the_call.Goals as goal

pub returns : goal.returns
returns c = next-is-for
