use Rattle.starred_cases.proofs.Starred.{starred}
use Rattle.claims.proofs.listed_cases_hold.Goals as goal

pub returns : goal.returns
returns c = starred
