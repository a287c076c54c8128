use Rattle.marks.proofs.First.{look-up-says}
use Rattle.claims.proofs.search_ends_at_the_first_match.Goals as goal

pub returns : goal.returns
returns c = look-up-says
