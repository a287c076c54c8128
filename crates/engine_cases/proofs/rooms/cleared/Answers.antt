use Rattle.engine_cases.proofs.ZeroLaws.{zeros}
use Rattle.engine_cases.proofs.rooms.cleared.Goals as goal

pub returns : goal.returns
returns g c = zeros _ 0
