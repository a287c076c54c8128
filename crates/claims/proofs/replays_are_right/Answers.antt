use Rattle.derivations.proofs.Exactly.{exactly}
use Rattle.derivations.proofs.Byte.{byte-right}
use Rattle.claims.proofs.replays_are_right.Goals as goal

pub returns-clause-exactly : goal.returns-clause-exactly
returns-clause-exactly c = exactly

pub returns-clause-byte : goal.returns-clause-byte
returns-clause-byte c = byte-right
