-- `run::loaded_runs::with_room` meets its contract. The measure is how often it calls itself. Assumes nothing.

use Rattle.run.proofs.loaded_runs.+with_room.Given as goal

abbrev pub decreases-with_room : goal.decreases-with_room
decreases-with_room g l = l.again
