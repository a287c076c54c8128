-- How long the paths of a pile are.
use Rattle.std.specs.Prelude.{◌≤◌, List, [], ◌∷◌}
use Rattle.syntax.specs.Limits.{longest_path}
use Rattle.machine.specs.Machine.{Alternative, path}

-- no path is longer than the longest at which a clause may be tried
abbrev pub PathsWithin : List Alternative → Type 0
PathsWithin [] = Unit {0}
PathsWithin (a ∷ below) = (path a ≤ longest_path) × PathsWithin below
