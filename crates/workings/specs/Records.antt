-- Records as the code tells them.
use Rattle.std.specs.Prelude.{Option, Some, None}
use Rattle.derivations.specs.Workings.{Records, no_more, malformed, next}
use Rattle.derivations.specs.declared.Choice.{Choice}

-- what the first record says; none where there is none, or it is malformed
abbrev pub first_choice : Records → Option Choice
first_choice no_more = None
first_choice malformed = None
first_choice (next m rs) = Some m
