-- Where an alternative of the machine stands, and how many choices can still be made from it: what the functions of a replay speak of.
use Rattle.std.specs.Prelude.{ℕ, ◌+◌, ◌-◌, ◌*◌}
use Rattle.syntax.specs.Limits.{longest_path, literals}
use Rattle.machine.specs.Machine.{Alternative, path}
use Rattle.machine.specs.Low.{left_of}
use Rattle.derivations.specs.Workings.{Resolvent, settled}

-- where an alternative stands
abbrev pub resolvent : Alternative → Resolvent
resolvent a = settled (path a) a.bindings a.literals

-- how many literals can still be met from it on: at each choice it falls
abbrev pub potential : Alternative → ℕ
potential a = left_of a.literals + literals * (longest_path - path a)
