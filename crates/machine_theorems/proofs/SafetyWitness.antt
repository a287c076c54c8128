-- What the counts speak of can be had: the example of RULES is a run over accepted texts, so its alternatives are safe and its counts zero.
use mathlib.Core.Path.{refl}
use Rattle.syntax.specs.Quote.{bytes}
use mathlib.Core.Bool.{false}
use Rattle.machine.specs.Runs.{Done, RunSettings}
use Rattle.machine.proofs.Compute.{computed}
use Rattle.machine.specs.Claims.{RunOver}
use Rattle.machine_theorems.proofs.EveryRun.{nothing-open-in-runs}

abbrev settings : RunSettings
settings = record { allowance = 300; wanted = 16; stored = false }

pub example : RunOver (bytes ":- mode plus(+,+,-). plus(z,N,N). plus(s(M),N,s(P)) :- plus(M,N,P).") (bytes "plus(s(z),z,X).") settings 4096 (record { kind = Done; answers = 1; steps = 7 }) (bytes "X = s(z)\n")
unfolding computed
example =
    nothing-open-in-runs (bytes ":- mode plus(+,+,-). plus(z,N,N). plus(s(M),N,s(P)) :- plus(M,N,P).") (bytes "plus(s(z),z,X).") settings 4096 (record { kind = Done; answers = 1; steps = 7 }) (bytes "X = s(z)\n") refl
