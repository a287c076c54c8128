-- The definition's answer as the code gives it.
use Rattle.std.specs.Prelude.{Result, Ok, Err}
use Rattle.syntax.specs.declared.Refusal.{Refusal}
use Rattle.mode_rules.specs.Modes.{Known, Walk, known, faulted}

abbrev pub walk_of : Result Known Refusal → Walk
walk_of (Ok τ) = known τ
walk_of (Err r) = faulted r
