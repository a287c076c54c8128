-- What writing a sheet answers.
use Rattle.std.specs.Prelude.{ℕ, List, length, Result, Ok, Err}
use Rattle.syntax.specs.Verdicts.{Outcome, refused, accepted}
use Rattle.syntax.specs.declared.Refusal.{Refusal}

-- the length of what is written, or the refusal
abbrev pub length_of : Outcome (List ℕ) → Result ℕ Refusal
length_of (refused r) = Err r
length_of (accepted w) = Ok (length w)
