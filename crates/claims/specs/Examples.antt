-- The example of RULES, "Two programs and what they print": a sheet, a goal, and what is asked of its run.
use Rattle.std.specs.Prelude.{ℕ, List, false}
use Rattle.syntax.specs.Quote.{bytes}
use Rattle.machine.specs.Runs.{RunSettings}

abbrev pub plus : List ℕ
plus = bytes ":- mode plus(+,+,-). plus(z,N,N). plus(s(M),N,s(P)) :- plus(M,N,P)."

abbrev pub plus_goal : List ℕ
plus_goal = bytes "plus(s(z),z,X)."

abbrev pub plus_line : List ℕ
plus_line = bytes "X = s(z)\n"

abbrev pub at_most : ℕ → RunSettings
at_most allowance = record { allowance = allowance; wanted = 16; stored = false }
