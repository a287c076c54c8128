-- Computed cases: the lines of a verdict in RULES, byte for byte.
use Prim.Native.Nat.{ℕ}
use mathlib.Core.Path.{◌≡◌, refl}
use mathlib.Core.List.{List, [], ◌∷◌}
use Rattle.syntax.specs.Quote.{bytes}
use Rattle.syntax.specs.declared.Text.TheVariants.{Sheet, Goal, Trace, Neither}
use Rattle.syntax.specs.declared.Refusal.TheVariants.{Settings, Misplaced, OpenOutput, BadTrace, TraceOverLimit}
use Rattle.syntax.specs.Verdicts.{Accepted, Refused}
use Rattle.words.specs.Buffers.{digits, decimal}
use Rattle.output.specs.Lines.{line_of}

lines : List (List ℕ)
lines =
    line_of (Accepted 1 2) []
    ∷ line_of (Refused Sheet (OpenOutput 28 1 2 21 4)) (bytes "plus")
    ∷ line_of (Refused Goal (Misplaced 0)) []
    ∷ line_of (Refused Neither Settings) []
    ∷ line_of (Refused Trace (BadTrace 772)) []
    ∷ line_of (Refused Trace TraceOverLimit) []
    ∷ []

expected : List (List ℕ)
expected =
    bytes "accepted 1 2\n"
    ∷ bytes "refused sheet 10 28 1 0 2 plus\n"
    ∷ bytes "refused goal 5 0 0 0 0\n"
    ∷ bytes "refused 1 0 0 0 0\n"
    ∷ bytes "refused trace 13 772 0 0 0\n"
    ∷ bytes "refused trace 14 0 0 0 0\n"
    ∷ []

cases : lines ≡ expected
unfolding lines expected digits decimal line_of
cases = refl
