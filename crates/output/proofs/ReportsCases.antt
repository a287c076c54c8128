-- Computed cases: the last lines of a run in RULES, byte for byte.
use Prim.Native.Nat.{ℕ}
use mathlib.Core.Path.{◌≡◌, refl}
use mathlib.Core.List.{List, [], ◌∷◌}
use Rattle.syntax.specs.Quote.{bytes}
use Rattle.syntax.specs.declared.RunEnd.TheVariants.{Wanted, Done, Steps, Full, Deep}
use Rattle.words.specs.Buffers.{digits, decimal}
use Rattle.output.specs.Reports.{report_line}

lines : List (List ℕ)
lines =
    report_line Wanted 16 65536
    ∷ report_line Done 1 7
    ∷ report_line Steps 0 65536
    ∷ report_line Full 0 5
    ∷ report_line Deep 0 600
    ∷ []

expected : List (List ℕ)
expected =
    bytes "end wanted 16 65536\n"
    ∷ bytes "end done 1 7\n"
    ∷ bytes "end steps 0 65536\n"
    ∷ bytes "end full 0 5\n"
    ∷ bytes "end deep 0 600\n"
    ∷ []

cases : lines ≡ expected
unfolding lines expected digits decimal report_line
cases = refl
