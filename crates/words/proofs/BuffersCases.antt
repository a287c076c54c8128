-- Computed cases: numbers in decimal.
use Prim.Native.Nat.{ℕ}
use mathlib.Core.Path.{◌≡◌, refl}
use mathlib.Core.List.{List, [], ◌∷◌}
use Rattle.syntax.specs.Quote.{bytes}
use Rattle.words.specs.Buffers.{digits, decimal}

numbers : List (List ℕ)
numbers =
    decimal 0
    ∷ decimal 9
    ∷ decimal 10
    ∷ decimal 16384
    ∷ decimal 65536
    ∷ decimal 18446744073709551615
    ∷ []

expected : List (List ℕ)
expected =
    bytes "0"
    ∷ bytes "9"
    ∷ bytes "10"
    ∷ bytes "16384"
    ∷ bytes "65536"
    ∷ bytes "18446744073709551615"
    ∷ []

cases : numbers ≡ expected
unfolding numbers expected digits decimal
cases = refl
