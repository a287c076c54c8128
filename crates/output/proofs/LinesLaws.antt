-- How long a name is with the space before it.
use Prim.Native.Nat.{ℕ, ◌+◌, ◌≤◌, zero-le}
use native.Mathlib.Omega.{arith}
use mathlib.Core.List.{List, [], ◌∷◌}
use lib.ListN.{length}
use Rattle.output.specs.Lines.{name_word}

pub name-length : (s : List ℕ) → length (name_word s) ≤ length s + 1
name-length [] = zero-le
name-length (b ∷ bs) = omega arith
