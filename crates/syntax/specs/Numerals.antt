-- Numerals (REQUESTS (iii)): "Numerals are the same when equal after leading zeros are dropped (all zeros is 0), and are printed so."
use Rattle.std.specs.Prelude.{ℕ, ◌-◌, true, false, List, [], ◌∷◌, eqb, length}

-- the byte of the digit 0
abbrev pub zero_digit : ℕ
zero_digit = 48

-- digits without leading zeros; the last digit stays
unfoldable pub trimmed : List ℕ → List ℕ
trimmed [] = []
trimmed (d ∷ []) = d ∷ []
trimmed (d ∷ e ∷ ds) = elim (eqb d zero_digit) [ true ↦ trimmed (e ∷ ds) | false ↦ d ∷ e ∷ ds ]

-- how many zeros were dropped
abbrev pub dropped : List ℕ → ℕ
dropped ds = length ds - length (trimmed ds)
