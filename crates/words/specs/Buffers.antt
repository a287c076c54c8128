-- Numbers in decimal, and what stands in a buffer after bytes were appended.
use Rattle.std.specs.Prelude.{ℕ, zero, suc, ◌+◌, ◌/◌, ◌%◌, ◌≡◌, true, false, cond, List, [], ◌∷◌, ◌++◌, leb, ltb, length}
use Rattle.std.proofs.lemmas.List.Edits.{sets}

-- the decimal digits of n, the most significant first, where n is below the fuel; the cases of an `elim` are computed only when taken
unfoldable pub digits : ℕ → ℕ → List ℕ
digits zero n = []
digits (suc fuel) n = elim (ltb n 10) [ true ↦ (48 + n) ∷ [] | false ↦ digits fuel (n / 10) ++ ((48 + n % 10) ∷ []) ]

-- a number in decimal
unfoldable pub decimal : ℕ → List ℕ
decimal n = digits (suc n) n

-- a space and the number
abbrev pub number : ℕ → List ℕ
number n = (32 ∷ []) ++ decimal n

-- The words of a line that tells a verdict have at most so many bytes: 16 of `refused workings`, and five numbers of at most 20 digits with a space before
-- each.
abbrev pub line_words : ℕ
line_words = 121

-- the line's length where the whole line fits the buffer, and 0 where it does not
abbrev pub fitted_length : List ℕ → List ℕ → ℕ
fitted_length line out = cond (leb (length line) (length out)) (length line) 0

-- the buffer with the line at its start where the whole line fits, and as it was where it does not
abbrev pub fitted : List ℕ → List ℕ → List ℕ
fitted line out = cond (leb (length line) (length out)) (sets out 0 line) out

-- What appending leaves: the words stand in the buffer from `at` on, as far as it goes, and the next position is past them.
pub record Appended {A : Type 0} (old : List A) (at : ℕ) (words new : List A) (next : ℕ) : Type 0 where
  pub text : new ≡ sets old at words
  pub past : next ≡ at + length words
