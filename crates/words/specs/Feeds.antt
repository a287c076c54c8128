-- The lines of a text: its line feeds, and where so many of its lines end.
use Rattle.std.specs.Prelude.{ℕ, zero, suc, ◌≡◌, true, false, List, [], ◌∷◌, eqb, length}

-- how many line feeds a text has
unfoldable pub feeds : List ℕ → ℕ
feeds [] = 0
feeds (b ∷ bs) = elim (eqb b 10) [ true ↦ suc (feeds bs) | false ↦ feeds bs ]

-- the position behind the n-th line feed of a text; its end where it has not so many
unfoldable pub past_lines : ℕ → List ℕ → ℕ
past_lines n [] = 0
past_lines zero (b ∷ bs) = 0
past_lines (suc n) (b ∷ bs) = elim (eqb b 10) [ true ↦ suc (past_lines n bs) | false ↦ suc (past_lines (suc n) bs) ]

-- a text of n whole lines: it has n line feeds, and ends behind the n-th
pub record InLines (n : ℕ) (text : List ℕ) : Type 0 where
  pub feeds_are : feeds text ≡ n
  pub ends : past_lines n text ≡ length text
