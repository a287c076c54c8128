-- The line of a verdict (RULES, "Two programs and what they print"), as a list of bytes.
use Rattle.std.specs.Prelude.{ℕ, List, [], ◌∷◌, ◌++◌}
use Rattle.syntax.specs.Verdicts.{Verdict}
use Rattle.output.specs.Words.{verdict_words}

-- a space and the name handed back, nothing where it is empty
abbrev pub name_word : List ℕ → List ℕ
name_word [] = []
name_word (b ∷ bs) = 32 ∷ b ∷ bs

-- the line of a verdict and the name handed back with it
unfoldable pub line_of : Verdict → List ℕ → List ℕ
line_of verdict name = verdict_words verdict ++ name_word name ++ (10 ∷ [])
