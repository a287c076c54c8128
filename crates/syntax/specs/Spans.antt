-- How the code keeps the spellings of variables: for each one word, the place and length of its first occurrence, in the last words of the node table.
use Rattle.std.specs.Prelude.{ℕ, zero, suc, ◌+◌, ◌-◌, ◌*◌, ◌/◌, ◌%◌, ◌≤◌, ◌<◌, List, [], ◌∷◌, length, get_or, drop}
use Rattle.syntax.specs.Limits.{lengths, variables}
use Rattle.syntax.specs.Tokens.{spelling}

-- a part of a text in one word: its place and its length
abbrev pub packed : ℕ → ℕ → ℕ
packed at len = at * lengths + len

abbrev pub span_at : ℕ → ℕ
span_at w = w / lengths

abbrev pub span_length : ℕ → ℕ
span_length w = w % lengths

-- the part that a word gives, and that it lies within the text
abbrev pub spanned : List ℕ → ℕ → List ℕ
spanned s w = spelling s (span_at w) (span_length w)

abbrev pub SpanInside : List ℕ → ℕ → Type 0
SpanInside s w = span_at w + span_length w ≤ length s

-- the spellings that the words from number i on give, k of them
unfoldable pub names_from : List ℕ → List ℕ → ℕ → ℕ → List (List ℕ)
names_from s words i zero = []
names_from s words i (suc k) = spanned s (get_or words i 0) ∷ names_from s words (suc i) k

-- the words of the variables met: the last ones of a node table
abbrev pub met : List ℕ → List ℕ
met table = drop (length table - variables) table

-- the first k of these words lie within the text
pub record SpansInside (s words : List ℕ) (k : ℕ) : Type 0 where
  pub inside : (i : ℕ) → i < k → SpanInside s (get_or words i 0)
