-- What stands in a table of words.
use Rattle.std.specs.Prelude.{ℕ, ◌+◌, ◌*◌, ◌≤◌, ◌<◌, ◌≡◌, List, [], ◌∷◌, length, get_or}
use Rattle.syntax.specs.Words.{declaration_size}
use Rattle.syntax.specs.declared.Entry.{Entry}

-- These words stand in a table from p on.
abbrev pub WordsAt : List ℕ → ℕ → List ℕ → Type 0
WordsAt table p [] = Unit {0}
WordsAt table p (w ∷ ws) = (p < length table) × (get_or table p 0 ≡ w) × WordsAt table (p + 1) ws

-- The node at p lies inside a table with its arguments: its second word is how many words they all take.
abbrev pub NodeInTable : List ℕ → ℕ → Type 0
NodeInTable table p = (p + 1 < length table) × (p + get_or table (p + 1) 0 ≤ length table)

-- what the words of the i-th declaration say: its name's byte and length, and how many marks it has
abbrev pub entry_from : List ℕ → ℕ → Entry
entry_from words i = record {
  at = get_or words (declaration_size * i) 0;
  len = get_or words (declaration_size * i + 1) 0;
  arguments = get_or words (declaration_size * i + 2) 0;
}
