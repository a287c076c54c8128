-- A declaration as a list of numbers, for callers in other languages.
use Rattle.std.specs.Prelude.{ℕ, List, [], ◌∷◌, Option, Some, None}
use Rattle.syntax.specs.declared.Entry.{Entry}

-- which of the lists of numbers, and of the functions that give them, a library has
abbrev pub version : ℕ
version = 3

-- a declaration: byte and length of its name, number of arguments; nothing where there is none
unfoldable pub entry_numbers : Option Entry → List ℕ
entry_numbers (Some entry) = entry.at ∷ entry.len ∷ entry.arguments ∷ []
entry_numbers None = []
