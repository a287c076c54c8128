-- The words of a record, as the code is when they were written.
use Rattle.std.specs.Prelude.{ℕ, ◌+◌, List, set}

-- two words at p
unfoldable pub put_pair : List ℕ → ℕ → ℕ → ℕ → List ℕ
put_pair code p a b = set (set code p a) (p + 1) b

-- a record at l: its kind and two words
unfoldable pub put_record : List ℕ → ℕ → ℕ → ℕ → ℕ → List ℕ
put_record code l kind place other = put_pair (set code l kind) (l + 1) place other

-- the words around a side: the one before it, and the one behind it
abbrev pub side_ends : ℕ
side_ends = 2
