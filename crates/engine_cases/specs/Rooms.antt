-- Numbers of the files of cases.
use Rattle.std.specs.Prelude.{ℕ, ◌+◌, ◌*◌, List, get_or}

-- the values of a byte
abbrev pub byte_values : ℕ
byte_values = 256

-- the bytes of a record of a run before its texts: the first byte and the settings
abbrev pub settings_size : ℕ
settings_size = 10

-- the number of two bytes at a place, lowest first, and that of three
abbrev pub two_at : List ℕ → ℕ → ℕ
two_at s at = get_or s at 0 + 256 * get_or s (at + 1) 0

abbrev pub three_at : List ℕ → ℕ → ℕ
three_at s at = get_or s at 0 + 256 * (get_or s (at + 1) 0 + 256 * get_or s (at + 2) 0)
