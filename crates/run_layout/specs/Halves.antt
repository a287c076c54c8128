-- Two numbers in one word, each in one half.
use Rattle.std.specs.Prelude.{ℕ, zero, suc, ◌+◌, ◌*◌, ◌/◌, ◌%◌}
use Rattle.run_layout.specs.Regions.{half_word}

-- the lower half, for 0, and the higher
unfoldable pub half : ℕ → ℕ → ℕ
half zero w = w % half_word
half (suc n) w = w / half_word % half_word

-- the word with another number in a half
unfoldable pub stored : ℕ → ℕ → ℕ → ℕ
stored zero w i = w / half_word % half_word * half_word + i
stored (suc n) w i = i * half_word + w % half_word
