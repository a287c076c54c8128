-- Which bytes go on with a token of several bytes.
use Rattle.std.specs.Prelude.{ℕ, ◌<◌, ◌≡◌, Bool}

-- a function's answers, as its calls relate a byte and an answer, are those of a test
abbrev pub Decides : (ℕ → Bool → Type 0) → (ℕ → Bool) → Type 0
Decides answers test = (b : ℕ) (r : Bool) → b < 256 → answers b r → r ≡ test b
