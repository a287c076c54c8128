-- The tokens of a text, one after another, each the first one from the position just past the one before it.
use Rattle.std.specs.Prelude.{ℕ, zero, suc, ◌+◌, List}
use Rattle.syntax.specs.Tokens.{token_at}
use Rattle.syntax.specs.declared.Token.{Token}

-- the position just past the first token from a position on
unfoldable pub past_token : List ℕ → ℕ → ℕ
past_token s p = (token_at s p).at + (token_at s p).len

-- the position just past the first n tokens from a position on
unfoldable pub past_tokens : ℕ → List ℕ → ℕ → ℕ
past_tokens zero s p = p
past_tokens (suc n) s p = past_tokens n s (past_token s p)

-- the token of a text before which n tokens stand
unfoldable pub nth_token : List ℕ → ℕ → Token
nth_token s n = token_at s (past_tokens n s 0)
