-- `lex::tokens::past_at` meets its contract: a token lies inside the text, so its place and its length make no sum that wraps.
use Prim.Native.Nat.{ℕ}
use native.Mathlib.Omega.{arith}
use mathlib.Core.List.{List}
use Rattle.lex.proofs.TokensLaws.{past_is, token-inside}
use borrow.Author.Rules.{rules}
use Rattle.lex.proofs.tokens.past_at.Goals as goal

pub overflow_add-result : goal.overflow_add-result
overflow_add-result c = let s : List ℕ = c.args.s.now in
    let p : ℕ = c.args.from in
    omega (arith, past_is s p c.token_at-token.result c.token_at-token.ensures, token-inside s p (search rules))

pub returns : goal.returns
returns c = search (past_is, rules)
