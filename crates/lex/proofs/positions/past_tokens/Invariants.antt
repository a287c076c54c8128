-- `lex::positions::past_tokens` meets its contract: the tokens left from the place reached end where all end.
use Rattle.std.proofs.Common.{◌≡◌, ◌≤◌, ◌-◌, length}
use Rattle.lex.specs.Nth.{past_tokens}
use Rattle.lex.proofs.positions.past_tokens.Given as goal

abbrev pub invariant-loop : goal.invariant-loop
invariant-loop l =
    (l.at ≤ length l.text) × (past_tokens (l.n - l.counter) l.text l.at ≡ past_tokens l.n l.text l.from)
