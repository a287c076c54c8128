use Rattle.std.proofs.Common.{◌≡◌, ◌∙◌, ap, ℕ, ◌+◌, ◌-◌, length, Option, arith}
use Rattle.std.specs.List.{slice_range}
use Rattle.std.specs.Option.{unwrap_or}
use Rattle.syntax.specs.Numerals.{dropped}
use Rattle.syntax.specs.Tokens.{spelling}
use Rattle.words.proofs.Zeros.{kept_at, kept-within}
use Rattle.words.proofs.texts.first_kept.Goals as goal

kept : (c : goal.After-unwrap_or) → c.unwrap_or.result ≡ dropped (spelling c.args.s.now c.args.at c.args.len)
kept c = c.unwrap_or.ensures ∙ ap (λ (o : Option ℕ). unwrap_or o (length (slice_range c.args.s.now c.args.at (c.args.at + c.args.len - 1)))) c.first_other.ensures
    ∙ kept_at c.args.s.now c.args.at c.args.len c.requires c.if-len-eq0.false

pub overflow_add-result : goal.overflow_add-result
overflow_add-result c = omega (arith, kept c, kept-within c.args.s.now c.args.at c.args.len c.requires, c.requires)

pub returns : goal.returns
returns c = ap (λ (n : ℕ). c.args.at + n) (kept c)
