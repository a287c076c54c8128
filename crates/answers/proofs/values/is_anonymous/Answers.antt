use Prim.Native.Nat.{ℕ}
use mathlib.Core.Path.{sym, ap, ◌∙◌}
use lib.ListN.{get_or}
use borrow.Author.Tests.{ne_eqb}
use Rattle.answers.proofs.ValueLaws.{anonymous-long, anonymous-one}
use Rattle.answers.proofs.values.is_anonymous.Goals as goal

pub returns-then-span_length-eq1 : goal.returns-then-span_length-eq1
returns-then-span_length-eq1 c = let args = c.args in anonymous-one _ args.w c.byte_at.result c.requires (sym c.span_length.ensures ∙ c.if-span_length-eq1.true) (c.byte_at.ensures ∙ ap (λ (k : ℕ). get_or args.goal.now k 0) c.span_at.ensures)

pub returns-else-span_length-eq1 : goal.returns-else-span_length-eq1
returns-else-span_length-eq1 c = ne_eqb c.span_length.result 1 c.if-span_length-eq1.false ∙ anonymous-long _ c.args.w c.requires (λ e. c.if-span_length-eq1.false (c.span_length.ensures ∙ e))
