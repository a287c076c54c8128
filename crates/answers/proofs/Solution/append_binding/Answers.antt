use native.Mathlib.Omega.{arith}
use mathlib.Core.Logic.{inr}
use Rattle.answers.proofs.WalkLaws.{counting-on}
use Rattle.answers.proofs.ValueLaws.{binding-skip, binding-give, nearer-value}
use Rattle.answers.proofs.Solution.append_binding.Goals as goal

pub returns-then-is_anonymous : goal.returns-then-is_anonymous
returns-then-is_anonymous c = let args = c.args in record { told = (λ ss n met xs v h. binding-skip _ args.i args.from.more args.w args.limit _ xs met c.is_anonymous.ensures c.if-is_anonymous.true h); near = (omega arith, inr (omega arith)) }

pub append_value-past_value-requires : goal.append_value-past_value-requires
append_value-past_value-requires c = let pre = c.requires in let append-variable = c.append_variable-past in record { some_valued = pre.some_valued; counting = (counting-on pre.span_inside.1.0 (omega (arith, pre.span_inside.1.1.0)) append-variable.ensures.near.0 (omega (arith, append-variable.ensures.near)), (omega (arith, append-variable.ensures.near, pre.span_inside.1.1.0), (pre.span_inside.1.1.1.0, omega (arith, append-variable.ensures.near.0, pre.span_inside.1.1.1.1)))) }

pub returns : goal.returns
returns c = let args = c.args in let append-variable = c.append_variable-past in let append-value = c.append_value-past_value in record { told = (λ ss n met xs v h. binding-give _ args.i args.from.more args.w args.limit _ xs met c.is_anonymous.ensures c.if-is_anonymous.false append-variable.ensures.wrote (append-value.ensures.told ss n met _ v h)); near = nearer-value args.limit append-variable.ensures.near append-value.ensures.near }
