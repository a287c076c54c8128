use native.Mathlib.Omega.{arith}
use mathlib.Core.Logic.{inr}
use Rattle.answers.proofs.ValueLaws.{value-unbound, value-facing, value-setting, value-counting, value-walked, nearer}
use Rattle.answers.proofs.Solution.append_value.Goals as goal

pub returns-then-w-eq0 : goal.returns-then-w-eq0
returns-then-w-eq0 c = let append-unbound = c.append_unbound in record { told = (λ ss n met rest v h. value-unbound v c.word_at-w.ensures c.args.limit met c.if-w-eq0.true (append-unbound.ensures.told met h rest)); near = (append-unbound.ensures.near.0, inr append-unbound.ensures.near.1) }

pub append_term-t-requires : goal.append_term-t-requires
append_term-t-requires c = let pre = c.requires in record { some_facing = record { ss = pre.some_valued.ss; n = pre.some_valued.n; is = value-facing pre.some_valued.is c.word_at-w.ensures c.if-w-eq0.false c.unpack-bound.ensures (omega (arith, pre.counting.1.1.1)) }; counting = pre.counting.0 }

pub append_rows-requires : goal.append_rows-requires
append_rows-requires c = let pre = c.requires in let unpack = c.unpack-bound in let append-term = c.append_term-t in record { some_setting = value-setting pre.some_valued pre.counting.0 c.word_at-w.ensures c.if-w-eq0.false unpack.ensures (omega (arith, pre.counting.1.1.1)) append-term.ensures.told; counting = (value-counting pre.some_valued pre.counting.0 c.word_at-w.ensures c.if-w-eq0.false unpack.ensures (omega (arith, pre.counting.1.1.1)) append-term.ensures.told (omega (arith, append-term.ensures.near.1.0, pre.counting.1.0)), (pre.counting.1.1.0, omega (arith, append-term.auto.stack, append-term.ensures.near, pre.counting.1.1.1))) }

pub returns : goal.returns
returns c = let bound = c.if-w-eq0.false in let unpack = c.unpack-bound in let append-term = c.append_term-t in let append-rows = c.append_rows in record { told = (λ ss n met rest v h. value-walked v c.word_at-w.ensures bound unpack.ensures c.args.limit met (append-term.ensures.told ss n met rest (value-facing v c.word_at-w.ensures bound unpack.ensures (omega (arith, c.requires.counting.1.1.1))) h) (λ met' s k. append-rows.ensures.told ss n met' rest s k)); near = nearer c.args.limit (append-term.ensures.near.0, append-term.ensures.near.1.0) append-rows.ensures.near }
