use native.Mathlib.Omega.{arith}
use mathlib.Core.Path.{refl, ◌∙◌}
use mathlib.Core.Logic.{inl, inr}
use Rattle.answers.proofs.WalkLaws.{going-none, going-then, some-on, count-on, going_done, going-over}
use Rattle.answers.proofs.Solution.append_rows.Goals as goal

pub loop-rows-init : goal.loop-rows-init
loop-rows-init c = let pre = c.requires in (refl, refl, refl, pre.some_setting, pre.counting.0, omega arith, inr refl, going-none, pre.counting.1.1)

pub returns-after-loop-rows : goal.returns-after-loop-rows
returns-after-loop-rows c = let loop = c.loop-rows.invariant in record { told = going_done loop.7 c.loop-rows-test.false; near = (loop.5, loop.6) }

pub returns-else-past-limit : goal.returns-else-past-limit
returns-else-past-limit c = let loop = c.loop-rows.invariant in record { told = going-over loop.7 c.if-past-limit.false; near = (loop.5, loop.6) }

pub turn-turned-requires : goal.turn-turned-requires
turn-turned-requires c = let loop = c.loop-rows.invariant in record { some_setting = loop.3; height_nonzero = (omega (arith, c.loop-rows-test.true), (loop.4, (omega arith, omega (arith, c.if-past-limit.true, loop.8)))) }

pub loop-rows-smaller : goal.loop-rows-smaller
loop-rows-smaller c = omega (arith, c.if-past-limit.true, c.turn-turned.ensures.near)

pub loop-rows-preserved : goal.loop-rows-preserved
loop-rows-preserved c = let loop = c.loop-rows.invariant in let turned = c.turn-turned in (turned.auto.numbers ∙ loop.0, turned.auto.stack ∙ loop.1, turned.auto.out ∙ loop.2, some-on turned.ensures.told loop.3 loop.4, count-on turned.ensures.told loop.3 loop.4 (omega (arith, c.if-past-limit.true, turned.ensures.near)), omega (arith, loop.5, turned.ensures.near), inl (omega (arith, c.if-past-limit.true, turned.ensures.near)), going-then loop.7 turned.ensures.told, omega (arith, turned.auto.stack, c.if-past-limit.true, turned.ensures.near, loop.8))
