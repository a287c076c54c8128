use native.Mathlib.Omega.{arith}
use mathlib.Core.Path.{refl}
use Prim.Native.Nat.{◌≤◌}
use Rattle.words.proofs.TextsLaws.{alike-on, alike-differ, alike_end}
use Rattle.words.proofs.texts.same_bytes.Goals as goal

pub loop-i-init : goal.loop-i-init
loop-i-init c = (omega arith, refl)

pub returns-then-s-a : goal.returns-then-s-a
returns-then-s-a c = alike-differ _ _ _ _ _ _ (omega (arith, c.loop-i-test.true)) c.loop-i.invariant.0 c.requires c.if-s-a.true c.loop-i.invariant.1

pub loop-i-preserved : goal.loop-i-preserved
loop-i-preserved c = (omega (arith, c.loop-i.invariant.0), alike-on _ _ _ _ _ _ (omega (arith, c.loop-i-test.true)) c.loop-i.invariant.0 c.requires c.if-s-a.false c.loop-i.invariant.1)

pub returns : goal.returns
returns c = let e : c.loop-i.i ≤ 0 = omega arith in alike_end c.args.s.now c.args.a c.args.t.now c.args.b c.args.n c.loop-i.i e c.loop-i.invariant.1
