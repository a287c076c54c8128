use Prim.Native.Nat.{ℕ, ◌-◌}
use native.Mathlib.Omega.{arith}
use mathlib.Core.Path.{◌≡◌, subst}
use Rattle.std.proofs.Common.{Ok}
use Rattle.unify.specs.Turns.{TurnGives}
use Rattle.unify.specs.Shapes.{TurnFalls}
use Rattle.unify.proofs.Turning.{pass-turned, remembers-at, remembers-none}
use Rattle.unify.proofs.Safe.{pass-small, safe-passed}
use Rattle.unify.proofs.solve.pass.Goals as goal

pub returns-then-h-eq1 : goal.returns-then-h-eq1
returns-then-h-eq1 c =
    let last : c.args.h - 1 ≡ 0 = omega (arith, c.if-h-eq1.true) in
    record {
      means = λ g. subst (λ (k : ℕ). TurnGives g.work c.args.scratch.now (Ok k)) last (pass-turned g (remembers-none _ _ _));
      safe = λ s. subst (λ (k : ℕ). TurnFalls s.work c.args.scratch.now (Ok k)) last (safe-passed s (remembers-none _ 0 0));
    }

pub remember-requires : goal.remember-requires
remember-requires c = omega (arith, c.pack-left.ensures, c.pack-right.ensures, pass-small c.requires)

pub pack-left-requires : goal.pack-left-requires
pack-left-requires c = omega (arith, pass-small c.requires)

pub pack-right-requires : goal.pack-right-requires
pack-right-requires c = omega (arith, pass-small c.requires)

pub returns : goal.returns
returns c = record { means = λ g. pass-turned g (remembers-at c.pack-left.ensures c.pack-right.ensures c.remember.ensures); safe = λ s. safe-passed s c.remember.ensures }
