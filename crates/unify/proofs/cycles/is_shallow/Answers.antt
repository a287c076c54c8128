use native.Mathlib.Omega.{arith}
use mathlib.Core.Path.{ap}
use Prim.Native.Nat.{ℕ, ◌+◌}
use Rattle.unify.proofs.CycleLaws.{shallow-inside, shallow-begin, shallow-here, shallow-room, shallow-next, shallow-end}
use Rattle.unify.proofs.cycles.is_shallow.Goals as goal

pub size_at-size-requires : goal.size_at-size-requires
size_at-size-requires c = omega (arith, shallow-inside c.requires)

pub loop-i-init : goal.loop-i-init
loop-i-init c = λ g. shallow-begin g c.args.x

pub is_leaf-requires : goal.is_leaf-requires
is_leaf-requires c = shallow-here c.requires (c.loop-i.invariant c.requires) (ap (λ (k : ℕ). c.args.at.node + k) c.size_at-size.ensures) c.loop-i-test.true

pub overflow_add-i : goal.overflow_add-i
overflow_add-i c = omega (arith, shallow-room c.requires (c.loop-i.invariant c.requires) (ap (λ (k : ℕ). c.args.at.node + k) c.size_at-size.ensures) c.loop-i-test.true, shallow-inside c.requires)

pub overflow_add-e : goal.overflow_add-e
overflow_add-e c = omega (arith, shallow-inside c.requires, c.size_at-size.ensures)

pub loop-i-preserved : goal.loop-i-preserved
loop-i-preserved c = λ g. shallow-next g (c.loop-i.invariant g) (ap (λ (k : ℕ). c.args.at.node + k) c.size_at-size.ensures) c.loop-i-test.true (c.is_leaf.ensures c.if-not-is_leaf.false)

pub returns : goal.returns
returns c = λ g t. shallow-end g (c.loop-i.invariant g) (ap (λ (k : ℕ). c.args.at.node + k) c.size_at-size.ensures) c.loop-i-test.false
