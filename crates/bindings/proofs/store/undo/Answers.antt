use Rattle.std.proofs.Common.{◌≡◌, ℕ, subst, arith}
use Rattle.bindings.specs.Cells.{Undone}
use Rattle.bindings.proofs.Deref.{undone-begin, undone-next, next-entry}
use Rattle.bindings.proofs.store.undo.Goals as goal

pub loop-i-init : goal.loop-i-init
loop-i-init c = (c.requires.mark_le_n, undone-begin c.args.state.now c.args.n)

pub overflow_add-at : goal.overflow_add-at
overflow_add-at c = omega (arith, next-entry c.args.state.now c.loop-i.state c.args.mark c.loop-i.i c.args.n c.loop-i-test.true c.requires.stored c.loop-i.invariant.1)

pub offset_bounds-state-at : goal.offset_bounds-state-at
offset_bounds-state-at c = omega (arith, next-entry c.args.state.now c.loop-i.state c.args.mark c.loop-i.i c.args.n c.loop-i-test.true c.requires.stored c.loop-i.invariant.1)

pub bounds-state-at : goal.bounds-state-at
bounds-state-at c = omega (arith, next-entry c.args.state.now c.loop-i.state c.args.mark c.loop-i.i c.args.n c.loop-i-test.true c.requires.stored c.loop-i.invariant.1)

pub offset_bounds-state-x : goal.offset_bounds-state-x
offset_bounds-state-x c = omega (arith, next-entry c.args.state.now c.loop-i.state c.args.mark c.loop-i.i c.args.n c.loop-i-test.true c.requires.stored c.loop-i.invariant.1)

pub bounds-state-x : goal.bounds-state-x
bounds-state-x c = omega (arith, next-entry c.args.state.now c.loop-i.state c.args.mark c.loop-i.i c.args.n c.loop-i-test.true c.requires.stored c.loop-i.invariant.1)

pub loop-i-preserved : goal.loop-i-preserved
loop-i-preserved c = (omega arith, undone-next c.args.state.now c.loop-i.state c.args.mark c.loop-i.i c.args.n c.loop-i-test.true c.requires.stored c.loop-i.invariant.1)

pub returns : goal.returns
returns c = subst (λ (k : ℕ). Undone c.args.state.now c.loop-i.state k c.args.n) (let e : c.loop-i.i ≡ c.args.mark = omega arith in e) c.loop-i.invariant.1
