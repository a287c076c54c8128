use native.Mathlib.Omega.{arith}
use Rattle.unify.proofs.Solving.{solve-begin, mass-low, solve-stored, solve-testable, solve-cyclic, solve-done, look-lost, look-on, look-mass, solve-turnable, solve-clash, turn-next, turn-falls, due-stored, due-room, due-closed, bind-next, bind-falls}
use Rattle.unify.proofs.solve.solve_pair.Goals as goal

pub loop-h-init : goal.loop-h-init
loop-h-init c = ((c.requires.closed, omega arith), λ g. solve-begin g)

-- ---- the test

pub look-requires : goal.look-requires
look-requires c = solve-testable c.requires.solvable (c.loop-h.invariant.1 c.requires.solvable)

pub fail-requires : goal.fail-requires
fail-requires c = record { stored = solve-stored c.requires.solvable (c.loop-h.invariant.1 c.requires.solvable); low = (c.loop-h.invariant.1 c.requires.solvable).safe.grows }

pub returns-in_default : goal.returns-in_default
returns-in_default c = λ g. rw c.fail.ensures.is (look-lost g (c.loop-h.invariant.1 g) c.look.ensures c.in_default.is c.fail.ensures.undone)

pub loop-h-smaller-then-left-eq0 : goal.loop-h-smaller-then-left-eq0
loop-h-smaller-then-left-eq0 c = omega (arith, look-mass c.requires.solvable (c.loop-h.invariant.1 c.requires.solvable) c.look.ensures c.in-Some.is, c.doubled-turns.ensures c.loop-h.invariant.0.1, c.if-left-eq0.true)

pub loop-h-preserved-then-left-eq0 : goal.loop-h-preserved-then-left-eq0
loop-h-preserved-then-left-eq0 c = ((c.loop-h.invariant.0.0, c.doubled-turns.ensures c.loop-h.invariant.0.1), λ g. look-on g (c.loop-h.invariant.1 g) c.look.ensures c.in-Some.is)

-- ---- a turn

pub next_turn-t-requires : goal.next_turn-t-requires
next_turn-t-requires c = solve-turnable c.requires.solvable (c.loop-h.invariant.1 c.requires.solvable) c.loop-h-test.true

pub loop-h-smaller-in-Ok : goal.loop-h-smaller-in-Ok
loop-h-smaller-in-Ok c = omega (arith, turn-falls c.requires.solvable (c.loop-h.invariant.1 c.requires.solvable) c.loop-h-test.true c.next_turn-t.result c.next_turn-t.ensures.means c.next_turn-t.ensures.safe c.in-Ok.is)

pub loop-h-preserved-in-Ok : goal.loop-h-preserved-in-Ok
loop-h-preserved-in-Ok c = (c.loop-h.invariant.0, λ g. turn-next g (c.loop-h.invariant.1 g) c.loop-h-test.true c.next_turn-t.result c.next_turn-t.ensures.means c.next_turn-t.ensures.safe c.in-Ok.is)

pub returns-in-Err-Clash : goal.returns-in-Err-Clash
returns-in-Err-Clash c = λ g. rw c.fail-in-Err-Clash.ensures.is (solve-clash g (c.loop-h.invariant.1 g) c.loop-h-test.true c.next_turn-t.result c.next_turn-t.ensures.means c.next_turn-t.ensures.safe c.in-Err-Clash.is (rw c.in-Err-Clash.is at c.in-Err-Clash.field-0-is) c.fail-in-Err-Clash.ensures.undone)

-- ---- a binding

pub closes_none-plain-requires : goal.closes_none-plain-requires
closes_none-plain-requires c = due-stored c.requires.solvable (c.loop-h.invariant.1 c.requires.solvable) c.loop-h-test.true c.next_turn-t.result c.next_turn-t.ensures.means c.next_turn-t.ensures.safe c.in-Err-Bind.is (rw c.in-Err-Bind.is at c.in-Err-Bind.field-0-is)

pub note_pending-count-requires : goal.note_pending-count-requires
note_pending-count-requires c = let d = due-room c.requires.solvable (c.loop-h.invariant.1 c.requires.solvable) c.loop-h-test.true c.next_turn-t.result c.next_turn-t.ensures.means c.next_turn-t.ensures.safe c.in-Err-Bind.is (rw c.in-Err-Bind.is at c.in-Err-Bind.field-0-is) in (d.1.1.1, (d.1.1.0, d.0.0))

pub bind-requires : goal.bind-requires
bind-requires c = (due-room c.requires.solvable (c.loop-h.invariant.1 c.requires.solvable) c.loop-h-test.true c.next_turn-t.result c.next_turn-t.ensures.means c.next_turn-t.ensures.safe c.in-Err-Bind.is (rw c.in-Err-Bind.is at c.in-Err-Bind.field-0-is)).0

pub overflow_add-trail : goal.overflow_add-trail
overflow_add-trail c = omega (arith, due-room c.requires.solvable (c.loop-h.invariant.1 c.requires.solvable) c.loop-h-test.true c.next_turn-t.result c.next_turn-t.ensures.means c.next_turn-t.ensures.safe c.in-Err-Bind.is (rw c.in-Err-Bind.is at c.in-Err-Bind.field-0-is))

pub loop-h-smaller : goal.loop-h-smaller
loop-h-smaller c =
    bind-falls c.args.nodes.now c.loop-h.scratch c.note_pending-count.new.scratch c.loop-h.trail c.loop-h.h c.in-Err-Bind.height c.loop-h.left _ (due-room c.requires.solvable (c.loop-h.invariant.1 c.requires.solvable) c.loop-h-test.true c.next_turn-t.result c.next_turn-t.ensures.means c.next_turn-t.ensures.safe c.in-Err-Bind.is (rw c.in-Err-Bind.is at c.in-Err-Bind.field-0-is)).1.0
    (mass-low c.requires.solvable (bind-next c.requires.solvable (c.loop-h.invariant.1 c.requires.solvable) c.loop-h-test.true c.next_turn-t.result c.next_turn-t.ensures.means c.next_turn-t.ensures.safe c.in-Err-Bind.is (rw c.in-Err-Bind.is at c.in-Err-Bind.field-0-is) c.loop-h.invariant.0.0 c.closes_none-plain.ensures c.note_pending-count.ensures.passed c.note_pending-count.ensures.noted c.bind.ensures))

pub loop-h-preserved : goal.loop-h-preserved
loop-h-preserved c = ((due-closed c.requires.solvable (c.loop-h.invariant.1 c.requires.solvable) c.loop-h-test.true c.next_turn-t.result c.next_turn-t.ensures.means c.next_turn-t.ensures.safe c.in-Err-Bind.is (rw c.in-Err-Bind.is at c.in-Err-Bind.field-0-is) c.loop-h.invariant.0.0 c.closed_to-closed.ensures c.bind.ensures, c.loop-h.invariant.0.1), λ g. bind-next g (c.loop-h.invariant.1 g) c.loop-h-test.true c.next_turn-t.result c.next_turn-t.ensures.means c.next_turn-t.ensures.safe c.in-Err-Bind.is (rw c.in-Err-Bind.is at c.in-Err-Bind.field-0-is) c.loop-h.invariant.0.0 c.closes_none-plain.ensures c.note_pending-count.ensures.passed c.note_pending-count.ensures.noted c.bind.ensures)

-- ---- the end

pub is_cyclic-requires : goal.is_cyclic-requires
is_cyclic-requires c = solve-testable c.requires.solvable (c.loop-h.invariant.1 c.requires.solvable)

pub fail-requires-then-is_cyclic : goal.fail-requires-then-is_cyclic
fail-requires-then-is_cyclic c = record { stored = solve-stored c.requires.solvable (c.loop-h.invariant.1 c.requires.solvable); low = (c.loop-h.invariant.1 c.requires.solvable).safe.grows }

pub returns-then-is_cyclic : goal.returns-then-is_cyclic
returns-then-is_cyclic c = λ g. rw c.fail-then-is_cyclic.ensures.is (solve-cyclic g (c.loop-h.invariant.1 g) c.is_cyclic.ensures c.if-is_cyclic.true c.fail-then-is_cyclic.ensures.undone)

pub returns : goal.returns
returns c = λ g. solve-done g (c.loop-h.invariant.1 g) c.is_cyclic.ensures c.if-is_cyclic.false c.loop-h-test.false
