use native.Mathlib.Omega.{arith}
use Rattle.unify.proofs.CycleLaws.{test-stored, test-clear, test-spent, test-cycle}
use Rattle.unify.proofs.cycles.find_cycle.Goals as goal

pub undo-requires : goal.undo-requires
undo-requires c = record { stored = test-stored c.requires c.search_pending-p.ensures; mark_le_n = omega arith }

pub returns-then-p-eq0 : goal.returns-then-p-eq0
returns-then-p-eq0 c = λ g. test-clear g c.search_pending-p.ensures c.undo.ensures c.if-p-eq0.true

pub returns-then-is_spent : goal.returns-then-is_spent
returns-then-is_spent c = λ g. test-spent g c.search_pending-p.ensures c.undo.ensures (c.is_spent.ensures.spent c.if-is_spent.true)

pub returns-else-is_spent : goal.returns-else-is_spent
returns-else-is_spent c = λ g. test-cycle g c.search_pending-p.ensures c.undo.ensures c.if-p-eq0.false (c.is_spent.ensures.stays c.if-is_spent.false)
