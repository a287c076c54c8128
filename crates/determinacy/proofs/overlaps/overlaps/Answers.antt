-- `determinacy::overlaps::overlaps` meets its contract. Assumes nothing.
use native.Mathlib.Omega.{arith}
use Rattle.determinacy.proofs.OverlapLaws.{first-record, second-record, heads-inside, pair-joinable, pair-stored, pair-overlaps}
use Rattle.determinacy.proofs.overlaps.overlaps.Goals as goal

pub head_of-p-requires : goal.head_of-p-requires
head_of-p-requires c = first-record c.requires

pub head_of-q-requires : goal.head_of-q-requires
head_of-q-requires c = second-record c.requires

pub past-requires : goal.past-requires
past-requires c = (heads-inside c.requires c.head_of-p.ensures c.head_of-q.ensures).0

pub overflow_add-args : goal.overflow_add-args
overflow_add-args c = omega (arith, (heads-inside c.requires c.head_of-p.ensures c.head_of-q.ensures).1)

pub overflow_add-args-2 : goal.overflow_add-args-2
overflow_add-args-2 c = omega (arith, (heads-inside c.requires c.head_of-p.ensures c.head_of-q.ensures).2)

pub join_inputs-u-requires : goal.join_inputs-u-requires
join_inputs-u-requires c = pair-joinable c.requires c.head_of-p.ensures c.head_of-q.ensures c.past.ensures

pub undo-requires : goal.undo-requires
undo-requires c = record { stored = pair-stored c.requires c.head_of-p.ensures c.head_of-q.ensures c.past.ensures c.join_inputs-u.ensures; mark_le_n = omega arith }

pub returns : goal.returns
returns c = λ w. pair-overlaps w c.head_of-p.ensures c.head_of-q.ensures c.past.ensures c.join_inputs-u.ensures c.undo.ensures
