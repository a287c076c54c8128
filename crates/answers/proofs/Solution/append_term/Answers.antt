use Rattle.answers.proofs.WalkLaws.{facing-stored, facing-head, facing-spelt}
use Rattle.answers.proofs.Solution.append_term.Goals as goal

pub deref-end-requires : goal.deref-end-requires
deref-end-requires c = facing-stored c.requires.some_facing.is

pub append_head-requires : goal.append_head-requires
append_head-requires c = let some = c.requires.some_facing in record { some_heading = record { ss = some.ss; b = _; is = facing-head some.is (c.deref-end.ensures (facing-stored some.is)) }; counting = c.requires.counting }

pub returns : goal.returns
returns c = record { told = (λ ss n met rest f h. let end = c.deref-end.ensures (facing-stored f) in facing-spelt f met rest end (c.append_head.ensures.told ss _ met rest (facing-head f end) h)); near = c.append_head.ensures.near }
