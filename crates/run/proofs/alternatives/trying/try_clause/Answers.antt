use native.Mathlib.Omega.{arith}
use Rattle.run.proofs.ReadLaws.{try-room, try-facts, try-unifiable, try-closed, try-fails, try-frame, try-layable, try-end}
use Rattle.run.proofs.alternatives.trying.try_clause.Goals as goal

pub top_at-s-requires : goal.top_at-s-requires
top_at-s-requires c = try-room c.requires

pub overflow_add-new : goal.overflow_add-new
overflow_add-new c = omega (arith, try-facts c.requires c.top_at-s.ensures)

pub overflow_mul-i : goal.overflow_mul-i
overflow_mul-i c = omega (arith, try-facts c.requires c.top_at-s.ensures)

pub overflow_add-l : goal.overflow_add-l
overflow_add-l c = omega (arith, try-facts c.requires c.top_at-s.ensures)

pub word_at-p-requires : goal.word_at-p-requires
word_at-p-requires c = omega (arith, try-facts c.requires c.top_at-s.ensures)

pub word_at-q-requires : goal.word_at-q-requires
word_at-q-requires c = omega (arith, try-facts c.requires c.top_at-s.ensures)

pub unify_closed-u-requires : goal.unify_closed-u-requires
unify_closed-u-requires c = record { unifiable = try-unifiable c.requires c.top_at-s.ensures c.word_at-p.ensures c.word_at-q.ensures; closed = try-closed c.requires c.top_at-s.ensures }

pub overflow_add-i : goal.overflow_add-i
overflow_add-i c = omega (arith, try-facts c.requires c.top_at-s.ensures)

pub word_at-body-requires : goal.word_at-body-requires
word_at-body-requires c = omega (arith, try-facts c.requires c.top_at-s.ensures)

pub put_frame-requires : goal.put_frame-requires
put_frame-requires c = try-frame c.requires c.top_at-s.ensures c.word_at-p.ensures c.word_at-q.ensures c.unify_closed-u.ensures

pub lay-requires : goal.lay-requires
lay-requires c = try-layable c.requires c.top_at-s.ensures c.word_at-p.ensures c.word_at-q.ensures c.unify_closed-u.ensures c.put_frame.ensures c.word_at-body.ensures

pub overflow_add-result : goal.overflow_add-result
overflow_add-result c = omega (arith, try-facts c.requires c.top_at-s.ensures)

pub returns-then-u : goal.returns-then-u
returns-then-u c = λ w. try-end w c.top_at-s.ensures c.word_at-p.ensures c.word_at-q.ensures c.unify_closed-u.ensures c.put_frame.ensures c.word_at-body.ensures c.if-u.true c.lay.new.state c.lay.ensures

pub returns : goal.returns
returns c = λ w. try-fails w c.top_at-s.ensures c.word_at-p.ensures c.word_at-q.ensures c.unify_closed-u.ensures c.if-u.false
