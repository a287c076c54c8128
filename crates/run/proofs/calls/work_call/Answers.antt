use native.Mathlib.Omega.{arith}
use Rattle.run.proofs.ReadLaws.{work-inside, call_none, call-inside, call-room, call-tryable, call-end}
use Rattle.run.proofs.calls.work_call.Goals as goal

pub returns-then-next-eq0 : goal.returns-then-next-eq0
returns-then-next-eq0 c = λ w. call_none w c.requires.top_is c.requires.kind_is c.if-next-eq0.true

pub overflow_mul-i : goal.overflow_mul-i
overflow_mul-i c = omega (arith, call-inside c.requires.steppable c.requires.top_is c.requires.kind_is c.if-next-eq0.false, work-inside c.requires.steppable c.requires.top_is)

pub overflow_add-i : goal.overflow_add-i
overflow_add-i c = omega (arith, call-inside c.requires.steppable c.requires.top_is c.requires.kind_is c.if-next-eq0.false, work-inside c.requires.steppable c.requires.top_is)

pub word_at-after-requires : goal.word_at-after-requires
word_at-after-requires c = call-inside c.requires.steppable c.requires.top_is c.requires.kind_is c.if-next-eq0.false

pub put_next-requires : goal.put_next-requires
put_next-requires c = call-room c.requires.steppable c.requires.top_is c.requires.kind_is c.if-next-eq0.false c.word_at-after.ensures

pub try_clause-requires : goal.try_clause-requires
try_clause-requires c = call-tryable c.requires.steppable c.requires.top_is c.requires.kind_is c.if-next-eq0.false c.word_at-after.ensures c.put_next.ensures

pub returns : goal.returns
returns c = λ w. call-end w c.requires.top_is c.requires.kind_is c.if-next-eq0.false c.word_at-after.ensures c.put_next.ensures c.try_clause.new.state c.try_clause.new.scratch c.try_clause.result c.try_clause.ensures
