use native.Mathlib.Omega.{arith}
use Rattle.run.proofs.ReadLaws.{work-inside, right-layable, left-layable, either_end}
use Rattle.run.proofs.brackets.work_either.Goals as goal

pub overflow_sub-j : goal.overflow_sub-j
overflow_sub-j c = c.requires.2.steppable.some

pub overflow_add-l : goal.overflow_add-l
overflow_add-l c = omega (arith, work-inside c.requires.2.steppable c.requires.2.top_is)

pub word_at-requires : goal.word_at-requires
word_at-requires c = omega (arith, work-inside c.requires.2.steppable c.requires.2.top_is)

pub next_literal-requires : goal.next_literal-requires
next_literal-requires c = omega (arith, work-inside c.requires.2.steppable c.requires.2.top_is)

pub lay-requires : goal.lay-requires
lay-requires c = right-layable c.requires.2.steppable c.requires.2.top_is c.requires.2.kind_is c.word_at.ensures

pub lay-requires-2 : goal.lay-requires-2
lay-requires-2 c = left-layable c.requires.2.steppable c.requires.2.top_is c.requires.2.kind_is c.word_at.ensures c.lay.ensures c.next_literal.ensures

pub overflow_add-result : goal.overflow_add-result
overflow_add-result c = omega (arith, (left-layable c.requires.2.steppable c.requires.2.top_is c.requires.2.kind_is c.word_at.ensures c.lay.ensures c.next_literal.ensures).room)

pub returns : goal.returns
returns c = λ nodes scratch w. either_end w c.requires.2.top_is c.requires.2.kind_is c.word_at.ensures c.lay.ensures c.next_literal.ensures c.lay-2.new.state c.lay-2.ensures
