use native.Mathlib.Omega.{arith}
use Rattle.run.proofs.ReadLaws.{work-inside, equation-unifiable, equation-fails, equation-layable, equation-end}
use Rattle.run.proofs.steps.literals.work_equation.Goals as goal

pub overflow_add-l : goal.overflow_add-l
overflow_add-l c = omega (arith, work-inside c.requires.steppable c.requires.top_is)

pub word_at-p-requires : goal.word_at-p-requires
word_at-p-requires c = omega (arith, work-inside c.requires.steppable c.requires.top_is)

pub overflow_add-l-2 : goal.overflow_add-l-2
overflow_add-l-2 c = omega (arith, work-inside c.requires.steppable c.requires.top_is)

pub word_at-q-requires : goal.word_at-q-requires
word_at-q-requires c = omega (arith, work-inside c.requires.steppable c.requires.top_is)

pub unify-u-requires : goal.unify-u-requires
unify-u-requires c = equation-unifiable c.requires.steppable c.requires.top_is c.requires.kind_is c.word_at-p.ensures c.word_at-q.ensures

pub next_literal-requires : goal.next_literal-requires
next_literal-requires c = omega (arith, work-inside c.requires.steppable c.requires.top_is)

pub lay-requires : goal.lay-requires
lay-requires c = equation-layable c.requires.steppable c.requires.top_is c.requires.kind_is c.word_at-p.ensures c.word_at-q.ensures c.unify-u.ensures c.if-u.true c.next_literal.ensures

pub returns-then-u : goal.returns-then-u
returns-then-u c = λ w. equation-end w c.requires.top_is c.requires.kind_is c.word_at-p.ensures c.word_at-q.ensures c.unify-u.ensures c.if-u.true c.next_literal.ensures c.lay.new.state c.lay.ensures

pub returns : goal.returns
returns c = λ w. equation-fails w c.requires.top_is c.requires.kind_is c.word_at-p.ensures c.word_at-q.ensures c.unify-u.ensures c.if-u.false
