use native.Mathlib.Omega.{arith}
use Rattle.run.proofs.ReadLaws.{work-room, work-inside, kind-read, work-pops, truth-layable, truth-end}
use Rattle.run.proofs.steps.literals.work.Goals as goal

pub top_at-s-requires : goal.top_at-s-requires
top_at-s-requires c = work-room c.requires

pub word_at-kind-requires : goal.word_at-kind-requires
word_at-kind-requires c = omega (arith, work-inside c.requires c.top_at-s.ensures)

pub work_call-requires : goal.work_call-requires
work_call-requires c = record { steppable = c.requires; top_is = c.top_at-s.ensures; kind_is = kind-read c.requires c.top_at-s.ensures c.word_at-kind.ensures c.if-kind-eq-CALL_KIND.true }

pub work_equation-requires : goal.work_equation-requires
work_equation-requires c = record { steppable = c.requires; top_is = c.top_at-s.ensures; kind_is = kind-read c.requires c.top_at-s.ensures c.word_at-kind.ensures c.if-kind-eq-EQUATION_KIND.true }

pub work_either-requires : goal.work_either-requires
work_either-requires c = (c.args.program.nodes.now, c.args.scratch.now, record { steppable = c.requires; top_is = c.top_at-s.ensures; kind_is = kind-read c.requires c.top_at-s.ensures c.word_at-kind.ensures c.if-kind-eq-SPLIT_KIND.true })

pub returns-then-kind-eq-SPLIT_KIND : goal.returns-then-kind-eq-SPLIT_KIND
returns-then-kind-eq-SPLIT_KIND c = c.work_either.ensures c.args.program.nodes.now c.args.scratch.now

pub next_literal-requires : goal.next_literal-requires
next_literal-requires c = omega (arith, work-inside c.requires c.top_at-s.ensures)

pub lay-requires : goal.lay-requires
lay-requires c = truth-layable c.requires c.top_at-s.ensures c.word_at-kind.ensures c.if-kind-eq-TRUTH_KIND.true c.next_literal.ensures

pub returns-then-kind-eq-TRUTH_KIND : goal.returns-then-kind-eq-TRUTH_KIND
returns-then-kind-eq-TRUTH_KIND c = λ w. truth-end w c.top_at-s.ensures c.word_at-kind.ensures c.if-kind-eq-TRUTH_KIND.true c.next_literal.ensures c.lay.new.state c.lay.ensures

pub returns : goal.returns
returns c = λ w. work-pops w c.top_at-s.ensures c.word_at-kind.ensures c.if-kind-eq-CALL_KIND.false c.if-kind-eq-EQUATION_KIND.false c.if-kind-eq-SPLIT_KIND.false c.if-kind-eq-TRUTH_KIND.false
