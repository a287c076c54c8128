use native.Mathlib.Omega.{arith}
use mathlib.Core.Path.{◌∙◌}
use Rattle.run.proofs.GoingLaws.{go-begin, go-running, go-few, go-end, go-answers, go-answer-more, go-below, go-full, answers-going, go-steps, go-more, steps-going}
use Rattle.run.proofs.turns.turn.Goals as goal

pub loop-kind-init : goal.loop-kind-init
loop-kind-init c = go-begin

pub overflow_sub-left : goal.overflow_sub-left
overflow_sub-left c = omega (arith, go-few c.loop-kind.invariant c.requires.underway)

pub next_of-requires : goal.next_of-requires
next_of-requires c = go-running c.loop-kind.invariant c.requires.underway

pub returns-in-End : goal.returns-in-End
returns-in-End c = λ w. rw c.at_end.ensures (go-end c.loop-kind.invariant w c.next_of.ensures c.in-End.kind c.in-End.is)

pub answer-t-requires : goal.answer-t-requires
answer-t-requires c = go-answers c.loop-kind.invariant c.requires.underway c.next_of.ensures c.in-Answer.is

pub returns-in_default : goal.returns-in_default
returns-in_default c = λ w. rw c.at_end-in_default.ensures (go-full c.loop-kind.invariant w c.next_of.ensures c.in-Answer.is c.answer-t.ensures c.in_default.is)

pub overflow_add-answers : goal.overflow_add-answers
overflow_add-answers c = omega (arith, go-below c.loop-kind.invariant c.requires.underway c.next_of.ensures c.in-Answer.is, c.well_formed)

pub overflow_add-steps : goal.overflow_add-steps
overflow_add-steps c = omega (arith, go-answer-more c.loop-kind.invariant c.requires.underway c.next_of.ensures c.in-Answer.is, c.well_formed, c.requires.k_bound)

pub loop-kind-smaller-in-Answer : goal.loop-kind-smaller-in-Answer
loop-kind-smaller-in-Answer c = omega (arith, go-answer-more c.loop-kind.invariant c.requires.underway c.next_of.ensures c.in-Answer.is)

pub loop-kind-preserved-in-Answer : goal.loop-kind-preserved-in-Answer
loop-kind-preserved-in-Answer c = record { state_long = c.answer-t.auto.state ∙ c.loop-kind.invariant.state_long; scratch_long = c.answer-t.auto.scratch ∙ c.loop-kind.invariant.scratch_long; text_long = c.answer-t.auto.text ∙ c.loop-kind.invariant.text_long; on = λ w. answers-going c.loop-kind.invariant w c.next_of.ensures c.in-Answer.is c.answer-t.ensures c.in-Some.is }

pub step-pile-requires : goal.step-pile-requires
step-pile-requires c = go-steps c.loop-kind.invariant c.requires.underway c.next_of.ensures c.in-Step.is

pub overflow_add-steps-in-Step : goal.overflow_add-steps-in-Step
overflow_add-steps-in-Step c = omega (arith, go-more c.loop-kind.invariant c.requires.underway c.next_of.ensures c.in-Step.is, c.well_formed, c.requires.k_bound)

pub loop-kind-smaller : goal.loop-kind-smaller
loop-kind-smaller c = omega (arith, go-more c.loop-kind.invariant c.requires.underway c.next_of.ensures c.in-Step.is)

pub loop-kind-preserved : goal.loop-kind-preserved
loop-kind-preserved c = record { state_long = c.step-pile.auto.state ∙ c.loop-kind.invariant.state_long; scratch_long = c.step-pile.auto.scratch ∙ c.loop-kind.invariant.scratch_long; text_long = c.loop-kind.invariant.text_long; on = λ w. steps-going c.loop-kind.invariant w c.next_of.ensures c.in-Step.is _ _ c.step-pile.result c.step-pile.ensures }
