use native.Mathlib.Omega.{arith}
use Rattle.run.proofs.LayLaws.{slide-begin, slide-inside, slide-stops, slide-later, slide-next}
use Rattle.run.proofs.alternatives.laying.settled.Goals as goal

pub word_at-kind-requires : goal.word_at-kind-requires
word_at-kind-requires c = omega (arith, slide-inside c.requires (slide-begin c.requires))

pub loop-kind-init : goal.loop-kind-init
loop-kind-init c = (c.word_at-kind.ensures, λ w. slide-begin w)

pub overflow_add-literal : goal.overflow_add-literal
overflow_add-literal c = omega (arith, slide-inside c.requires (c.loop-kind.invariant.1 c.requires))

pub word_at-literal-requires : goal.word_at-literal-requires
word_at-literal-requires c = omega (arith, slide-inside c.requires (c.loop-kind.invariant.1 c.requires))

pub word_at-kind-requires-in-loop-kind : goal.word_at-kind-requires-in-loop-kind
word_at-kind-requires-in-loop-kind c = omega (arith, slide-inside c.requires (slide-next c.requires (c.loop-kind.invariant.1 c.requires) c.loop-kind.invariant.0 c.loop-kind-test.true c.word_at-literal.ensures))

pub loop-kind-smaller : goal.loop-kind-smaller
loop-kind-smaller c = omega (arith, slide-later c.requires (c.loop-kind.invariant.1 c.requires) c.loop-kind.invariant.0 c.loop-kind-test.true c.word_at-literal.ensures, slide-inside c.requires (slide-next c.requires (c.loop-kind.invariant.1 c.requires) c.loop-kind.invariant.0 c.loop-kind-test.true c.word_at-literal.ensures))

pub loop-kind-preserved : goal.loop-kind-preserved
loop-kind-preserved c = (c.word_at-kind-in-loop-kind.ensures, λ w. slide-next w (c.loop-kind.invariant.1 w) c.loop-kind.invariant.0 c.loop-kind-test.true c.word_at-literal.ensures)

pub returns : goal.returns
returns c = λ w. slide-stops w (c.loop-kind.invariant.1 w) c.loop-kind.invariant.0 c.loop-kind-test.false
