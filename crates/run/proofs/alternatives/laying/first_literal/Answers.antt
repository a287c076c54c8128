use native.Mathlib.Omega.{arith}
use Rattle.run.proofs.LayLaws.{climb-settlable, along-begin, along-inside, along-frame, along-stops, along-goal, along-less, along-settlable, along-next, along-fits}
use Rattle.run.proofs.alternatives.laying.first_literal.Goals as goal

pub settled-literal-requires : goal.settled-literal-requires
settled-literal-requires c = climb-settlable c.requires

pub loop-copy-init : goal.loop-copy-init
loop-copy-init c = λ w. along-begin w c.settled-literal.ensures

pub word_at-requires : goal.word_at-requires
word_at-requires c = along-inside c.requires (c.loop-copy.invariant c.requires)

pub returns-then-word_at-ne-END_KIND : goal.returns-then-word_at-ne-END_KIND
returns-then-word_at-ne-END_KIND c = λ w. along-stops w (c.loop-copy.invariant w) c.word_at.result c.word_at.ensures c.if-word_at-ne-END_KIND.true

pub caller_at-s-requires : goal.caller_at-s-requires
caller_at-s-requires c = along-frame c.requires (c.loop-copy.invariant c.requires)

pub next_literal-next-requires : goal.next_literal-next-requires
next_literal-next-requires c = omega (arith, along-fits c.requires (c.loop-copy.invariant c.requires) c.loop-copy-test.true c.word_at.result c.word_at.ensures c.if-word_at-ne-END_KIND.false c.caller_at-s.result c.caller_at-s.ensures)

pub settled-literal-requires-in-loop-copy : goal.settled-literal-requires-in-loop-copy
settled-literal-requires-in-loop-copy c = along-settlable c.requires (c.loop-copy.invariant c.requires) c.loop-copy-test.true c.word_at.result c.word_at.ensures c.if-word_at-ne-END_KIND.false c.caller_at-s.result c.caller_at-s.ensures c.next_literal-next.ensures

pub loop-copy-smaller : goal.loop-copy-smaller
loop-copy-smaller c = along-less c.requires (c.loop-copy.invariant c.requires) c.loop-copy-test.true c.word_at.result c.word_at.ensures c.if-word_at-ne-END_KIND.false c.caller_at-s.result c.caller_at-s.ensures

pub loop-copy-preserved : goal.loop-copy-preserved
loop-copy-preserved c = λ w. along-next w (c.loop-copy.invariant w) c.loop-copy-test.true c.word_at.result c.word_at.ensures c.if-word_at-ne-END_KIND.false c.caller_at-s.result c.caller_at-s.ensures c.next_literal-next.ensures c.settled-literal-in-loop-copy.ensures

pub returns : goal.returns
returns c = λ w. along-goal w (c.loop-copy.invariant w) c.loop-copy-test.false
