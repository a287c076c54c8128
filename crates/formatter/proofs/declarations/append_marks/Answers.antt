use native.Mathlib.Omega.{arith}
use Rattle.formatter.proofs.DeclarationLaws.{no_marks, first_of, next_of, marks_begun, marks_further, marks_ended}
use Rattle.formatter.proofs.declarations.append_marks.Goals as goal

pub returns-then-count-eq0 : goal.returns-then-count-eq0
returns-then-count-eq0 c = λ ms n e. no_marks c.if-count-eq0.true ms e

pub mark_byte-requires : goal.mark_byte-requires
mark_byte-requires c = first_of c.if-count-eq0.false c.requires.packed.0 (c.requires.packed.1, c.requires.packed.2) c.first_mark.ensures

pub loop-init : goal.loop-init
loop-init c = (
  omega (arith, c.append_byte-past_open.ensures.past, c.append_byte-written.ensures.past),
  (omega (arith, c.if-count-eq0.false), marks_begun c.mark_byte.ensures c.if-count-eq0.false c.first_mark.ensures c.other_marks-left.ensures c.append_byte-past_open.ensures c.append_byte-written.ensures),
)

pub mark_byte-requires-in-loop : goal.mark_byte-requires-in-loop
mark_byte-requires-in-loop c = next_of c.loop-test.true (c.loop.invariant.1.1 c.requires.packed.0 c.requires.packed.1 c.requires.packed.2).0 c.first_mark-in-loop.ensures

pub loop-preserved : goal.loop-preserved
loop-preserved c = (
  omega (arith, c.loop.invariant.0, c.append_byte-past_comma.ensures.past, c.append_byte-written-in-loop.ensures.past),
  (
    omega (arith, c.loop-test.true),
    λ ms n e.
        marks_further c.mark_byte-in-loop.ensures c.loop-test.true c.first_mark-in-loop.ensures c.other_marks-left-in-loop.ensures c.append_byte-past_comma.ensures c.append_byte-written-in-loop.ensures ms
        (c.loop.invariant.1.1 ms n e),
  ),
)

pub returns : goal.returns
returns c = λ ms n e. marks_ended c.loop-test.false ms (c.loop.invariant.1.1 ms n e) c.append_byte.ensures
