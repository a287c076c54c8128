use native.Mathlib.Omega.{arith}
use mathlib.Core.Path.{refl, ◌∙◌}
use Rattle.determinacy.proofs.PairLaws.{range-begins, range-ends, range-leaves, range_clause, range_inside, range_head, range_of, range-left, range_stops, range_on}
use Rattle.determinacy.proofs.pairs.first_pair.Goals as goal

pub loop-i-init : goal.loop-i-init
loop-i-init c = (omega arith, (refl, (refl, λ w. range-begins w)))

pub overflow_add-head : goal.overflow_add-head
overflow_add-head c = omega (arith, range_inside c.requires c.loop-i-test.true (c.loop-i.invariant.1.1.1 c.requires))

pub marks_of-marks-requires : goal.marks_of-marks-requires
marks_of-marks-requires c = range_head c.requires c.loop-i-test.true (c.loop-i.invariant.1.1.1 c.requires)

pub first_overlap-requires : goal.first_overlap-requires
first_overlap-requires c = range_of c.requires c.loop-i-test.true (c.loop-i.invariant.1.1.1 c.requires) c.marks_of-marks.ensures

pub returns-in-Some : goal.returns-in-Some
returns-in-Some c =
    record {
      is = λ w. range_stops w c.loop-i-test.true (c.loop-i.invariant.1.1.1 w) c.marks_of-marks.ensures c.first_overlap.ensures c.in-Some.is;
      leaves = range-left c.requires c.loop-i-test.true (c.loop-i.invariant.1.1.1 c.requires) c.marks_of-marks.ensures c.first_overlap.ensures;
    }

pub past_clause-at-requires : goal.past_clause-at-requires
past_clause-at-requires c = range_clause c.requires c.loop-i-test.true (c.loop-i.invariant.1.1.1 c.requires)

pub loop-i-preserved : goal.loop-i-preserved
loop-i-preserved c = (omega arith, (c.first_overlap.auto.state ∙ c.loop-i.invariant.1.0, (c.first_overlap.auto.scratch ∙ c.loop-i.invariant.1.1.0, λ w. range_on w c.loop-i-test.true (c.loop-i.invariant.1.1.1 w) c.marks_of-marks.ensures c.first_overlap.ensures c.in_default.is c.past_clause-at.ensures)))

pub returns : goal.returns
returns c =
    record {
      is = λ w. range-ends w c.loop-i-test.false (c.loop-i.invariant.1.1.1 w);
      leaves = range-leaves c.requires (c.loop-i.invariant.1.1.1 c.requires);
    }
