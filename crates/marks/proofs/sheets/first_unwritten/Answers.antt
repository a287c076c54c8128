use native.Mathlib.Omega.{arith}
use mathlib.Core.Path.{refl, ap}
use Rattle.syntax.specs.declared.Entry.{Entry}
use Rattle.marks.proofs.SheetsLaws.{found_here, not-here, nowhere}
use Rattle.marks.proofs.sheets.first_unwritten.Goals as goal

pub loop-i-init : goal.loop-i-init
loop-i-init c = λ w. refl

pub bounds-flags-i : goal.bounds-flags-i
bounds-flags-i c = omega (arith, c.requires.few)

pub may_stay-requires : goal.may_stay-requires
may_stay-requires c = c.loop-i-test.true

pub name_of-requires : goal.name_of-requires
name_of-requires c = c.loop-i-test.true

pub returns-then-not-may_stay : goal.returns-then-not-may_stay
returns-then-not-may_stay c = λ w. found_here w c.loop-i.i c.loop-i-test.true (c.loop-i.invariant w) c.head_flags-flags.result (c.head_flags-flags.ensures w)
    c.may_stay.result c.may_stay.ensures c.if-not-may_stay.true c.name_of.result.at (ap (λ (n : Entry). n.at) c.name_of.ensures)

pub loop-i-preserved : goal.loop-i-preserved
loop-i-preserved c = λ w. not-here w c.loop-i.i c.loop-i-test.true (c.loop-i.invariant w) c.head_flags-flags.result (c.head_flags-flags.ensures w)
    c.may_stay.result c.may_stay.ensures c.if-not-may_stay.false

pub returns : goal.returns
returns c = λ w. nowhere w c.loop-i.i c.loop-i-test.false (c.loop-i.invariant w)
