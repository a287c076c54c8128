use mathlib.Core.Path.{refl, ap}
use Rattle.syntax.specs.declared.Entry.{Entry}
use Rattle.marks.proofs.RepeatsLaws.{found_here, not-here, none_left}
use Rattle.marks.proofs.repeats.first_repeat.Goals as goal

pub loop-i-init : goal.loop-i-init
loop-i-init c = λ w. refl

pub is_repeat-requires : goal.is_repeat-requires
is_repeat-requires c = c.loop-i-test.true

pub name_of-requires : goal.name_of-requires
name_of-requires c = c.loop-i-test.true

pub returns-then-is_repeat : goal.returns-then-is_repeat
returns-then-is_repeat c = λ w. found_here c.args.declarations.text.now c.args.declarations.words.now c.args.declarations.count w c.loop-i.i c.loop-i-test.true (c.loop-i.invariant w) c.is_repeat.result c.name_of.result.at (c.is_repeat.ensures w) c.if-is_repeat.true (ap (λ (n : Entry). n.at) c.name_of.ensures)

pub loop-i-preserved : goal.loop-i-preserved
loop-i-preserved c = λ w. not-here c.args.declarations.text.now c.args.declarations.words.now c.args.declarations.count w c.loop-i.i c.loop-i-test.true (c.loop-i.invariant w) c.is_repeat.result (c.is_repeat.ensures w) c.if-is_repeat.false

pub returns : goal.returns
returns c = λ w. none_left c.args.declarations.text.now c.args.declarations.words.now c.args.declarations.count w c.loop-i.i c.loop-i-test.false (c.loop-i.invariant w)
