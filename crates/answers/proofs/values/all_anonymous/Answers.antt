use mathlib.Core.Path.{refl}
use lib.ListN.{get_or}
use native.Mathlib.Omega.{arith}
use Rattle.answers.proofs.ValueLaws.{all_start, all_more, all-not, all_end, word-inside}
use Rattle.answers.proofs.values.all_anonymous.Goals as goal

pub loop-i-init : goal.loop-i-init
loop-i-init c = (omega arith, all_start _ _ _)

pub offset_bounds-names-i : goal.offset_bounds-names-i
offset_bounds-names-i c = omega (arith, c.requires.listed)

pub bounds-names-i : goal.bounds-names-i
bounds-names-i c = omega (arith, c.requires.listed)

pub is_anonymous-requires : goal.is_anonymous-requires
is_anonymous-requires c = word-inside c.requires c.loop-i-test.true refl

pub returns-then-not-is_anonymous : goal.returns-then-not-is_anonymous
returns-then-not-is_anonymous c = let args = c.args in let loop = c.loop-i in all-not args.goal.now args.names.now args.count loop.i (get_or args.names.now loop.i 0) c.is_anonymous.result c.loop-i-test.true refl c.is_anonymous.ensures c.if-not-is_anonymous.true loop.invariant.1

pub loop-i-preserved : goal.loop-i-preserved
loop-i-preserved c = let args = c.args in let loop = c.loop-i in (omega arith, all_more args.goal.now args.names.now args.count loop.i (get_or args.names.now loop.i 0) c.is_anonymous.result c.loop-i-test.true refl c.is_anonymous.ensures c.if-not-is_anonymous.false loop.invariant.1)

pub returns : goal.returns
returns c = all_end _ _ c.args.count c.loop-i.i c.loop-i-test.false c.loop-i.invariant.1
