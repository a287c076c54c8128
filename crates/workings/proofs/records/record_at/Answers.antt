-- What stands at a place, by its kind. Assumes nothing.
use native.Mathlib.Omega.{arith}
use Rattle.std.proofs.Common.{rules}
use Rattle.workings.proofs.RecordLaws.{none-left, left-shown, right-shown, other-shown, cut-shown, takes-shown}
use Rattle.workings.proofs.records.record_at.Goals as goal

pub returns-then-left-eq0 : goal.returns-then-left-eq0
returns-then-left-eq0 c = none-left c.args.workings.now c.args.at c.if-left-eq0.true

pub returns-then-left-lt3 : goal.returns-then-left-lt3
returns-then-left-lt3 c = cut-shown c.args.workings.now c.args.at (omega (arith, c.if-left-eq0.false)) c.in-1.is c.if-left-lt3.true

pub returns-else-left-lt3 : goal.returns-else-left-lt3
returns-else-left-lt3 c = takes-shown c.args.workings.now c.args.at (omega (arith, c.if-left-eq0.false)) c.number_at-number.result c.in-1.is c.if-left-lt3.false c.number_at-number.ensures

pub returns-in-2 : goal.returns-in-2
returns-in-2 c = left-shown c.args.workings.now c.args.at (omega (arith, c.if-left-eq0.false)) c.in-2.is

pub returns-in-3 : goal.returns-in-3
returns-in-3 c = right-shown c.args.workings.now c.args.at (omega (arith, c.if-left-eq0.false)) c.in-3.is

pub returns-in_default : goal.returns-in_default
returns-in_default c = other-shown c.args.workings.now c.args.at (omega (arith, c.if-left-eq0.false)) (search rules) (search rules) (search rules)
