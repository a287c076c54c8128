use native.Mathlib.Omega.{arith}
use Rattle.formatter.proofs.DeclarationLaws.{declarations_begun, next_declaration, room_left, declarations_further, declarations_ended}
use Rattle.formatter.proofs.declarations.append_declarations.Goals as goal

pub loop-i-init : goal.loop-i-init
loop-i-init c = (omega arith, λ d. declarations_begun d)

pub append_declaration-written-requires-clause-stands : goal.append_declaration-written-requires-clause-stands
append_declaration-written-requires-clause-stands c = next_declaration c.loop-i-test.true (c.loop-i.invariant.1 c.args.declarations.stands).0

pub loop-i-preserved : goal.loop-i-preserved
loop-i-preserved c = (
  room_left c.loop-i-test.true c.append_declaration-written.ensures (c.loop-i.invariant.1 c.args.declarations.stands).0 c.loop-i.invariant.0,
  λ d. declarations_further c.loop-i-test.true c.append_declaration-written.ensures d.list (c.loop-i.invariant.1 d),
)

pub returns-clause-wrote : goal.returns-clause-wrote
returns-clause-wrote c = λ d. declarations_ended c.loop-i-test.false d.list (c.loop-i.invariant.1 d)
