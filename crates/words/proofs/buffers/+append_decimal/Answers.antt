use native.Mathlib.Omega.{arith}
use Rattle.words.proofs.BuffersLaws.{decimal-few, first-digit, next-digit}
use Prim.Native.Nat.{◌/◌}
use borrow.Author.Rules.{rules}
use Rattle.words.proofs.buffers.+append_decimal.Goals as goal

pub returns-then-n-lt10 : goal.returns-then-n-lt10
returns-then-n-lt10 t c = first-digit (search rules) c.append_byte.ensures

pub append_byte-requires-2 : goal.append_byte-requires-2
append_byte-requires-2 t c = omega (arith, decimal-few (c.args.n / 10) (omega arith))

pub returns : goal.returns
returns t c = next-digit (search rules) c.append_decimal-past.ensures c.append_byte-2.ensures
