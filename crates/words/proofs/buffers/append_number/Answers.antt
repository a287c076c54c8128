-- A space, then the digits, of which a 64-bit number has at most 20.
use native.Mathlib.Omega.{arith}
use Rattle.words.proofs.BuffersLaws.{then, decimal-few}
use Rattle.words.proofs.buffers.append_number.Goals as goal

pub returns : goal.returns
returns c = record { wrote = then c.append_byte-past_space.ensures c.append_decimal.ensures; within = omega (arith, decimal-few c.args.n (omega arith)) }
