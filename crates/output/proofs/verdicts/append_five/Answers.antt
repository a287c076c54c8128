-- Five numbers, one after another.
use native.Mathlib.Omega.{arith}
use Rattle.words.proofs.BuffersLaws.{then}
use Rattle.output.proofs.verdicts.append_five.Goals as goal

pub returns : goal.returns
returns c = record { wrote = then (then (then (then c.append_number-past_number.ensures.wrote c.append_number-past_byte.ensures.wrote) c.append_number-past_clause.ensures.wrote) c.append_number-past_literal.ensures.wrote) c.append_number.ensures.wrote; within = omega arith }
