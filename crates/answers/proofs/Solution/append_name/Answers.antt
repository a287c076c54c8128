use mathlib.Core.Path.{refl}
use native.Mathlib.Omega.{arith}
use Rattle.answers.proofs.NumberLaws.{name-inside, name-is, name-near}
use Rattle.answers.proofs.Solution.append_name.Goals as goal

pub offset_bounds-self-k : goal.offset_bounds-self-k
offset_bounds-self-k c = omega (arith, c.requires.0.listed)

pub bounds-self-k : goal.bounds-self-k
bounds-self-k c = omega (arith, c.requires.0.listed)

pub append_part-requires : goal.append_part-requires
append_part-requires c = let solution = c.args.self in (name-inside solution.symbols.now solution.sheet.now solution.goal.now c.args.k _ c.text_of-text.ensures refl c.symbol_place-place.ensures c.span_length-len.ensures c.requires.0, omega (arith, c.span_length-len.ensures))

pub returns : goal.returns
returns c = let solution = c.args.self in record { wrote = name-is solution.symbols.now solution.sheet.now solution.goal.now c.args.k _ c.text_of-text.ensures refl c.symbol_place-place.ensures c.span_length-len.ensures c.append_part.ensures; near = name-near _ _ _ c.symbol_place-place.result c.span_length-len.result _ _ (omega (arith, c.span_length-len.ensures)) c.append_part.ensures }
