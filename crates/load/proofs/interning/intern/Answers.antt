-- `load::interning::intern` meets its contract. Assumes nothing.
use native.Mathlib.Omega.{arith}
use lib.ListN.{length-set}
use Rattle.load.proofs.InterningLaws.{intern-old, intern-new}
use Rattle.load.proofs.interning.intern.Goals as goal

pub find_symbol-requires : goal.find_symbol-requires
find_symbol-requires c = (c.requires.0.0, c.requires.1.1)

pub returns-in-Some : goal.returns-in-Some
returns-in-Some c = intern-old c.args.texts.sheet.now c.args.texts.goal.now c.args.symbols.now c.args.count c.args.w c.args.arguments c.in-Some.k c.requires.0.0 c.in-Some.ensures.some.1 c.in-Some.ensures.some.0

pub bounds-symbols-j : goal.bounds-symbols-j
bounds-symbols-j c = omega (arith, c.requires.0.1, c.requires.1.0, length-set c.args.symbols.now c.args.count c.args.w)

pub returns : goal.returns
returns c = intern-new c.args.texts.sheet.now c.args.texts.goal.now c.args.symbols.now c.args.count c.args.w c.args.arguments c.args.count c.requires.0.0 c.in_default.ensures.none c.requires.0.1 c.requires.1.0 c.requires.1.1 (omega arith)
