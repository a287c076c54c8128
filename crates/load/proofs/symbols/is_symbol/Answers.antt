-- `load::symbols::is_symbol` meets its contract. Assumes nothing.
use Rattle.load.proofs.Spelt.{symbol-not, symbol-is}
use Rattle.load.proofs.symbols.is_symbol.Goals as goal

pub returns-then-symbols-j : goal.returns-then-symbols-j
returns-then-symbols-j c = symbol-is c.args.texts.sheet.now c.args.texts.goal.now c.args.symbols.now c.args.k c.args.w c.args.arguments c.same_name.result c.if-symbols-j.true c.same_name.ensures

pub returns-else-symbols-j : goal.returns-else-symbols-j
returns-else-symbols-j c = symbol-not c.args.texts.sheet.now c.args.texts.goal.now c.args.symbols.now c.args.k c.args.w c.args.arguments c.if-symbols-j.false
