-- `load::symbols::find_symbol` meets its contract. Assumes nothing.
use Rattle.std.proofs.Common.{◌≡◌, arith, rules, tests, true, false, ◌<◌}
use Rattle.std.specs.Prelude.{IfNone, IfSome}
use Rattle.std.proofs.lemmas.Iterator.{first_from_Range}
use Rattle.run_layout.specs.Nodes.{is_symbol, symbol_of}
use Rattle.load.specs.Symbols.{word_name, symbol_at, symbols_of}
use Rattle.load.proofs.Finding.{found-first}
use Rattle.load.proofs.symbols.find_symbol.Goals as goal

found : (c : goal.After-find)
    → IfNone c.find.result (c.args.count ≡ symbol_of (symbols_of c.args.texts.sheet.now c.args.texts.goal.now c.args.symbols.now c.args.count) (word_name c.args.texts.sheet.now c.args.texts.goal.now c.args.w) c.args.arguments)
    × IfSome c.find.result (λ k. (k < c.args.count) × (k ≡ symbol_of (symbols_of c.args.texts.sheet.now c.args.texts.goal.now c.args.symbols.now c.args.count) (word_name c.args.texts.sheet.now c.args.texts.goal.now c.args.w) c.args.arguments))
found c =
    let sheet = c.args.texts.sheet.now in
    let goal_ = c.args.texts.goal.now in
    let symbols = c.args.symbols.now in
    let f = word_name sheet goal_ c.args.w in
    found-first sheet goal_ symbols f c.args.arguments c.args.count c.find.result
    (first_from_Range _ _ _ _ (λ i. is_symbol f c.args.arguments (symbol_at sheet goal_ symbols i) ≡ true) (λ i. is_symbol f c.args.arguments (symbol_at sheet goal_ symbols i) ≡ false) c.find.ensures.ran
    (λ x q k. grind (arith, tests))
    (λ x q k. (search rules, grind (arith, tests))))

pub returns-clause-none : goal.returns-clause-none
returns-clause-none c = (found c).0

pub returns-clause-some : goal.returns-clause-some
returns-clause-some c = (found c).1
