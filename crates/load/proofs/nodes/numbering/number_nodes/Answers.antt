use Prim.Native.Nat.{◌+◌}
use native.Mathlib.Omega.{arith}
use mathlib.Core.Path.{refl, ◌∙◌}
use Rattle.load.specs.Symbols.{symbols_of}
use Rattle.load.proofs.Numbered.{none-listed, number-begin, number-turn, number-end}
use Rattle.load.proofs.nodes.numbering.number_nodes.Goals as goal

pub loop-p-init : goal.loop-p-init
loop-p-init c = (refl, (refl, (omega arith, (none-listed c.args.texts.sheet.now c.args.texts.goal.now c.args.symbols.now c.requires.nodes_words_in_bounds.0, λ w. number-begin c.args.texts.sheet.now c.args.texts.goal.now c.args.nodes.now c.args.symbols.now c.args.stop w))))

pub number_node-count-requires : goal.number_node-count-requires
number_node-count-requires c = record { symbols_listed = ((c.loop-p.invariant.1.1.1.0, omega (arith, c.loop-p.invariant.1.1.0, (number-turn c.args.texts.sheet.now c.args.texts.goal.now c.requires.copied.flats c.args.nodes.now c.loop-p.nodes c.args.stop c.loop-p.p (symbols_of c.args.texts.sheet.now c.args.texts.goal.now c.loop-p.symbols c.loop-p.count) c.loop-p-test.true (c.loop-p.invariant.1.1.1.1 c.requires.copied)).within, c.requires.nodes_words_in_bounds.1)), (omega (arith, c.loop-p.invariant.1.0, c.requires.nodes_words_in_bounds.0), omega (arith, (number-turn c.args.texts.sheet.now c.args.texts.goal.now c.requires.copied.flats c.args.nodes.now c.loop-p.nodes c.args.stop c.loop-p.p (symbols_of c.args.texts.sheet.now c.args.texts.goal.now c.loop-p.symbols c.loop-p.count) c.loop-p-test.true (c.loop-p.invariant.1.1.1.1 c.requires.copied)).room))); node_inside = (number-turn c.args.texts.sheet.now c.args.texts.goal.now c.requires.copied.flats c.args.nodes.now c.loop-p.nodes c.args.stop c.loop-p.p (symbols_of c.args.texts.sheet.now c.args.texts.goal.now c.loop-p.symbols c.loop-p.count) c.loop-p-test.true (c.loop-p.invariant.1.1.1.1 c.requires.copied)).inside }

pub loop-p-preserved : goal.loop-p-preserved
loop-p-preserved c = (c.number_node-count.auto.nodes ∙ c.loop-p.invariant.0, (c.number_node-count.auto.symbols ∙ c.loop-p.invariant.1.0, (omega (arith, c.number_node-count.ensures.few, c.loop-p.invariant.1.1.0), (c.number_node-count.ensures.listed, λ w. (number-turn c.args.texts.sheet.now c.args.texts.goal.now w.flats c.args.nodes.now c.loop-p.nodes c.args.stop c.loop-p.p (symbols_of c.args.texts.sheet.now c.args.texts.goal.now c.loop-p.symbols c.loop-p.count) c.loop-p-test.true (c.loop-p.invariant.1.1.1.1 (w))).on c.number_node-count.new.nodes (symbols_of c.args.texts.sheet.now c.args.texts.goal.now c.number_node-count.new.symbols c.number_node-count.result) c.number_node-count.ensures.nodes_are c.number_node-count.ensures.symbols_are))))

pub returns : goal.returns
returns c = λ w. number-end c.args.texts.sheet.now c.args.texts.goal.now w.flats c.args.nodes.now c.loop-p.nodes c.args.stop c.loop-p.p (symbols_of c.args.texts.sheet.now c.args.texts.goal.now c.loop-p.symbols c.loop-p.count) c.loop-p.symbols c.loop-p.count refl c.loop-p-test.false (c.loop-p.invariant.1.1.1.1 w) c.loop-p.invariant.1.1.1.0

-- behind the last node
pub returns-2 : goal.returns-2
returns-2 c = λ w. number-end c.args.texts.sheet.now c.args.texts.goal.now w.flats c.args.nodes.now c.number_node-count.new.nodes c.args.stop (c.loop-p.p + 2) (symbols_of c.args.texts.sheet.now c.args.texts.goal.now c.number_node-count.new.symbols c.number_node-count.result) c.number_node-count.new.symbols c.number_node-count.result refl (omega arith) ((number-turn c.args.texts.sheet.now c.args.texts.goal.now w.flats c.args.nodes.now c.loop-p.nodes c.args.stop c.loop-p.p (symbols_of c.args.texts.sheet.now c.args.texts.goal.now c.loop-p.symbols c.loop-p.count) c.loop-p-test.true (c.loop-p.invariant.1.1.1.1 w)).on c.number_node-count.new.nodes (symbols_of c.args.texts.sheet.now c.args.texts.goal.now c.number_node-count.new.symbols c.number_node-count.result) c.number_node-count.ensures.nodes_are c.number_node-count.ensures.symbols_are) c.number_node-count.ensures.listed
