-- `load::nodes::numbering::number_node` meets its contract. Assumes nothing.
use Rattle.load.proofs.Numbered.{node-variable, node-name}
use Rattle.load.proofs.nodes.numbering.number_node.Goals as goal

pub returns-then-v-lt-NAMED : goal.returns-then-v-lt-NAMED
returns-then-v-lt-NAMED c = node-variable c.args.texts.sheet.now c.args.texts.goal.now c.args.nodes.now c.args.p c.args.symbols.now c.args.count c.if-v-lt-NAMED.true c.requires.symbols_listed.0.0

pub intern-k-requires : goal.intern-k-requires
intern-k-requires c = ((c.requires.symbols_listed.0.0, c.requires.symbols_listed.0.1), (c.requires.symbols_listed.1.0, c.requires.node_inside c.if-v-lt-NAMED.false))

pub returns : goal.returns
returns c = node-name c.args.texts.sheet.now c.args.texts.goal.now c.args.nodes.now c.args.p c.args.symbols.now c.args.count c.intern-k.result c.counted.result c.intern-k.new.symbols c.if-v-lt-NAMED.false c.intern-k.ensures c.counted.ensures
