-- `load::node_words::name_word` meets its contract. Assumes nothing.
use native.Mathlib.Omega.{arith}
use mathlib.Core.Path.{ap, ◌∙◌}
use Rattle.run_layout.specs.Symbols.{symbol_word}
use Rattle.load.specs.Flat.{number_of}
use Rattle.load.proofs.Words.{flat-variable, flat-packed}
use Rattle.load.proofs.node_words.name_word.Goals as goal

pub returns-then-what-lt-NAMED : goal.returns-then-what-lt-NAMED
returns-then-what-lt-NAMED c = flat-variable (number_of c.args.source) c.args.what c.args.byte c.if-what-lt-NAMED.true

pub pack_symbol-word-requires : goal.pack_symbol-word-requires
pack_symbol-word-requires c = omega (arith, (c.requires c.if-what-lt-NAMED.false).0, c.number_of-text.ensures.1)

pub overflow_mul-result : goal.overflow_mul-result
overflow_mul-result c = omega (arith, (c.requires c.if-what-lt-NAMED.false).0, (c.requires c.if-what-lt-NAMED.false).1, c.number_of-text.ensures.1)

pub overflow_add-result : goal.overflow_add-result
overflow_add-result c = omega (arith, (c.requires c.if-what-lt-NAMED.false).0, (c.requires c.if-what-lt-NAMED.false).1, c.number_of-text.ensures.1)

pub overflow_cast-result : goal.overflow_cast-result
overflow_cast-result c = omega (arith, (c.requires c.if-what-lt-NAMED.false).0, (c.requires c.if-what-lt-NAMED.false).1, c.number_of-text.ensures.1)

pub overflow_add-result-2 : goal.overflow_add-result-2
overflow_add-result-2 c = omega (arith, (c.requires c.if-what-lt-NAMED.false).0, (c.requires c.if-what-lt-NAMED.false).1, c.number_of-text.ensures.1)

pub returns : goal.returns
returns c = flat-packed (number_of c.args.source) c.args.what c.args.byte c.if-what-lt-NAMED.false c.length_of.ensures c.arity_of-arguments.ensures (c.pack_symbol-word.ensures ∙ ap (λ t. symbol_word c.args.byte t c.length_of.result) c.number_of-text.ensures.0)
