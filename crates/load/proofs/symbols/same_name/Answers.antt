-- `load::symbols::same_name` meets its contract. Assumes nothing.
use mathlib.Core.Path.{sym, ◌∙◌}
use Rattle.load.proofs.Spelt.{inside-text, same-parts, other_length}
use Rattle.load.proofs.symbols.same_name.Goals as goal

pub same_bytes-requires : goal.same_bytes-requires
same_bytes-requires c = (
  inside-text (record { text = sym c.text_of-left.ensures; place = c.symbol_place.ensures; long = sym c.if-span_length-len.true ∙ c.span_length.ensures }) c.requires.0,
  inside-text (record { text = sym c.text_of-right.ensures; place = c.symbol_place-then-span_length-len.ensures; long = c.span_length-len.ensures }) c.requires.1,
)

pub returns-then-span_length-len : goal.returns-then-span_length-len
returns-then-span_length-len c = same-parts (record { text = sym c.text_of-left.ensures; place = c.symbol_place.ensures; long = sym c.if-span_length-len.true ∙ c.span_length.ensures })
    (record { text = sym c.text_of-right.ensures; place = c.symbol_place-then-span_length-len.ensures; long = c.span_length-len.ensures }) c.same_bytes.ensures

pub returns-else-span_length-len : goal.returns-else-span_length-len
returns-else-span_length-len c = other_length c.args.texts.sheet.now c.args.texts.goal.now c.args.v c.args.w c.requires.0 c.requires.1 c.span_length.ensures c.span_length-len.ensures c.if-span_length-len.false
