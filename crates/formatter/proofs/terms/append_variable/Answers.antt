use native.Mathlib.Numerals.{add-one}
use mathlib.Core.Path.{ap, sym}
use mathlib.Core.List.{◌∷◌}
use Prim.Native.Nat.{ℕ}
use Rattle.words.specs.Buffers.{decimal}
use Rattle.words.proofs.BuffersLaws.{then, spelt}
use Rattle.format_rules.specs.Writing.{variable_name}
use Rattle.formatter.proofs.terms.append_variable.Goals as goal

pub returns : goal.returns
unfolding variable_name
returns c = spelt (ap (λ (k : ℕ). 86 ∷ decimal k) (sym (add-one c.args.n))) (then c.append_byte-past_letter.ensures c.append_decimal.ensures)
