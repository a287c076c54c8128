use mathlib.Core.List.{[]}
use Rattle.answers.proofs.NumberLaws.{numbers-none}
use Rattle.answers.proofs.LineLaws.{counting-at, some-values, values_of}
use Rattle.answers.proofs.lines.append_line.Goals as goal

pub append_values-past-requires : goal.append_values-past-requires
append_values-past-requires c =
    let pre = c.requires in
    record { some_values = some-values _ pre.some_answerable; counting = (counting-at pre.clean pre.long pre.near.0, pre.near) }

pub returns : goal.returns
returns c =
    let pre = c.requires in
    record {
      lined = (λ ss n v. c.append_values-past.ensures.lined ss n [] (values_of _ v) (numbers-none pre.clean pre.long));
      clean = c.unmark.ensures;
    }
