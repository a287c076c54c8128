use native.Mathlib.Omega.{arith}
use Rattle.words.proofs.BuffersLaws.{then}
use Rattle.answers.proofs.NumberLaws.{name-near, put-part}
use Rattle.answers.proofs.ValueLaws.{gap-short}
use Rattle.answers.proofs.values.append_variable.Goals as goal

pub append_part-past_name-requires : goal.append_part-past_name-requires
append_part-past_name-requires c = (omega (arith, c.requires.0, c.span_length-len.ensures, c.span_at-place.ensures), omega (arith, c.append_gap-past.ensures.past, gap-short c.args.more))

pub append_all-requires : goal.append_all-requires
append_all-requires c = let args = c.args in omega (arith, c.append_gap-past.ensures.past, gap-short args.more, name-near args.goal.now _ _ c.span_at-place.result c.span_length-len.result _ _ (omega (arith, c.span_length-len.ensures)) c.append_part-past_name.ensures)

pub returns : goal.returns
returns c = let args = c.args in let append-gap = c.append_gap-past in let append-part = c.append_part-past_name in record { wrote = then append-gap.ensures (then (put-part args.goal.now c.span_at-place.ensures c.span_length-len.ensures append-part.ensures) c.append_all.ensures); near = (omega (arith, append-gap.ensures.past, append-part.ensures.past, c.append_all.ensures.past), omega (arith, append-gap.ensures.past, gap-short args.more, name-near args.goal.now _ _ c.span_at-place.result c.span_length-len.result _ _ (omega (arith, c.span_length-len.ensures)) append-part.ensures, c.append_all.ensures.past)) }
