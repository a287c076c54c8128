use mathlib.Core.Path.{ap₂, ◌∙◌}
use Rattle.bindings.specs.Scratch.{pair_words}
use Rattle.unify.proofs.Settle.{open-same, open-known, open-fits, open_pushed}
use Rattle.unify.proofs.Safe.{settle-same, settle-clash, open-small, open-room, open-pushed}
use native.Mathlib.Omega.{arith}
use Rattle.unify.proofs.solve.open_pair.Goals as goal

pub returns-then-left-right : goal.returns-then-left-right
returns-then-left-right c = record { means = λ g. open-same g c.pack-left.ensures c.pack-right.ensures c.if-left-right.true; safe = λ s. settle-same s.crossed }

pub pack-left-requires : goal.pack-left-requires
pack-left-requires c = omega (arith, open-small c.requires)

pub pack-right-requires : goal.pack-right-requires
pack-right-requires c = omega (arith, open-small c.requires)

pub known-requires : goal.known-requires
known-requires c = omega (arith, c.pack-left.ensures, c.pack-right.ensures, open-small c.requires)

pub returns-then-known : goal.returns-then-known
returns-then-known c = record { means = λ g. open-known g c.pack-left.ensures c.pack-right.ensures (c.known.ensures c.if-known.true); safe = λ s. settle-same s.crossed }

pub returns-then-h-ge-PAIRS : goal.returns-then-h-ge-PAIRS
returns-then-h-ge-PAIRS c = record { means = λ g. absurd (omega (arith, open-fits g, c.if-h-ge-PAIRS.true)); safe = λ s. settle-clash s.crossed }

pub inner_row-requires : goal.inner_row-requires
inner_row-requires c = omega (arith, open-small c.requires)

pub inner_row-requires-2 : goal.inner_row-requires-2
inner_row-requires-2 c = omega (arith, open-small c.requires)

pub put_pair-requires : goal.put_pair-requires
put_pair-requires c = rw (c.inner_row.ensures, c.inner_row-2.ensures) (open-room c.requires c.if-h-ge-PAIRS.false)

pub overflow_add-result : goal.overflow_add-result
overflow_add-result c = omega (arith, open-small c.requires)

pub returns : goal.returns
returns c =
    record {
      means = λ g. open_pushed g c.put_pair.new.scratch (c.put_pair.ensures ∙ ap₂ (pair_words c.args.scratch.now c.args.h) c.inner_row.ensures c.inner_row-2.ensures);
      safe = λ s. open-pushed s c.if-h-ge-PAIRS.false (c.put_pair.ensures ∙ ap₂ (pair_words c.args.scratch.now c.args.h) c.inner_row.ensures c.inner_row-2.ensures);
    }
