use mathlib.Core.Path.{refl, ◌∙◌}
use native.Mathlib.Omega.{arith}
use Rattle.determinacy.proofs.OverlapLaws.{clause-record, seek-begins, seek-ends, seek-pair, seek-record, seek_found, seek-on, seek-falls, told-seeking, told-not-zero, told-none, told-falls}
use Rattle.determinacy.proofs.overlaps.first_overlap.Goals as goal

pub after_of-next-requires : goal.after_of-next-requires
after_of-next-requires c = clause-record c.requires

pub loop-next-init : goal.loop-next-init
loop-next-init c = (refl, (refl, λ w. record { number = _; is = c.after_of-next.ensures; seeking = seek-begins refl w }))

pub overlaps-requires : goal.overlaps-requires
overlaps-requires c = let s = c.loop-next.invariant.1.1 c.requires in seek-pair (told-not-zero s c.in-Some.is) c.requires (told-seeking s c.in-Some.is)

pub returns-then-overlaps : goal.returns-then-overlaps
returns-then-overlaps c = λ w. let s = c.loop-next.invariant.1.1 w in seek_found (told-not-zero s c.in-Some.is) c.overlaps.ensures w (told-seeking s c.in-Some.is) c.if-overlaps.true

pub after_of-next-requires-in-Some : goal.after_of-next-requires-in-Some
after_of-next-requires-in-Some c = let s = c.loop-next.invariant.1.1 c.requires in
    let r = seek-record (told-not-zero s c.in-Some.is) c.requires (told-seeking s c.in-Some.is) in
    (omega (arith, r.0), omega (arith, r.1))

pub loop-next-smaller : goal.loop-next-smaller
loop-next-smaller c = let s = c.loop-next.invariant.1.1 c.requires in
    told-falls c.args.program.code.now _ c.in-Some.is c.after_of-next-in-Some.ensures (seek-falls (told-not-zero s c.in-Some.is) c.overlaps.ensures c.requires (told-seeking s c.in-Some.is) refl)

pub loop-next-preserved : goal.loop-next-preserved
loop-next-preserved c = (
  c.overlaps.auto.state ∙ c.loop-next.invariant.0,
  (
    c.overlaps.auto.scratch ∙ c.loop-next.invariant.1.0,
    λ w.
        let s = c.loop-next.invariant.1.1 w in
        record { number = _; is = c.after_of-next-in-Some.ensures; seeking = seek-on (told-not-zero s c.in-Some.is) c.overlaps.ensures w (told-seeking s c.in-Some.is) refl c.if-overlaps.false },
  ),
)

pub returns : goal.returns
returns c = λ w. seek-ends refl w (told-none (c.loop-next.invariant.1.1 w) c.in_default.is)
