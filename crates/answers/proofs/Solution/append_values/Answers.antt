use native.Mathlib.Omega.{arith}
use mathlib.Core.Path.{refl, ◌∙◌}
use Rattle.answers.proofs.ValueLaws.{listing_none, listing-counting, listing-next, listing-over, listing-end, some-valued, word-inside, near_on, listing-numbers}
use Rattle.answers.proofs.Solution.append_values.Goals as goal

pub loop-i-init : goal.loop-i-init
loop-i-init c = let pre = c.requires in (refl, refl, refl, omega arith, omega (arith, pre.counting.1.0), listing_none, omega arith)

pub returns-then-limit-listed : goal.returns-then-limit-listed
returns-then-limit-listed c =
    let pre = c.requires in
    let loop = c.loop-i in
    record {
      lined = listing-over loop.listed loop.i loop.invariant.5 c.if-limit-listed.true;
      numbered = listing-numbers loop.listed loop.i loop.invariant.5 pre.some_values pre.counting.0;
    }

pub offset_bounds-self-i : goal.offset_bounds-self-i
offset_bounds-self-i c = omega (arith, c.requires.some_values.is.named.listed, c.loop-i-test.true)

pub bounds-self-i : goal.bounds-self-i
bounds-self-i c = omega (arith, c.requires.some_values.is.named.listed, c.loop-i-test.true)

pub append_binding-listed-requires : goal.append_binding-listed-requires
append_binding-listed-requires c = let pre = c.requires in let loop = c.loop-i in let test = c.loop-i-test.true in record { some_valued = some-valued loop.listed loop.i loop.invariant.5 pre.some_values loop.invariant.1 test; span_inside = (word-inside pre.some_values.is.named test refl, (listing-counting loop.listed loop.i loop.invariant.5 pre.some_values pre.counting.0 c.if-limit-listed.false (omega (arith, loop.invariant.4)), (loop.invariant.4, (omega (arith, pre.counting.1.1.0), omega (arith, loop.invariant.1, loop.invariant.6, pre.counting.1.1.1))))) }

pub loop-i-preserved : goal.loop-i-preserved
loop-i-preserved c = let loop = c.loop-i in let test = c.loop-i-test.true in let within = c.if-limit-listed.false in let append-binding = c.append_binding-listed in (append-binding.auto.numbers ∙ loop.invariant.0, append-binding.auto.stack ∙ loop.invariant.1, append-binding.auto.out ∙ loop.invariant.2, omega (arith, test), near_on within (omega (arith, c.requires.counting.1.1.0)) append-binding.ensures.near, listing-next loop.listed loop.i loop.invariant.5 append-binding.result loop.invariant.1 test refl within append-binding.ensures.told, omega (arith, loop.invariant.6, append-binding.ensures.near.0))

pub append_byte-requires : goal.append_byte-requires
append_byte-requires c = omega (arith, c.loop-i.invariant.4)

pub returns : goal.returns
returns c =
    let pre = c.requires in
    let loop = c.loop-i in
    record {
      lined = listing-end loop.listed loop.i loop.invariant.5 c.loop-i-test.false c.append_byte.ensures;
      numbered = listing-numbers loop.listed loop.i loop.invariant.5 pre.some_values pre.counting.0;
    }
