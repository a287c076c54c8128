use Prim.Native.Nat.{ℕ, ◌+◌, ◌-◌}
use native.Mathlib.Omega.{arith}
use mathlib.Core.Path.{◌≡◌, subst}
use Rattle.determinacy.proofs.BracketLaws.{BodyOn, body-begins, first-item, item-inside, body-bracketed, body-on, body-plain}
use Rattle.determinacy.proofs.brackets.has_bracket.Goals as goal

pub loop-init : goal.loop-init
loop-init c = λ b w.
    let z : c.args.items ≡ c.args.items - 0 = omega arith in
    subst (λ (n : ℕ). BodyOn c.args.table.now c.args.p n b) z (body-begins b w)

pub word_at-requires : goal.word_at-requires
word_at-requires c = item-inside (omega arith) (c.loop.invariant c.requires.0 c.requires.1)

pub returns-then-word_at-gt-EQUATION_KIND : goal.returns-then-word_at-gt-EQUATION_KIND
returns-then-word_at-gt-EQUATION_KIND c = λ b w. body-bracketed c.args.table.now c.loop.at (c.args.items - c.loop.counter) c.word_at.result (omega arith) c.word_at.ensures c.if-word_at-gt-EQUATION_KIND.true (c.loop.invariant b w)

pub past_item-at-requires : goal.past_item-at-requires
past_item-at-requires c = first-item (omega arith) (c.loop.invariant c.requires.0 c.requires.1)

pub loop-preserved : goal.loop-preserved
loop-preserved c = λ b w.
    let z : (c.args.items - c.loop.counter) - 1 ≡ c.args.items - (c.loop.counter + 1) = omega arith in
    subst (λ (n : ℕ). BodyOn c.args.table.now c.past_item-at.result n b) z
    (body-on c.args.table.now c.loop.at (c.args.items - c.loop.counter) c.word_at.result (omega arith) c.word_at.ensures c.if-word_at-gt-EQUATION_KIND.false c.past_item-at.result c.past_item-at.ensures (c.loop.invariant b w))

pub returns : goal.returns
returns c = λ b w. body-plain (omega arith) (c.loop.invariant b w)
