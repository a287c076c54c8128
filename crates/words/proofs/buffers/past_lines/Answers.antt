use Prim.Native.Nat.{ℕ, ◌+◌}
use native.Mathlib.Omega.{arith}
use mathlib.Core.Path.{◌≡◌, sym, ap, ◌∙◌}
use mathlib.Core.List.{List}
use lib.ListN.{drop}
use Rattle.words.specs.Feeds.{past_lines}
use Rattle.words.proofs.Feeding.{walk_none, walk_end, walk-feed, walk-other}
use Rattle.words.proofs.buffers.past_lines.Goals as goal
use Rattle.words.proofs.buffers.past_lines.Goals.{then-byte-eq10, else-byte-eq10}

pub returns-then-left-eq0 : goal.returns-then-left-eq0
returns-then-left-eq0 c = sym (c.loop-at.invariant ∙ walk_none c.args.text.now c.loop-at.at c.loop-at.left c.if-left-eq0.true)

pub loop-at-preserved : goal.loop-at-preserved
loop-at-preserved c = let text : List ℕ = c.args.text.now in
    let at : ℕ = c.loop-at.at in
    let some : c.loop-at.left ≡ 0 → ⊥ = c.if-left-eq0.false in
    elim c.if-byte-eq10.branch [
      | then-byte-eq10 w ↦ c.loop-at.invariant ∙ walk-feed text at c.loop-at.left (omega arith) some w.if-byte-eq10.true ∙ ap (λ (n : ℕ). at + 1 + past_lines n (drop (at + 1) text)) (sym w.left-is)
      | else-byte-eq10 w ↦ c.loop-at.invariant ∙ walk-other text at c.loop-at.left (omega arith) some w.if-byte-eq10.false ∙ ap (λ (n : ℕ). at + 1 + past_lines n (drop (at + 1) text)) (sym w.left-is)
    ]

pub returns : goal.returns
returns c = sym (c.loop-at.invariant ∙ walk_end c.args.text.now c.loop-at.at c.loop-at.left (omega arith) ∙ omega arith)
