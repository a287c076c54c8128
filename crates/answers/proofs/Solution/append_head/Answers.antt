use native.Mathlib.Omega.{arith}
use mathlib.Core.Path.{sym, ap, ◌∙◌}
use Prim.Native.Nat.{ℕ, ◌+◌, ◌-◌}
use Rattle.syntax.specs.Words.{first_name}
use Rattle.answers.proofs.WalkLaws.{head-inside, head_small, head-placed, head-room, head-variable, head-leaf, head-open}
use Rattle.answers.proofs.Solution.append_head.Goals as goal

pub word_at-w-requires : goal.word_at-w-requires
word_at-w-requires c = omega (arith, head-inside c.requires.some_heading.is)

pub returns-then-w-lt-FIRST_NAME : goal.returns-then-w-lt-FIRST_NAME
returns-then-w-lt-FIRST_NAME c = let append-unbound = c.append_unbound-past in record { told = (λ ss b met rest h n. head-variable h met c.word_at-w.ensures c.if-w-lt-FIRST_NAME.true c.cell_of-x.ensures (append-unbound.ensures.told met n)); near = (append-unbound.ensures.near.0, (append-unbound.ensures.near.1, omega arith)) }

pub append_name-past-requires : goal.append_name-past-requires
append_name-past-requires c = (head-placed c.requires.some_heading.is (omega (arith, c.word_at-w.ensures)) (ap (λ (x : ℕ). x - first_name) c.word_at-w.ensures), omega arith)

pub overflow_add-p : goal.overflow_add-p
overflow_add-p c = omega (arith, head-inside c.requires.some_heading.is)

pub word_at-size-requires : goal.word_at-size-requires
word_at-size-requires c = omega (arith, head-inside c.requires.some_heading.is)

pub returns-then-size-eq-LOADED_NODE : goal.returns-then-size-eq-LOADED_NODE
returns-then-size-eq-LOADED_NODE c = let word_at = c.word_at-w in let append-name = c.append_name-past in record { told = (λ ss b met rest h n. head-leaf h (omega (arith, word_at.ensures)) (ap (λ (x : ℕ). x - first_name) word_at.ensures) (sym c.word_at-size.ensures ∙ c.if-size-eq-LOADED_NODE.true) n append-name.ensures.wrote); near = (omega (arith, append-name.ensures.wrote.past), (append-name.ensures.near, omega arith)) }

pub overflow_add-first : goal.overflow_add-first
overflow_add-first c = omega (arith, head-inside c.requires.some_heading.is)

pub overflow_add-last : goal.overflow_add-last
overflow_add-last c = omega (arith, c.word_at-size.ensures, head_small c.requires.some_heading.is)

pub put_row-requires : goal.put_row-requires
put_row-requires c = let pre = c.requires in (head-room pre.some_heading.is (omega (arith, c.word_at-w.ensures)) (λ z. c.if-size-eq-LOADED_NODE.false (c.word_at-size.ensures ∙ z)), (omega (arith, head-inside pre.some_heading.is, pre.some_heading.is.small), (omega (arith, c.word_at-size.ensures, head_small pre.some_heading.is), pre.some_heading.is.copy)))

pub overflow_add-higher : goal.overflow_add-higher
overflow_add-higher c = omega (arith, c.requires.some_heading.is.rows.high, c.well_formed)

pub returns : goal.returns
returns c = let word_at = c.word_at-w in let append-name = c.append_name-past in let word-at2 = c.word_at-size in record { told = (λ ss b met rest h n. head-open h (omega (arith, word_at.ensures)) (ap (λ (x : ℕ). x - first_name) word_at.ensures) (λ z. c.if-size-eq-LOADED_NODE.false (word-at2.ensures ∙ z)) n append-name.ensures.wrote (ap (λ (x : ℕ). c.args.t.node + x) word-at2.ensures) c.put_row.ensures); near = (omega (arith, append-name.ensures.wrote.past), (append-name.ensures.near, omega arith)) }
