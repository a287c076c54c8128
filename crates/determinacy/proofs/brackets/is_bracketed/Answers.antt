-- `determinacy::brackets::is_bracketed` meets its contract. Assumes nothing.
use native.Mathlib.Omega.{arith}
use Rattle.determinacy.proofs.BracketLaws.{clause-inside, head-inside, body-here}
use Rattle.determinacy.proofs.brackets.is_bracketed.Goals as goal

pub overflow_add-p : goal.overflow_add-p
overflow_add-p c = omega (arith, clause-inside c.args.table.now c.args.p c.requires.0 c.requires.1)

pub word_at-items-requires : goal.word_at-items-requires
word_at-items-requires c = omega (arith, clause-inside c.args.table.now c.args.p c.requires.0 c.requires.1)

pub overflow_add-head : goal.overflow_add-head
overflow_add-head c = omega (arith, clause-inside c.args.table.now c.args.p c.requires.0 c.requires.1)

pub past-first-requires : goal.past-first-requires
past-first-requires c = head-inside c.args.table.now c.args.p c.requires.0 c.requires.1

pub has_bracket-requires : goal.has_bracket-requires
has_bracket-requires c = (c.requires.0.body, body-here c.args.table.now c.args.p c.requires.0 c.requires.1 c.word_at-items.ensures c.past-first.ensures)

pub returns : goal.returns
returns c = λ x h. c.has_bracket.ensures x.body (body-here c.args.table.now c.args.p x h c.word_at-items.ensures c.past-first.ensures)
