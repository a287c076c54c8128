-- `marks::lookup::is_match` meets its contract. Assumes nothing.
use mathlib.Core.Path.{sym, ◌∙◌}
use borrow.Author.Tests.{eqb-true, eqb-false}
use Rattle.marks.proofs.LookupLaws.{by_length, by-arguments, by_name}
use Rattle.marks.proofs.lookup.is_match.Goals as goal
use Rattle.marks.proofs.lookup.is_match.Goals.{then-word_at-name, else-word_at-name}

pub returns-then-word_at-arguments : goal.returns-then-word_at-arguments
returns-then-word_at-arguments c = elim c.if-word_at-name.branch [
  | then-word_at-name w ↦ let e = sym w.value-is ∙ c.if-word_at-arguments.true in
      by_name c.args.text.now c.args.entries.now c.args.name.now c.args.p c.args.arguments c.word_at.result c.word_at.ensures
      w.word_at-then-word_at-name.result w.word_at-then-word_at-name.ensures w.if-word_at-name.true (eqb-true _ _ e)
      c.word_at-then-word_at-arguments.result c.word_at-then-word_at-arguments.ensures c.is_at.result c.is_at.ensures
  | else-word_at-name w ↦ let e = sym w.value-is ∙ c.if-word_at-arguments.true in absurd (w.if-word_at-name.false (eqb-true _ _ e))
]

pub returns-else-word_at-arguments : goal.returns-else-word_at-arguments
returns-else-word_at-arguments c = elim c.if-word_at-name.branch [
  | then-word_at-name w ↦ let e = sym w.value-is ∙ c.if-word_at-arguments.false in
      c.if-word_at-arguments.false
      ∙ by-arguments c.args.text.now c.args.entries.now c.args.name.now c.args.p c.args.arguments c.word_at.result c.word_at.ensures
      w.word_at-then-word_at-name.result w.word_at-then-word_at-name.ensures (eqb-false _ _ e)
  | else-word_at-name w ↦ c.if-word_at-arguments.false
      ∙ by_length c.args.text.now c.args.entries.now c.args.name.now c.args.p c.args.arguments c.word_at.result c.word_at.ensures w.if-word_at-name.false
]
