use native.Mathlib.Omega.{arith}
use mathlib.Core.Path.{sym, ◌∙◌}
use Rattle.unify.proofs.CycleLaws.{search-none}
use Rattle.unify.proofs.cycles.search_from.Goals as goal

pub word_at-requires : goal.word_at-requires
word_at-requires c = omega (arith, c.requires.cell, c.requires.given.search.marks.long)

pub returns-then-word_at-ne0 : goal.returns-then-word_at-ne0
returns-then-word_at-ne0 c = λ g. search-none g (λ z. c.if-word_at-ne0.true (c.word_at.ensures ∙ z))

pub search-requires : goal.search-requires
search-requires c = record { given = c.requires.given; cell = c.requires.cell; bound = c.requires.bound; unmarked = sym c.word_at.ensures ∙ c.if-word_at-ne0.false }
