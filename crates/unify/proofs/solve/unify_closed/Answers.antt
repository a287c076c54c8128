use mathlib.Core.Path.{ap₂, ◌∙◌}
use Rattle.bindings.specs.Scratch.{pair_words}
use Rattle.unify.proofs.Whole.{unify-forget, unify-room, unify-solvable, unify-end}
use Rattle.unify.proofs.solve.unify_closed.Goals as goal

pub forget-requires : goal.forget-requires
forget-requires c = unify-forget c.requires.unifiable

pub put_pair-requires : goal.put_pair-requires
put_pair-requires c = rw (c.only_row.ensures, c.only_row-2.ensures) (unify-room c.requires.unifiable c.forget.ensures)

pub solve_pair-requires : goal.solve_pair-requires
solve_pair-requires c = record { solvable = unify-solvable c.requires.unifiable c.forget.ensures (c.put_pair.ensures ∙ ap₂ (pair_words c.forget.new.scratch 0) c.only_row.ensures c.only_row-2.ensures); closed = c.requires.closed }

pub returns : goal.returns
returns c = λ g. unify-end g c.forget.ensures (c.put_pair.ensures ∙ ap₂ (pair_words c.forget.new.scratch 0) c.only_row.ensures c.only_row-2.ensures) c.solve_pair.ensures
