-- `marks::bodies::body_walk` meets its contract. Assumes nothing.
use native.Mathlib.Omega.{arith}
use mathlib.Core.Path.{sym, ap, ◌∙◌}
use Rattle.std.proofs.lemmas.Result.{err_from_is_err_and}
use Rattle.marks.specs.LiteralsAnswers.{walk_by}
use Rattle.marks.proofs.bodies.body_walk.Goals as goal

pub literals_walk-requires : goal.literals_walk-requires
literals_walk-requires c = record { body_at = c.requires; literal_bound = omega arith }

pub returns-in_err-walked : goal.returns-in_err-walked
returns-in_err-walked c = let p = err_from_is_err_and c.from_residual.result c.from_residual.ensures.1 in
    rw (p.1, p.2)
    (λ d w. ap walk_by (sym c.in_err-walked.was) ∙ (c.literals_walk.ensures d w).walk)

pub returns : goal.returns
returns c = λ d w. ap walk_by (sym c.in_ok-walked.was) ∙ (c.literals_walk.ensures d w).walk
