-- The ends of a run that its counts tell, in the order of REQUESTS (vii): "`done` now comes first".
use Rattle.std.specs.Prelude.{ℕ, cond, leb, eqb, Option, Some, None}
use Rattle.syntax.specs.declared.RunEnd.{RunEnd}
use Rattle.syntax.specs.declared.RunEnd.TheVariants.{Wanted, Done, Steps}

-- By the height of the pile, the answers wanted and had, and what is left of the allowance.
abbrev pub ended_by : ℕ → ℕ → ℕ → ℕ → Option RunEnd
ended_by height wanted answers left = cond (eqb height 0) (Some Done) (cond (leb wanted answers) (Some Wanted) (cond (eqb left 0) (Some Steps) None))
