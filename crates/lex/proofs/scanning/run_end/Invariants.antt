-- `lex::scanning::run_end` meets its contract: the run from the place reached ends where the whole run ends.
use Rattle.std.proofs.Common.{ℕ, Bool}
use Rattle.lex.specs.Runs.{Decides}
use Rattle.lex.proofs.ScanningLaws.{Runs}
use Rattle.lex.proofs.scanning.run_end.Given as goal

abbrev pub invariant-loop-end : goal.invariant-loop-end
invariant-loop-end g l =
    (test : ℕ → Bool) → Decides (λ b r. goal.F-post g l.goes_on b r) test → Runs test l.s l.from l.end
