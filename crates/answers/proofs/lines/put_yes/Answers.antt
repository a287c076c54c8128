use Rattle.syntax.specs.Quote.{bytes}
use lib.ListN.{length}
use mathlib.Core.Path.{◌≡◌}
use mathlib.Core.Path.{refl}
use native.Mathlib.Omega.{arith}
use Rattle.answers.proofs.LineLaws.{fitted_none, fitted_some}
use Rattle.answers.proofs.lines.put_yes.Goals as goal

pub returns-then-room-at-lt4 : goal.returns-then-room-at-lt4
returns-then-room-at-lt4 c = fitted_none (let z : length (bytes "yes\n") ≡ 4 = refl in omega (arith, c.if-room-at-lt4.true, c.requires))

pub returns : goal.returns
returns c = fitted_some (let z : length (bytes "yes\n") ≡ 4 = refl in omega (arith, c.if-room-at-lt4.false, c.requires)) c.append_all.ensures
