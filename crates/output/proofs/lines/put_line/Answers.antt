-- The line's length is measured on a buffer of no bytes; it is written where it fits.
use Prim.Native.Nat.{ℕ, ◌≤◌}
use native.Mathlib.Omega.{arith}
use mathlib.Core.List.{List}
use lib.ListN.{length}
use Rattle.words.specs.Buffers.{Appended}
use Rattle.words.proofs.BuffersLaws.{measured, too_long}
use Rattle.output.proofs.lines.put_line.Goals as goal

few : {b b' line : List ℕ} {m most : ℕ} → Appended b 0 line b' m → m ≤ most → length line ≤ most
few p h = omega (arith, p.past)

pub returns-then-line_length-out : goal.returns-then-line_length-out
returns-then-line_length-out c =
    let measure = c.append_line-line_length.ensures in
    let both = measured measure.wrote (omega arith) c.append_line.ensures.wrote in
    record { within = few measure.wrote measure.within; length = both.0; text = both.1 }

pub returns-else-line_length-out : goal.returns-else-line_length-out
returns-else-line_length-out c =
    let measure = c.append_line-line_length.ensures in
    let both = too_long measure.wrote (omega arith) in
    record { within = few measure.wrote measure.within; length = both.0; text = both.1 }
