-- The invariant: the first i items are appended.
use Prim.Native.Nat.{◌+◌}
use mathlib.Core.Path.{◌≡◌}
use lib.ListN.{length, take}
use Rattle.words.specs.Buffers.{Appended}
use Rattle.words.proofs.buffers.append_all.Given as goal

abbrev pub invariant-loop-i : goal.invariant-loop-i
invariant-loop-i g l =
    (length l.out ≡ length l.initial.out) × (l.past ≡ l.at + l.i) × Appended l.initial.out l.at (take l.i l.items) l.out l.past
