use mathlib.Core.Path.{◌≡◌}
use Prim.Native.Nat.{◌+◌, ◌≤◌, ◌<◌, ◌^◌}
use lib.ListN.{length}
use Rattle.answers.specs.Telling.{written}
use Rattle.answers.proofs.ValueLaws.{Listing}
use Rattle.answers.proofs.Solution.append_values.Given as goal

abbrev pub invariant-loop-i : goal.invariant-loop-i
invariant-loop-i l =
    (length l.numbers ≡ length l.initial.numbers) × (length l.stack ≡ length l.initial.stack) × (length l.out ≡ length l.initial.out) × (l.i ≤ l.self.count) × (l.listed.at + 300 < 2 ^ 64) × Listing l.self l.initial.stack (written l.initial.numbers l.initial.out l.at) l.limit l.numbers l.out l.listed l.i × (l.at ≤ l.listed.at)
