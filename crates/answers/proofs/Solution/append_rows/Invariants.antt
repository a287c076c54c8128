use mathlib.Core.Path.{◌≡◌}
use mathlib.Core.Logic.{◌⊎◌}
use Prim.Native.Nat.{◌+◌, ◌-◌, ◌*◌, ◌≤◌}
use lib.ListN.{length}
use Rattle.syntax.specs.Limits.{word_bytes}
use Rattle.run_layout.specs.Regions.{open_size}
use Rattle.answers.specs.Telling.{Ample, Counting, SomeSetting, walked}
use Rattle.answers.proofs.WalkLaws.{Going}
use Rattle.answers.proofs.Solution.append_rows.Given as goal

abbrev pub invariant-loop-rows : goal.invariant-loop-rows
invariant-loop-rows l =
    (length l.numbers ≡ length l.initial.numbers) × (length l.stack ≡ length l.initial.stack) × (length l.out ≡ length l.initial.out) × SomeSetting l.self l.stack l.rows × Counting l.numbers l.past × (l.at ≤ l.past) × ((l.past ≤ l.limit + (word_bytes + 1)) ⊎ (l.past ≡ l.at)) × Going l.self (walked l.initial.numbers l.initial.stack l.initial.out l.at l.height) (walked l.numbers l.stack l.out l.past l.rows) × Ample l.stack (l.rows * open_size + (l.limit + 1 - l.past) * open_size)

abbrev pub decreases-loop-rows : goal.decreases-loop-rows
decreases-loop-rows l =
    l.limit + 1 - l.past
