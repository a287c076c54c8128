-- The position is behind the lines passed: what is left of the whole is what is left from here on. Assumes nothing.
use Rattle.std.proofs.Common.{◌≡◌, ◌+◌, drop}
use Rattle.words.specs.Feeds.{past_lines}
use Rattle.words.proofs.buffers.past_lines.Given as goal

abbrev pub invariant-loop-at : goal.invariant-loop-at
invariant-loop-at l = past_lines l.lines l.text ≡ l.at + past_lines l.left (drop l.at l.text)
