-- The array keeps its length, and the words counted are whole.
use Rattle.std.proofs.Common.{◌≡◌, ◌*◌, ◌≤◌, length}
use Rattle.engine_cases.proofs.list_case.words_of.Given as goal

abbrev pub invariant-loop-i : goal.invariant-loop-i
invariant-loop-i l = (l.i ≤ l.n) × (l.n ≤ 270) × (l.n * 4 ≤ length l.fn.bytes) × (270 ≡ length l.words)
