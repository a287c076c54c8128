-- `words::texts::same_bytes` meets its contract: while the bytes passed, from the last one on, agree, the parts are the same where what is before them is.
use Prim.Native.Nat.{◌≤◌}
use Rattle.words.proofs.TextsLaws.{Alike}
use Rattle.words.proofs.texts.same_bytes.Given as goal

abbrev pub invariant-loop-i : goal.invariant-loop-i
invariant-loop-i l =
    (l.i ≤ l.n) × Alike l.s l.a l.t l.b l.n l.i
