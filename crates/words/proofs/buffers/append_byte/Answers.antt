-- A store within the buffer is the append itself; past the end there is nothing to store.
use Rattle.std.proofs.Common.{refl}
use Rattle.words.proofs.BuffersLaws.{out_of_range}
use Rattle.words.proofs.buffers.append_byte.Goals as goal
use Rattle.words.proofs.buffers.append_byte.Goals.{then-at-out, else-at-out}

pub returns : goal.returns
returns c = elim c.if-at-out.branch [ then-at-out w ↦ record { text = w.out-is; past = refl } | else-at-out w ↦ rw w.out-is (out_of_range _ _ _ w.if-at-out.false) ]
