use native.Mathlib.Omega.{arith}
use lib.ListN.{length-set}
use mathlib.Core.Path.{refl}
use Rattle.run.specs.Words.{frame_words}
use Rattle.run.proofs.alternatives.records.put_frame.Goals as goal

pub bounds-state-i-2 : goal.bounds-state-i-2
bounds-state-i-2 c = simp length-set (omega arith)

pub bounds-state-i-3 : goal.bounds-state-i-3
bounds-state-i-3 c = simp length-set (omega arith)

pub returns : goal.returns
unfolding frame_words
returns c = refl
