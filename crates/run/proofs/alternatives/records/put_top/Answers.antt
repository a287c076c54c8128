use native.Mathlib.Omega.{arith}
use lib.ListN.{length-set}
use mathlib.Core.Path.{refl}
use Rattle.run.specs.Words.{top_words}
use Rattle.run.proofs.alternatives.records.put_top.Goals as goal

pub bounds-state-i-2 : goal.bounds-state-i-2
bounds-state-i-2 c = simp length-set (omega arith)

pub bounds-state-i-3 : goal.bounds-state-i-3
bounds-state-i-3 c = simp length-set (omega arith)

pub bounds-state-i-4 : goal.bounds-state-i-4
bounds-state-i-4 c = simp length-set (omega arith)

pub bounds-state-i-5 : goal.bounds-state-i-5
bounds-state-i-5 c = simp length-set (omega arith)

pub returns : goal.returns
unfolding top_words
returns c = refl
