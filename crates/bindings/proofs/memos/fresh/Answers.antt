use Rattle.bindings.proofs.Remembering.{fresh-class}
use native.Mathlib.Omega.{arith}
use lib.ListN.{length-set}
use Rattle.bindings.proofs.memos.fresh.Goals as goal

pub bounds-scratch-at-2 : goal.bounds-scratch-at-2
bounds-scratch-at-2 c = simp length-set (omega arith)

pub bounds-scratch-268289 : goal.bounds-scratch-268289
bounds-scratch-268289 c = simp length-set (omega arith)

pub returns : goal.returns
returns c = fresh-class c.args.scratch.now c.word_at-m.result c.args.term c.requires.0 c.word_at-m.ensures (omega (arith, c.word_at-m.ensures, c.requires.1.0.0)) (omega (arith, c.word_at-m.ensures, c.requires.1.0.1))
