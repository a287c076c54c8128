use mathlib.Core.Path.{◌∙◌, ap}
use Prim.Native.Nat.{ℕ}
use Rattle.run_layout.specs.Halves.{half}
use Rattle.bindings.proofs.ShortcutsLaws.{cut-none, cut_at}
use Rattle.bindings.proofs.shortcuts.cut_of.Goals as goal

pub returns-in-Some : goal.returns-in-Some
returns-in-Some c = cut_at c.in-Some.ensures (c.half_of.ensures ∙ ap (half 0) c.word_at.ensures)

pub returns-in-None : goal.returns-in-None
returns-in-None c = cut-none c.args.scratch.now c.args.x
