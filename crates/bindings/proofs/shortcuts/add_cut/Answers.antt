use native.Mathlib.Omega.{arith}
use Prim.Native.Nat.{◌+◌, ◌%◌}
use mathlib.Core.Path.{ap}
use mathlib.Core.List.{List}
use Prim.Native.Nat.{ℕ}
use lib.ListN.{set}
use Rattle.run_layout.specs.Regions.{cuts_word, slots, slot_count}
use Rattle.bindings.proofs.ShortcutsLaws.{cutting-new, cutting-by}
use Rattle.bindings.proofs.shortcuts.add_cut.Goals as goal

pub returns : goal.returns
returns c =
    cutting-by (ap (λ (s : List ℕ). set (set s (slots + c.args.x % slot_count) c.with_half.result) cuts_word (c.word_at-k.result + 1)) c.write_cut.ensures)
    (cutting-new c.args.scratch.now c.word_at-k.result c.args.x c.args.y (slots + c.args.x % slot_count) c.with_half.result c.requires.0 c.word_at-k.ensures (omega (arith, c.if-k-ge-CUT_COUNT.false)) c.requires.1.0 c.requires.1.1 (omega arith) (omega arith))
