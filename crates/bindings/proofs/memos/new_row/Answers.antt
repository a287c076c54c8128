use Rattle.std.proofs.Common.{◌/◌, ◌%◌, arith}
use Rattle.run_layout.specs.Regions.{slot_count}
use Rattle.bindings.proofs.Remembering.{opens-new}
use Rattle.bindings.proofs.memos.new_row.Goals as goal

pub returns : goal.returns
returns c = opens-new c.args.scratch.now _ c.word_at-k.result (c.args.key / 2 % slot_count) c.args.key c.word_at-k.ensures (omega (arith, c.if-k-ge-KEY_COUNT.false)) (omega arith) (omega (arith, c.if-scratch-base.false)) c.clear.ensures
