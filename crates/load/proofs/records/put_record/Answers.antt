-- `load::records::put_record` meets its contract. Assumes nothing.
use Prim.Native.Nat.{ℕ, ◌+◌}
use native.Mathlib.Omega.{arith}
use mathlib.Core.Path.{◌≡◌, ap, ◌∙◌}
use lib.ListN.{set}
use Rattle.load.specs.Records.{put_pair, put_record}
use Rattle.load.proofs.records.put_record.Goals as goal

pub returns : goal.returns
unfolding put_record put_pair
returns c =
    c.put_three.ensures
    ∙ ap (λ (i : ℕ). set (set (set c.args.code.now c.args.l c.args.kind) (c.args.l + 1) c.args.place) i c.args.other) (let e : c.args.l + 2 ≡ c.args.l + 1 + 1 = omega arith in e)
