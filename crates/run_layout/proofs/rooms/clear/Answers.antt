use Rattle.std.proofs.Common.{ℕ, length-take, arith}
use Rattle.run_layout.proofs.RoomsLaws.{filled-clean}
use Rattle.run_layout.proofs.rooms.clear.Goals as goal

pub slice_bounds-fill-end-2 : goal.slice_bounds-fill-end-2
slice_bounds-fill-end-2 c = omega (arith, length-take {A = ℕ})

pub returns : goal.returns
returns c = filled-clean c.args.words.now c.fill.new.self c.requires (c.fill.ensures.after (λ y q. q))
