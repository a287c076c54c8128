-- `bindings::shortcuts::follow_on` meets its contract. Assumes nothing.
use Rattle.bindings.proofs.ShortcutsLaws.{both_left, both-here, both-far, both-done, front-count, front_long, front_same}
use Rattle.bindings.proofs.shortcuts.follow_on.Goals as goal

pub slice_bounds-front-end : goal.slice_bounds-front-end
slice_bounds-front-end c = front-count c.args.state.now c.requires.left.from.long

pub follow_far-requires : goal.follow_far-requires
follow_far-requires c = both-far c.requires (front_long c.args.state.now c.requires.left.from.long) (front_same c.args.state.now) (both_left c.requires) (both-here c.requires)

pub returns : goal.returns
returns c = λ g. both-done g (front_long c.args.state.now g.left.from.long) (front_same c.args.state.now) (both_left g) (both-here g) c.follow_far.ensures
