use Rattle.run_layout.specs.State.{bound_words}
use Rattle.std.proofs.Common.{ap}
use Rattle.bindings.proofs.store.bind.Goals as goal

pub returns : goal.returns
unfolding bound_words
returns c = ap (bound_words c.args.state.now c.args.n c.args.x) c.pack.ensures
