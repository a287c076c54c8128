use Rattle.bindings.proofs.Apart.{closed_none}
use Rattle.unify.proofs.solve.unify.Goals as goal

pub unify_closed-requires : goal.unify_closed-requires
unify_closed-requires c = record { unifiable = c.requires; closed = closed_none c.args.state.now }

pub returns : goal.returns
returns c = c.unify_closed.ensures
