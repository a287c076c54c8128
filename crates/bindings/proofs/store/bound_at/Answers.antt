use Rattle.std.proofs.Common.{ap, sym, subst, ◌∙◌, ℕ, get_or}
use Rattle.bindings.specs.Cells.{CellTerm}
use Rattle.bindings.proofs.Deref.{bound-variable, bound-name}
use Rattle.bindings.proofs.store.bound_at.Goals as goal

pub returns-then-w-ge-FIRST_NAME : goal.returns-then-w-ge-FIRST_NAME
returns-then-w-ge-FIRST_NAME c = let args = c.args in bound-name args.nodes.now args.state.now args.at.node args.at.copy c.if-w-ge-FIRST_NAME.true

pub returns : goal.returns
returns c = let args = c.args in subst (λ (w : ℕ). CellTerm w c.held.result) (ap (λ (k : ℕ). get_or args.state.now k 0) c.cell_of-x.ensures ∙ sym (bound-variable args.nodes.now args.state.now args.at.node args.at.copy c.if-w-ge-FIRST_NAME.false)) c.held.ensures
