-- `marks::clauses::check_goal` meets its contract. Assumes nothing.
use Rattle.std.proofs.lemmas.Result.{err_from_is_err_and}
use Rattle.mode_rules.specs.Modes.{none_ground}
use Rattle.marks.proofs.ClausesSheets.{goal-body, goal-undeclared, goal-stopped, goal-walked}
use Rattle.marks.proofs.clauses.check_goal.Goals as goal

pub undeclared_body-requires : goal.undeclared_body-requires
undeclared_body-requires c = goal-body c.requires

pub returns-in_err-undeclared_body : goal.returns-in_err-undeclared_body
returns-in_err-undeclared_body c = let p = err_from_is_err_and c.from_residual.result c.from_residual.ensures.1 in
    rw (p.1, p.2)
    (goal-undeclared c.args.declarations.text.now c.args.declarations.words.now c.args.declarations.count c.args.read.text.now c.args.read.table.now c.args.items c.undeclared_body.ensures c.in_err-undeclared_body.was)

pub body_walk-requires : goal.body_walk-requires
body_walk-requires c = goal-body c.requires

pub returns-in_err-body_walk : goal.returns-in_err-body_walk
unfolding none_ground
returns-in_err-body_walk c = let p = err_from_is_err_and c.from_residual-in_err-body_walk.result c.from_residual-in_err-body_walk.ensures.1 in
    rw (p.1, p.2)
    (goal-stopped c.args.declarations.text.now c.args.declarations.words.now c.args.declarations.count c.args.read.text.now c.args.read.table.now c.args.items c.undeclared_body.ensures c.in_ok-undeclared_body.was c.body_walk.result c.body_walk.ensures c.in_err-body_walk.was)

pub returns : goal.returns
unfolding none_ground
returns c = goal-walked c.args.declarations.text.now c.args.declarations.words.now c.args.declarations.count c.args.read.text.now c.args.read.table.now c.args.items c.undeclared_body.ensures c.in_ok-undeclared_body.was c.body_walk.result c.body_walk.ensures c.in_ok-body_walk.was
