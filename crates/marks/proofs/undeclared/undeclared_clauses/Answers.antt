use Prim.Native.Nat.{suc}
use Rattle.std.proofs.lemmas.Result.{err_from_is_err_and}
use Rattle.mode_rules.specs.Modes.{undeclared_clauses, undeclared_clause}
use Rattle.marks.proofs.UndeclaredClauses.{clause-words, begun, turn, ended, clauses-stopped, clauses-on, undeclared-goes, undeclared-none}
use Rattle.marks.proofs.undeclared.undeclared_clauses.Goals as goal

pub loop-i-init : goal.loop-i-init
loop-i-init c = λ d w. begun (undeclared_clauses d.list) w

pub head_near-near-requires : goal.head_near-near-requires
head_near-near-requires c = (turn c.loop-i-test.true (c.loop-i.invariant c.args.declarations.stands c.requires)).clause

pub undeclared_clause-requires : goal.undeclared_clause-requires
undeclared_clause-requires c = (turn c.loop-i-test.true (c.loop-i.invariant c.args.declarations.stands c.requires)).clause

pub returns-in_err-undeclared_clause : goal.returns-in_err-undeclared_clause
returns-in_err-undeclared_clause c = let p = err_from_is_err_and c.from_residual.result c.from_residual.ensures.1 in
    rw (p.1, p.2)
    (λ d w. clauses-stopped (undeclared_clause d.list) (undeclared-goes d.list) c.loop-i-test.true c.undeclared_clause.result (c.undeclared_clause.ensures d) (c.in_err-undeclared_clause.was) (c.loop-i.invariant d w))

pub past_clause-at-requires : goal.past_clause-at-requires
past_clause-at-requires c = clause-words (turn c.loop-i-test.true (c.loop-i.invariant c.args.declarations.stands c.requires)).clause

pub loop-i-preserved : goal.loop-i-preserved
loop-i-preserved c = λ d w. clauses-on (undeclared_clause d.list) (undeclared-goes d.list) c.loop-i-test.true c.undeclared_clause.result (c.undeclared_clause.ensures d) (c.in_ok-undeclared_clause.was) c.past_clause-at.result (λ u. c.past_clause-at.ensures u.clause u.has) (c.loop-i.invariant d w)

pub returns : goal.returns
returns c = λ d w. ended c.loop-i-test.false (c.loop-i.invariant d w) (undeclared-none d.list (suc c.loop-i.i))
