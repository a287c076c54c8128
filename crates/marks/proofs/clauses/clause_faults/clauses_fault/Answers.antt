use Prim.Native.Nat.{suc}
use Rattle.std.proofs.lemmas.Result.{err_from_is_err_and}
use Rattle.mode_rules.specs.Modes.{clauses_fault, clause_fault}
use Rattle.marks.proofs.UndeclaredClauses.{clause-words, begun, turn, ended, clauses-stopped, clauses-on}
use Rattle.marks.proofs.ClausesSheets.{faults-go, faults-none}
use Rattle.marks.proofs.clauses.clause_faults.clauses_fault.Goals as goal

pub loop-i-init : goal.loop-i-init
loop-i-init c = λ d w. begun (clauses_fault d.list) w

pub clause_fault-requires : goal.clause_fault-requires
clause_fault-requires c = (turn c.loop-i-test.true (c.loop-i.invariant c.args.declarations.stands c.requires)).clause

pub returns-in_err-clause_fault : goal.returns-in_err-clause_fault
returns-in_err-clause_fault c = let p = err_from_is_err_and c.from_residual.result c.from_residual.ensures.1 in
    rw (p.1, p.2)
    (λ d w. clauses-stopped (clause_fault d.list) (faults-go d.list) c.loop-i-test.true c.clause_fault.result (c.clause_fault.ensures d) (c.in_err-clause_fault.was) (c.loop-i.invariant d w))

pub past_clause-at-requires : goal.past_clause-at-requires
past_clause-at-requires c = clause-words (turn c.loop-i-test.true (c.loop-i.invariant c.args.declarations.stands c.requires)).clause

pub loop-i-preserved : goal.loop-i-preserved
loop-i-preserved c = λ d w. clauses-on (clause_fault d.list) (faults-go d.list) c.loop-i-test.true c.clause_fault.result (c.clause_fault.ensures d) (c.in_ok-clause_fault.was) c.past_clause-at.result (λ u. c.past_clause-at.ensures u.clause u.has) (c.loop-i.invariant d w)

pub returns : goal.returns
returns c = λ d w. ended c.loop-i-test.false (c.loop-i.invariant d w) (faults-none d.list (suc c.loop-i.i))
