-- `marks::undeclared::undeclared_clause` meets its contract. Assumes nothing.
use Rattle.marks.proofs.Places.{node-inside, past-ends}
use native.Mathlib.Omega.{arith}
use Rattle.std.proofs.lemmas.Result.{err_from_is_err_and}
use Rattle.marks.proofs.UndeclaredClauses.{clause-room, head-at, head-term, body_at, clause-undeclared, clause-body}
use Rattle.marks.proofs.undeclared.undeclared_clause.Goals as goal

pub overflow_add-p : goal.overflow_add-p
overflow_add-p c = omega (arith, clause-room c.requires)

pub word_at-items-requires : goal.word_at-items-requires
word_at-items-requires c = omega (arith, clause-room c.requires)

pub overflow_add-head : goal.overflow_add-head
overflow_add-head c = omega (arith, clause-room c.requires)

pub undeclared_atom-requires : goal.undeclared_atom-requires
undeclared_atom-requires c = head-at c.requires

pub returns-in_err-undeclared_atom : goal.returns-in_err-undeclared_atom
returns-in_err-undeclared_atom c = let p = err_from_is_err_and c.from_residual.result c.from_residual.ensures.1 in
    rw (p.1, p.2)
    (λ d w. clause-undeclared d.list c.args.check.read.text.now c.args.check.read.table.now c.args.p c.args.check.clause c.undeclared_atom.result (c.undeclared_atom.ensures d) (c.in_err-undeclared_atom.was) w)

pub past-first-requires : goal.past-first-requires
past-first-requires c = node-inside (head-term c.requires)

pub undeclared_body-requires : goal.undeclared_body-requires
undeclared_body-requires c = body_at c.args.check.read.text.now c.args.check.read.table.now c.args.p c.word_at-items.result c.word_at-items.ensures c.past-first.result (past-ends c.past-first.ensures) c.requires

pub returns : goal.returns
returns c = λ d w. clause-body d.list c.args.check.read.text.now c.args.check.read.table.now c.args.p c.args.check.clause c.undeclared_atom.result (c.undeclared_atom.ensures d) (c.in_ok-undeclared_atom.was) c.word_at-items.result c.word_at-items.ensures c.past-first.result (past-ends c.past-first.ensures) c.undeclared_body.result (c.undeclared_body.ensures d) w
