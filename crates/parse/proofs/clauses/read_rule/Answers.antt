-- `parse::clauses::read_rule` meets its contract: each way out is a law of `ClauseLaws`. Assumes nothing.
use Rattle.std.proofs.lemmas.Result.{err_from_is_err_and}
use Rattle.parse.proofs.ClauseLaws.{ruled-fault, ruled-stored, ruled-asked}
use Rattle.parse.proofs.Reading.{past-ready}
use borrow.Author.Rules.{rules}
use Rattle.parse.proofs.clauses.read_rule.Goals as goal

pub read_whole-requires : goal.read_whole-requires
read_whole-requires c = search (past-ready, rules)

pub returns-in_err-r : goal.returns-in_err-r
returns-in_err-r c =
    let p = err_from_is_err_and c.from_residual.result c.from_residual.ensures.1 in
    rw (p.1, p.2) (ruled-fault c.args.s.now c.args.st c.next-past.result c.args.table.now c.read_whole.new.table c.args.n c.args.used c.requires.room_to_read c.requires.clause_start_bound c.next-past.ensures c.read_whole.auto.table _ c.in_err-r.ensures)

pub overflow_sub-r : goal.overflow_sub-r
overflow_sub-r c = (ruled-asked c.args.s.now c.args.st c.next-past.result c.args.table.now c.read_whole.new.table c.args.n c.args.used c.requires.room_to_read c.requires.clause_start_bound c.next-past.ensures c.read_whole.auto.table _ c.in_ok-r.ensures).0

pub put_three-requires : goal.put_three-requires
put_three-requires c = (ruled-asked c.args.s.now c.args.st c.next-past.result c.args.table.now c.read_whole.new.table c.args.n c.args.used c.requires.room_to_read c.requires.clause_start_bound c.next-past.ensures c.read_whole.auto.table _ c.in_ok-r.ensures).1

pub returns : goal.returns
returns c = ruled-stored c.args.s.now c.args.st c.next-past.result c.args.table.now c.read_whole.new.table c.args.n c.args.used c.requires.room_to_read c.requires.clause_start_bound c.next-past.ensures c.read_whole.auto.table _ c.in_ok-r.ensures c.put_three.new.table c.put_three.ensures
