-- `parse::clauses::read_clause` meets its contract: each way out is a law of `ClauseLaws`. Assumes nothing.
use Rattle.std.proofs.lemmas.Result.{err_from_is_err_and}
use Rattle.parse.proofs.ClauseLaws.{head-ready, clause-fault, fact-asked, clause-fact, clause-wrong, rule-asked, clause-rule}
use Rattle.parse.proofs.clauses.read_clause.Goals as goal

pub read_atom-requires : goal.read_atom-requires
read_atom-requires c = let both = head-ready c.args.s.now c.args.st c.fresh-begin.result c.args.table.now c.args.n c.requires.room_to_read c.requires.kind_value c.fresh-begin.ensures in record { room_to_read = both.0; kind_value = both.1 }

pub returns-in_err-r : goal.returns-in_err-r
returns-in_err-r c =
    let p = err_from_is_err_and c.from_residual.result c.from_residual.ensures.1 in
    rw (p.1, p.2) (clause-fault c.args.s.now c.args.st c.fresh-begin.result c.args.table.now c.args.n c.requires.room_to_read c.requires.kind_value c.fresh-begin.ensures c.read_atom.new.table _ c.in_err-r.ensures)

pub overflow_sub-r : goal.overflow_sub-r
overflow_sub-r c = (fact-asked c.args.s.now c.args.st c.fresh-begin.result c.args.table.now c.args.n c.requires.room_to_read c.requires.kind_value c.fresh-begin.ensures c.read_atom.new.table _ c.read_atom.auto.table c.in_ok-r.ensures).0

pub put_three-requires : goal.put_three-requires
put_three-requires c = (fact-asked c.args.s.now c.args.st c.fresh-begin.result c.args.table.now c.args.n c.requires.room_to_read c.requires.kind_value c.fresh-begin.ensures c.read_atom.new.table _ c.read_atom.auto.table c.in_ok-r.ensures).1

pub returns-in-Stop : goal.returns-in-Stop
returns-in-Stop c = clause-fact c.args.s.now c.args.st c.fresh-begin.result c.args.table.now c.args.n c.requires.room_to_read c.requires.kind_value c.fresh-begin.ensures c.read_atom.new.table _ c.read_atom.auto.table c.in_ok-r.ensures c.next-past.result c.put_three.new.table c.in-Stop.is c.next-past.ensures c.put_three.ensures

pub read_rule-requires : goal.read_rule-requires
read_rule-requires c = let both = rule-asked c.args.s.now c.args.st c.fresh-begin.result c.args.table.now c.args.n c.requires.room_to_read c.requires.kind_value c.fresh-begin.ensures c.read_atom.new.table _ c.read_atom.auto.table c.in_ok-r.ensures c.in-Neck.is in record { room_to_read = both.0; clause_start_bound = both.1 }

pub returns-in-Neck : goal.returns-in-Neck
returns-in-Neck c = clause-rule c.args.s.now c.args.st c.fresh-begin.result c.args.table.now c.args.n c.requires.room_to_read c.requires.kind_value c.fresh-begin.ensures c.read_atom.new.table _ c.read_atom.auto.table c.in_ok-r.ensures c.in-Neck.is c.read_rule.new.table c.read_rule.result c.read_rule.ensures

pub returns-in_default : goal.returns-in_default
returns-in_default c = clause-wrong c.args.s.now c.args.st c.fresh-begin.result c.args.table.now c.args.n c.requires.room_to_read c.requires.kind_value c.fresh-begin.ensures c.read_atom.new.table _ c.read_atom.auto.table c.in_ok-r.ensures c.wrong.result c.in_default.not-Stop c.in_default.not-Neck c.wrong.ensures
