-- `pilvaust::determinate` meets its contract: each way out is a law of `DeterminateLaws`. Assumes nothing.
use native.Mathlib.Omega.{arith}
use Rattle.pilvaust.proofs.DeterminateLaws.{sheet-declined, judgeable, declared-at, sheet-judged, one-line}
use Rattle.pilvaust.proofs.determinate.Goals as goal

pub invariant_of-declarations : goal.invariant_of-declarations
invariant_of-declarations c = record { stands = declared-at c.args.sheet.now c.read_checked.new.declared c.read_checked.new.table c.read_checked.result c.read_checked.ensures.is c.read_checked.ensures.holds c.in-Ok.counts.declarations c.in-Ok.counts.clauses c.in-Ok.is (omega (arith, c.read_checked.auto.table)) }

pub judge-requires : goal.judge-requires
judge-requires c = judgeable c.args.sheet.now c.read_checked.new.declared c.read_checked.new.table c.read_checked.result c.read_checked.ensures.is c.read_checked.ensures.holds c.in-Ok.counts.declarations c.in-Ok.counts.clauses c.in-Ok.is (omega (arith, c.read_checked.auto.table))

pub returns-in-Err : goal.returns-in-Err
returns-in-Err c = let is = sheet-declined c.args.sheet.now c.read_checked.new.declared c.read_checked.new.table c.read_checked.result c.read_checked.ensures.is c.read_checked.ensures.holds c.in-Err.fault.text c.in-Err.fault.refusal c.in-Err.is in
    record { is = is; one_line = one-line c.args.sheet.now is }

pub returns-in-Ok : goal.returns-in-Ok
returns-in-Ok c = let is = sheet-judged c.args.sheet.now c.read_checked.new.declared c.read_checked.new.table c.read_checked.result c.read_checked.ensures.is c.read_checked.ensures.holds c.in-Ok.counts.declarations c.in-Ok.counts.clauses c.in-Ok.is (omega (arith, c.read_checked.auto.table)) c.judge.result c.judge.ensures in
    record { is = is; one_line = one-line c.args.sheet.now is }
