-- `pilvaust::reading::read_checked` meets its contract: each way out is a law of `Checking`. Assumes nothing.
use mathlib.Core.Path.{refl}
use Rattle.std.proofs.lemmas.Result.{err_from_is_err_and}
use Rattle.marks.proofs.ClausesSheets.{sheet-declarations}
use Rattle.pilvaust.proofs.Checking.{checked_refused, declared-once, checked-fine, checked-fault}
use Rattle.pilvaust.proofs.reading.read_checked.Goals as goal

pub returns-in_err-counts : goal.returns-in_err-counts
returns-in_err-counts c =
    let p = err_from_is_err_and c.from_residual.result c.from_residual.ensures.1 in
    let both = checked_refused c.args.stored c.args.sheet.now c.read_text.new.declared c.read_text.new.table _ c.in_err-counts.ensures.is c.in_err-counts.ensures.holds _ _ refl in
    rw (p.1, p.2) (record { is = both.0; holds = both.1 })

pub invariant_of-declarations : goal.invariant_of-declarations
invariant_of-declarations c = record { stands = sheet-declarations (declared-once c.args.stored c.args.sheet.now c.read_text.new.declared c.read_text.new.table _ c.in_ok-counts.ensures.is c.in_ok-counts.ensures.holds c.in_ok-counts.counts.declarations c.in_ok-counts.counts.clauses refl).stands }

pub check_sheet-requires : goal.check_sheet-requires
check_sheet-requires c = declared-once c.args.stored c.args.sheet.now c.read_text.new.declared c.read_text.new.table _ c.in_ok-counts.ensures.is c.in_ok-counts.ensures.holds c.in_ok-counts.counts.declarations c.in_ok-counts.counts.clauses refl

pub returns-in-Ok : goal.returns-in-Ok
returns-in-Ok c = let both = checked-fine c.args.stored c.args.sheet.now c.read_text.new.declared c.read_text.new.table _ c.in_ok-counts.ensures.is c.in_ok-counts.ensures.holds c.in_ok-counts.counts.declarations c.in_ok-counts.counts.clauses refl c.check_sheet.result c.check_sheet.ensures c.in-Ok.is in record { is = both.0; holds = both.1 }

pub returns-in-Err : goal.returns-in-Err
returns-in-Err c = let both = checked-fault c.args.stored c.args.sheet.now c.read_text.new.declared c.read_text.new.table _ c.in_ok-counts.ensures.is c.in_ok-counts.ensures.holds c.in_ok-counts.counts.declarations c.in_ok-counts.counts.clauses refl c.check_sheet.result c.check_sheet.ensures c.in-Err.refusal c.in-Err.is _ c.fault_in.ensures in record { is = both.0; holds = both.1 }
