-- `pilvaust::format` meets its contract: each way out is a law of `FormatLaws`, and the claims are `format_theorems`'. Assumes nothing.
use native.Mathlib.Omega.{arith}
use mathlib.Core.Path.{refl}
use lib.ListN.{length}
use Rattle.std.proofs.lemmas.Result.{err_from_is_err_and}
use Rattle.format_theorems.proofs.Claims.{equal_exactly_but_for_names, written_again_the_same, read_back_the_same}
use Rattle.pilvaust.proofs.FormatLaws.{sheet_declined, sheet_untouched, ready, declared_at, sheet_length, sheet_within, sheet_fault, sheet_buffer}
use Rattle.pilvaust.proofs.format.Goals as goal

pub returns-in_err-read-clause-is : goal.returns-in_err-read-clause-is
returns-in_err-read-clause-is c = let p = err_from_is_err_and c.from_residual.result c.from_residual.ensures.1 in
    rw (p.1, p.2)
    (sheet_declined c.args.sheet.now c.read_checked.new.declared c.read_checked.new.table c.read_checked.result c.read_checked.ensures.is c.read_checked.ensures.holds _ c.in_err-read.was
    (length c.args.out.now))

pub returns-in_err-read-clause-buffer : goal.returns-in_err-read-clause-buffer
returns-in_err-read-clause-buffer c =
    sheet_untouched c.args.sheet.now c.read_checked.new.declared c.read_checked.new.table c.read_checked.result c.read_checked.ensures.is c.read_checked.ensures.holds _ c.in_err-read.was
    (length c.args.out.now) c.args.out.now

pub returns-in_err-read-clause-equal_exactly : goal.returns-in_err-read-clause-equal_exactly
returns-in_err-read-clause-equal_exactly c = equal_exactly_but_for_names

pub returns-in_err-read-clause-same_again : goal.returns-in_err-read-clause-same_again
returns-in_err-read-clause-same_again c = written_again_the_same

pub returns-in_err-read-clause-reads_back : goal.returns-in_err-read-clause-reads_back
returns-in_err-read-clause-reads_back c = read_back_the_same

pub invariant_of-declarations : goal.invariant_of-declarations
invariant_of-declarations c = record {
  stands =
      declared_at c.args.sheet.now c.read_checked.new.declared c.read_checked.new.table c.read_checked.result c.read_checked.ensures.is c.read_checked.ensures.holds
      c.in_ok-read.read.declarations c.in_ok-read.read.clauses c.in_ok-read.was (omega (arith, c.read_checked.auto.table));
}

pub write_sheet-requires : goal.write_sheet-requires
write_sheet-requires c =
    ready c.args.sheet.now c.read_checked.new.declared c.read_checked.new.table c.read_checked.result c.read_checked.ensures.is c.read_checked.ensures.holds
    c.in_ok-read.read.declarations c.in_ok-read.read.clauses c.in_ok-read.was (omega (arith, c.read_checked.auto.table))

pub returns-in-Ok-clause-is : goal.returns-in-Ok-clause-is
returns-in-Ok-clause-is c =
    sheet_length c.args.sheet.now c.read_checked.new.declared c.read_checked.new.table c.read_checked.result c.read_checked.ensures.is c.read_checked.ensures.holds
    c.in_ok-read.read.declarations c.in_ok-read.read.clauses c.in_ok-read.was (omega (arith, c.read_checked.auto.table))
    (length c.args.out.now) c.write_sheet.ensures.is c.in-Ok.length c.in-Ok.is

pub returns-in-Ok-clause-buffer : goal.returns-in-Ok-clause-buffer
returns-in-Ok-clause-buffer c =
    sheet_buffer c.args.sheet.now c.read_checked.new.declared c.read_checked.new.table c.read_checked.result c.read_checked.ensures.is c.read_checked.ensures.holds
    c.in_ok-read.read.declarations c.in_ok-read.read.clauses c.in_ok-read.was (omega (arith, c.read_checked.auto.table))
    (length c.args.out.now) c.args.out.now c.write_sheet.ensures.buffer

pub returns-in-Ok-clause-within : goal.returns-in-Ok-clause-within
returns-in-Ok-clause-within c =
    sheet_within c.args.sheet.now c.read_checked.new.declared c.read_checked.new.table c.read_checked.result c.read_checked.ensures.is c.read_checked.ensures.holds
    c.in_ok-read.read.declarations c.in_ok-read.read.clauses c.in_ok-read.was (omega (arith, c.read_checked.auto.table))
    (length c.args.out.now) c.write_sheet.ensures.is c.in-Ok.length c.in-Ok.is

pub returns-in-Ok-clause-equal_exactly : goal.returns-in-Ok-clause-equal_exactly
returns-in-Ok-clause-equal_exactly c = equal_exactly_but_for_names

pub returns-in-Ok-clause-same_again : goal.returns-in-Ok-clause-same_again
returns-in-Ok-clause-same_again c = written_again_the_same

pub returns-in-Ok-clause-reads_back : goal.returns-in-Ok-clause-reads_back
returns-in-Ok-clause-reads_back c = read_back_the_same

pub returns-in-Err-clause-is : goal.returns-in-Err-clause-is
returns-in-Err-clause-is c =
    sheet_fault c.args.sheet.now c.read_checked.new.declared c.read_checked.new.table c.read_checked.result c.read_checked.ensures.is c.read_checked.ensures.holds
    c.in_ok-read.read.declarations c.in_ok-read.read.clauses c.in_ok-read.was (omega (arith, c.read_checked.auto.table))
    (length c.args.out.now) c.write_sheet.ensures.is c.in-Err.refusal c.in-Err.is _ refl

pub returns-in-Err-clause-buffer : goal.returns-in-Err-clause-buffer
returns-in-Err-clause-buffer c =
    sheet_buffer c.args.sheet.now c.read_checked.new.declared c.read_checked.new.table c.read_checked.result c.read_checked.ensures.is c.read_checked.ensures.holds
    c.in_ok-read.read.declarations c.in_ok-read.read.clauses c.in_ok-read.was (omega (arith, c.read_checked.auto.table))
    (length c.args.out.now) c.args.out.now c.write_sheet.ensures.buffer

pub returns-in-Err-clause-equal_exactly : goal.returns-in-Err-clause-equal_exactly
returns-in-Err-clause-equal_exactly c = equal_exactly_but_for_names

pub returns-in-Err-clause-same_again : goal.returns-in-Err-clause-same_again
returns-in-Err-clause-same_again c = written_again_the_same

pub returns-in-Err-clause-reads_back : goal.returns-in-Err-clause-reads_back
returns-in-Err-clause-reads_back c = read_back_the_same
