-- `pilvaust::reading::read_text` meets its contract: each way out is a law of `ReadingLaws`. Assumes nothing.
use mathlib.Core.Path.{sym, ◌∙◌}
use lib.ListN.{length}
use borrow.Author.Tests.{ltb-true, ltb-false}
use Rattle.syntax.specs.Limits.{sheet_bytes}
use Rattle.pilvaust.proofs.ReadingLaws.{sheet-long, sheet-fault, declarations-at, sheet-repeats, sheet_accepted}
use Rattle.pilvaust.proofs.reading.read_text.Goals as goal

pub returns-then-is_too_long : goal.returns-then-is_too_long
returns-then-is_too_long c = let both = sheet-long c.args.sheet.now c.args.declared.now c.args.table.now c.fault_in.result (ltb-true sheet_bytes (length c.args.sheet.now) (sym c.is_too_long.ensures ∙ c.if-is_too_long.true)) c.fault_in.ensures in record { is = both.0; holds = both.1 }

pub read_items-requires : goal.read_items-requires
read_items-requires c = record { s_len_bound = (ltb-false sheet_bytes (length c.args.sheet.now) (sym c.is_too_long.ensures ∙ c.if-is_too_long.false)); declared_words_in_bounds = c.requires }

pub returns-in-Err : goal.returns-in-Err
returns-in-Err c = let both = sheet-fault c.args.sheet.now c.read_items.new.declared c.read_items.new.table (ltb-false sheet_bytes (length c.args.sheet.now) (sym c.is_too_long.ensures ∙ c.if-is_too_long.false)) _ c.in-Err.ensures _ c.fault_in-in-Err.ensures in record { is = both.0; holds = both.1 }

pub invariant_of-declarations : goal.invariant_of-declarations
invariant_of-declarations c = record { stands = declarations-at c.args.sheet.now c.read_items.new.declared c.read_items.new.table (ltb-false sheet_bytes (length c.args.sheet.now) (sym c.is_too_long.ensures ∙ c.if-is_too_long.false)) _ c.in-Ok.ensures }

pub returns-in-Some : goal.returns-in-Some
returns-in-Some c = let both = sheet-repeats c.args.sheet.now c.read_items.new.declared c.read_items.new.table (ltb-false sheet_bytes (length c.args.sheet.now) (sym c.is_too_long.ensures ∙ c.if-is_too_long.false)) _ c.in-Ok.ensures _ c.first_repeat.ensures _ c.in-Some.is _ c.fault_in-in-Some.ensures in record { is = both.0; holds = both.1 }

pub returns-in-None : goal.returns-in-None
returns-in-None c = let both = sheet_accepted c.args.sheet.now c.read_items.new.declared c.read_items.new.table (ltb-false sheet_bytes (length c.args.sheet.now) (sym c.is_too_long.ensures ∙ c.if-is_too_long.false)) _ c.in-Ok.ensures _ c.first_repeat.ensures c.in-None.is in record { is = both.0; holds = both.1 }
