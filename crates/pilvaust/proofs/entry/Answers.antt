-- `pilvaust::entry` meets its contract: each way out is a law of `ReadingEntries`. Assumes nothing.
use Rattle.pilvaust.proofs.ReadingEntries.{entries-long, entry-is, entry-refused}
use Rattle.pilvaust.proofs.entry.Goals as goal

pub entry_of-requires : goal.entry_of-requires
entry_of-requires c = entries-long c.args.sheet.now c.read_text.new.declared c.read_text.new.table c.read_text.result c.read_text.ensures.is c.read_text.ensures.holds c.in-Ok.counts.declarations c.in-Ok.counts.clauses c.in-Ok.is

pub returns-in-Ok : goal.returns-in-Ok
returns-in-Ok c = entry-is c.args.sheet.now c.read_text.new.declared c.read_text.new.table c.read_text.result c.read_text.ensures.is c.read_text.ensures.holds c.in-Ok.counts.declarations c.in-Ok.counts.clauses c.in-Ok.is c.args.i c.entry_of.result c.entry_of.ensures

pub returns-in-Err : goal.returns-in-Err
returns-in-Err c = entry-refused c.args.sheet.now c.read_text.new.declared c.read_text.new.table c.read_text.result c.read_text.ensures.is c.read_text.ensures.holds c.in-Err.field-0.text c.in-Err.field-0.refusal c.in-Err.is c.args.i
