use Rattle.std.proofs.Common.{◌≡◌, ◌≤◌}
use Rattle.output.specs.Listings.{pasted}
use Rattle.words.specs.Tables.{entry_from}
use Rattle.pilvaust.proofs.entries.fill.Given as goal

abbrev pub invariant-loop-i : goal.invariant-loop-i
invariant-loop-i l = (l.entries ≡ pasted (entry_from l.found.words) l.i l.initial.entries) × (l.i ≤ l.found.count)
