-- `marks::sheets::head_flags` meets its contract. The invariant: what is left of the clauses, with the flags so far, gives those of the whole (`Left`).
-- Assumes nothing.
use mathlib.Core.Path.{◌≡◌}
use lib.ListN.{length}
use Rattle.syntax.specs.Limits.{declarations}
use Rattle.marks.specs.Flags.{StandOnce}
use Rattle.marks.proofs.Heads.{Left}
use Rattle.marks.proofs.sheets.head_flags.Given as goal

abbrev pub invariant-loop-clause : goal.invariant-loop-clause
invariant-loop-clause l =
    (length l.flags ≡ declarations)
    × ((w : StandOnce l.declarations l.table l.clauses) → Left l.declarations.text.now l.table l.at l._clause l.clauses l.flags w.stands.sheet.declarations w.stands.sheet.clauses)
