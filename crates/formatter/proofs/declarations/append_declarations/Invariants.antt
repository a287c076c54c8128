-- `formatter::declarations::append_declarations` meets its contract. The invariant: what is appended are the declarations but for those ahead. Assumes nothing.
use Prim.Native.Nat.{◌*◌, ◌≤◌}
use Rattle.marks.specs.InTables.{DeclarationsIn}
use Rattle.formatter.specs.Tables.{declaration_room}
use Rattle.formatter.proofs.DeclarationLaws.{DeclarationsAhead, DeclarationsWritten}
use Rattle.formatter.proofs.declarations.append_declarations.Given as goal

abbrev pub invariant-loop-i : goal.invariant-loop-i
invariant-loop-i l =
    (l.written ≤ declaration_room * l.i)
    × ((d : DeclarationsIn l.declarations)
    → (a : DeclarationsAhead l.declarations.text.now l.declarations.words.now l.i l.declarations.count) × DeclarationsWritten a d.list l.fn.out l.out l.written)
