-- `marks::flags::in_both` meets its contract. The loop's invariant: the flags stored, and then those of the rest, are those of both. Assumes nothing.
use Rattle.marks.proofs.FlagsLaws.{Halfway}
use Rattle.marks.proofs.flags.in_both.Given as goal

abbrev pub invariant-loop-i : goal.invariant-loop-i
invariant-loop-i l =
    Halfway l.left l.right l.both l.i
