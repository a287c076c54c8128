-- `marks::lookup::look_among` meets its contract. The invariant: the search so far came to the rest of the entries (`Rest`). Assumes nothing.
use Rattle.marks.proofs.LookupLaws.{Rest}
use Rattle.marks.proofs.lookup.look_among.Given as goal

abbrev pub invariant-loop-i : goal.invariant-loop-i
invariant-loop-i l =
    Rest l.text l.entries l.n l.name l.arguments l.i
