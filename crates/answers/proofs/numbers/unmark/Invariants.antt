use Rattle.answers.proofs.NumberLaws.{Unmarked}
use Rattle.answers.proofs.numbers.unmark.Given as goal

abbrev pub invariant-loop-j : goal.invariant-loop-j
invariant-loop-j l = Unmarked l.initial.numbers l.count l.j l.numbers
