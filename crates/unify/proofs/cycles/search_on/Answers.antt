use Rattle.unify.proofs.CycleLaws.{loop-begin, loop-given, loop-on, loop-falls, loop-cycle, loop-spent, loop-end}
use Rattle.unify.proofs.cycles.search_on.Goals as goal

pub loop-p-init : goal.loop-p-init
loop-p-init c = λ g. loop-begin g

pub search_turn-requires : goal.search_turn-requires
search_turn-requires c = (loop-given c.requires (c.loop-p.invariant c.requires), c.loop-p-test.true)

pub returns-then-is_spent : goal.returns-then-is_spent
returns-then-is_spent c = λ g. loop-spent g (c.loop-p.invariant g) (c.is_spent.ensures.spent c.if-is_spent.true)

pub returns-in_default : goal.returns-in_default
returns-in_default c = λ g. loop-cycle g (c.loop-p.invariant g) c.search_turn.new.scratch c.search_turn.result c.search_turn.ensures c.in_default.is

pub loop-p-smaller : goal.loop-p-smaller
loop-p-smaller c = loop-falls c.requires (c.loop-p.invariant c.requires) c.search_turn.new.scratch c.search_turn.result c.search_turn.ensures c.in-Some.is

pub loop-p-preserved : goal.loop-p-preserved
loop-p-preserved c = λ g. loop-on g (c.loop-p.invariant g) c.search_turn.new.scratch c.search_turn.result c.search_turn.ensures c.in-Some.is

pub returns : goal.returns
returns c = λ g. loop-end g (c.loop-p.invariant g) c.loop-p-test.false
