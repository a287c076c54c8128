use Rattle.unify.proofs.CycleLaws.{pending-begin, pending-given, pending-inside, pending-cell, pending-bound, pending-found, pending-next, pending-end}
use Rattle.unify.proofs.cycles.search_pending.Goals as goal

pub loop-k-init : goal.loop-k-init
loop-k-init c = λ g. pending-begin g

pub word_at-x-requires : goal.word_at-x-requires
word_at-x-requires c = pending-inside c.requires (c.loop-k.invariant c.requires) c.loop-k-test.true

pub search_from-p-requires : goal.search_from-p-requires
search_from-p-requires c =
    record {
      given = pending-given c.requires (c.loop-k.invariant c.requires);
      cell = pending-cell c.requires (c.loop-k.invariant c.requires) c.loop-k-test.true c.word_at-x.ensures;
      bound = pending-bound c.requires (c.loop-k.invariant c.requires) c.loop-k-test.true c.word_at-x.ensures;
    }

pub returns-then-p-gt0 : goal.returns-then-p-gt0
returns-then-p-gt0 c = λ g. pending-found g (c.loop-k.invariant g) c.loop-k-test.true c.word_at-x.ensures c.search_from-p.ensures c.if-p-gt0.true

pub loop-k-preserved : goal.loop-k-preserved
loop-k-preserved c = λ g. pending-next g (c.loop-k.invariant g) c.loop-k-test.true c.word_at-x.ensures c.search_from-p.ensures c.if-p-gt0.false

pub returns : goal.returns
returns c = λ g. pending-end g (c.loop-k.invariant g) c.loop-k-test.false
