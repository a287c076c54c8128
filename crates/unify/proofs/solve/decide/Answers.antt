use native.Mathlib.Omega.{arith}
use Rattle.unify.proofs.Settle.{read_same, read-earlier, read-later, read_left, read-right, read-clash, read-open}
use Rattle.unify.proofs.Safe.{settle-inside, settle-same, settle-clash, safe-left, safe-right, safe-openable, safe-open}
use Rattle.unify.proofs.solve.decide.Goals as goal

pub word_at-w-requires : goal.word_at-w-requires
word_at-w-requires c = omega (arith, settle-inside c.requires)

pub word_at-z-requires : goal.word_at-z-requires
word_at-z-requires c = omega (arith, settle-inside c.requires)

pub returns-then-x-y : goal.returns-then-x-y
returns-then-x-y c =
    record {
      means = λ g. read_same g c.word_at-w.ensures c.word_at-z.ensures c.if-w-lt-FIRST_NAME.true c.if-z-lt-FIRST_NAME.true c.cell_of-x.ensures c.cell_of-y.ensures c.if-x-y.true;
      safe = λ s. settle-same s;
    }

pub returns-then-x-y-2 : goal.returns-then-x-y-2
returns-then-x-y-2 c =
    record {
      means = λ g. read-earlier g c.word_at-w.ensures c.word_at-z.ensures c.if-w-lt-FIRST_NAME.true c.if-z-lt-FIRST_NAME.true c.cell_of-x.ensures c.cell_of-y.ensures c.if-x-y-2.true c.bind_to.ensures;
      safe = λ s. safe-right s c.word_at-w.ensures c.word_at-z.ensures c.if-z-lt-FIRST_NAME.true c.cell_of-y.ensures (λ l. omega (arith, c.cell_of-x.ensures, c.if-x-y-2.true)) c.bind_to.ensures;
    }

pub returns-then-z-lt-FIRST_NAME : goal.returns-then-z-lt-FIRST_NAME
returns-then-z-lt-FIRST_NAME c =
    record {
      means = λ g. read-later g c.word_at-w.ensures c.word_at-z.ensures c.if-w-lt-FIRST_NAME.true c.if-z-lt-FIRST_NAME.true c.cell_of-x.ensures c.cell_of-y.ensures c.if-x-y.false c.if-x-y-2.false c.bind_to-then-z-lt-FIRST_NAME.ensures;
      safe = λ s. safe-left s c.word_at-w.ensures c.word_at-z.ensures c.if-w-lt-FIRST_NAME.true c.cell_of-x.ensures (λ l. omega (arith, c.cell_of-y.ensures, c.if-x-y.false, c.if-x-y-2.false)) c.bind_to-then-z-lt-FIRST_NAME.ensures;
    }

pub returns-then-w-lt-FIRST_NAME : goal.returns-then-w-lt-FIRST_NAME
returns-then-w-lt-FIRST_NAME c =
    record {
      means = λ g. read_left g c.word_at-w.ensures c.word_at-z.ensures c.if-w-lt-FIRST_NAME.true c.if-z-lt-FIRST_NAME.false c.cell_of-x.ensures c.bind_to-then-w-lt-FIRST_NAME.ensures;
      safe = λ s. safe-left s c.word_at-w.ensures c.word_at-z.ensures c.if-w-lt-FIRST_NAME.true c.cell_of-x.ensures (λ l. absurd (omega (arith, l, c.if-z-lt-FIRST_NAME.false))) c.bind_to-then-w-lt-FIRST_NAME.ensures;
    }

pub returns-then-z-lt-FIRST_NAME-2 : goal.returns-then-z-lt-FIRST_NAME-2
returns-then-z-lt-FIRST_NAME-2 c =
    record {
      means = λ g. read-right g c.word_at-w.ensures c.word_at-z.ensures c.if-w-lt-FIRST_NAME.false c.if-z-lt-FIRST_NAME-2.true c.cell_of-v.ensures c.bind_to-then-z-lt-FIRST_NAME-2.ensures;
      safe = λ s. safe-right s c.word_at-w.ensures c.word_at-z.ensures c.if-z-lt-FIRST_NAME-2.true c.cell_of-v.ensures (λ l. absurd (omega (arith, l, c.if-w-lt-FIRST_NAME.false))) c.bind_to-then-z-lt-FIRST_NAME-2.ensures;
    }

pub returns-then-w-z : goal.returns-then-w-z
returns-then-w-z c =
    record {
      means = λ g. read-clash g c.word_at-w.ensures c.word_at-z.ensures c.if-w-lt-FIRST_NAME.false c.if-z-lt-FIRST_NAME-2.false c.if-w-z.true;
      safe = λ s. settle-clash s;
    }

pub open_pair-requires : goal.open_pair-requires
open_pair-requires c = safe-openable c.requires c.word_at-w.ensures c.word_at-z.ensures c.if-w-lt-FIRST_NAME.false c.if-w-z.false

pub returns : goal.returns
returns c =
    record {
      means = λ g. read-open g c.word_at-w.ensures c.word_at-z.ensures c.if-w-lt-FIRST_NAME.false c.if-z-lt-FIRST_NAME-2.false c.if-w-z.false c.open_pair.new.scratch c.open_pair.result c.open_pair.ensures.means;
      safe = λ s. safe-open s c.word_at-w.ensures c.word_at-z.ensures c.if-w-lt-FIRST_NAME.false c.if-w-z.false c.open_pair.new.scratch c.open_pair.result c.open_pair.ensures.safe;
    }
