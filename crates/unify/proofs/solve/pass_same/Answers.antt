use native.Mathlib.Omega.{arith}
use Rattle.unify.proofs.Passing.{top-read, written-fits, written-is, moved-means, moved-safe}
use Rattle.unify.proofs.solve.pass_same.Goals as goal

pub past_same-to-requires : goal.past_same-to-requires
past_same-to-requires c = top-read c.requires c.side_at-l.ensures c.side_at-r.ensures

pub put_pair-requires : goal.put_pair-requires
put_pair-requires c = written-fits c.requires c.side_at-l.ensures c.side_at-r.ensures c.past_same-to.result.left c.past_same-to.result.right c.past_same-to.ensures.safe

pub returns : goal.returns
returns c =
    let e = written-is c.requires.1 c.side_at-l.ensures c.side_at-r.ensures c.past_same-to.result.left c.past_same-to.result.right c.put_pair.ensures in
    record {
      means = λ state g. moved-means g e (c.past_same-to.ensures.means state g);
      safe = λ state s. moved-safe s e (c.past_same-to.ensures.safe state s);
    }
