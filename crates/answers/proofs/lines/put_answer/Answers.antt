use Rattle.answers.proofs.LineLaws.{line-fits-yes, line-fits-values}
use Rattle.answers.proofs.lines.put_answer.Goals as goal

pub returns-then-all_anonymous : goal.returns-then-all_anonymous
returns-then-all_anonymous c =
    record {
      fitted = (λ ss n g v q. line-fits-yes g _ c.all_anonymous.ensures c.if-all_anonymous.true q c.put_yes.ensures);
      clean = c.requires.clean;
    }

pub returns : goal.returns
returns c =
    let put = c.put_values.ensures in
    record {
      fitted = (λ ss n g v q. line-fits-values g _ c.all_anonymous.ensures c.if-all_anonymous.false q (put.fitted ss n v));
      clean = put.clean;
    }
