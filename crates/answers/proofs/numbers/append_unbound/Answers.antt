use native.Mathlib.Omega.{arith}
use Rattle.answers.proofs.NumberLaws.{unbound-told, unbound-near}
use Rattle.answers.proofs.numbers.append_unbound.Goals as goal

pub returns : goal.returns
returns c =
    let past = c.append_byte-past.ensures in
    let number = c.number_of-number in
    let decimal = c.append_decimal.ensures in
    record {
      told = (λ met h ps. unbound-told met c.args.x (number.ensures met h) past decimal ps);
      near = unbound-near _ _ _ number.result _ _ _ (omega arith) past decimal;
    }
