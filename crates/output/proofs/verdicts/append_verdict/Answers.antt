-- The words of each verdict, one after another, by what the match told.
use native.Mathlib.Omega.{arith}
use mathlib.Core.Path.{ap, sym}
use Rattle.output.specs.Words.{verdict_words, five_words}
use Rattle.words.proofs.BuffersLaws.{then, spelt}
use Rattle.output.proofs.verdicts.append_verdict.Goals as goal

pub returns-in-Ok : goal.returns-in-Ok
returns-in-Ok c = record { wrote = spelt (ap verdict_words c.in-Ok.is) (then (then c.append-past_word.ensures c.append_number-past_declarations.ensures.wrote) c.append_number.ensures.wrote); within = omega arith }

pub returns-in-Err : goal.returns-in-Err
returns-in-Err c = record { wrote = spelt (ap verdict_words c.in-Err.is) (then (then c.append-past_word-in-Err.ensures c.append_text-past_text.ensures.wrote) (spelt (ap five_words (sym c.numbers-numbers.ensures)) c.append_five.ensures.wrote)); within = omega arith }
