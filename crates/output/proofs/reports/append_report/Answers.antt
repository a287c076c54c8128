-- The words of a run's last line, one after another.
use native.Mathlib.Omega.{arith}
use Rattle.output.specs.Reports.{report_line}
use Rattle.words.proofs.BuffersLaws.{then}
use Rattle.output.proofs.reports.append_report.Goals as goal

pub returns-clause-wrote : goal.returns-clause-wrote
unfolding report_line
returns-clause-wrote c = then (then (then (then c.append-past_word.ensures c.append_kind-past_kind.ensures.wrote) c.append_number-past_answers.ensures.wrote) c.append_number-past_steps.ensures.wrote) c.append_byte.ensures
