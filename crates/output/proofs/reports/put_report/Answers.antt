-- The line's length is measured on a buffer of no bytes; it is written where it fits.
use native.Mathlib.Omega.{arith}
use Rattle.words.proofs.BuffersLaws.{measured, too_long}
use Rattle.output.proofs.reports.put_report.Goals as goal

pub returns-then-report_length-out : goal.returns-then-report_length-out
returns-then-report_length-out c =
    let both = measured c.append_report-report_length.ensures.wrote (omega arith) c.append_report.ensures.wrote in
    record { length = both.0; text = both.1 }

pub returns-else-report_length-out : goal.returns-else-report_length-out
returns-else-report_length-out c =
    let both = too_long c.append_report-report_length.ensures.wrote (omega arith) in
    record { length = both.0; text = both.1 }
