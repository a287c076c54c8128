-- What is written is the line that was appended.
use Rattle.std.proofs.Common.{OnOk, subst}
use Rattle.std.specs.Io.KnownBytes.{Appends}
use Rattle.output.specs.Reports.{report_line}
use Rattle.output.proofs.PrintingLaws.{whole}
use Rattle.output.proofs.printing.print_report.Goals as goal

pub returns : goal.returns
returns g c =
    let line = report_line c.args.report.kind c.args.report.answers c.args.report.steps in
    subst (λ bs. OnOk c.write_all.result (Appends (g.W.Write.contents c.args.out.now) (g.W.Write.contents c.write_all.new.self) bs))
    (whole line c.append_report-n.ensures.wrote c.append_report-n.ensures.within) c.write_all.ensures.bytes
