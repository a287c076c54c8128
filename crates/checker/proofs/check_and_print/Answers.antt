-- The line that is printed is that of the verdict, with the name that it hands back.
use Rattle.std.proofs.Common.{OnOk, [], ap, ◌∙◌, subst}
use Rattle.std.specs.Io.KnownBytes.{Appends}
use Rattle.syntax.specs.Verdicts.{Verdict}
use Rattle.mode_rules.specs.Checking.{fault_name}
use Rattle.output.specs.Lines.{line_of}
use Rattle.starred_cases.specs.Programs.{verdict_line, checker}
use Rattle.checker.proofs.check_and_print.Goals as goal

pub returns : goal.returns
unfolding checker verdict_line
returns g c =
    let s = c.args.sheet.now in
    let line = ap (line_of c.check-verdict.result) c.fault_name-name.ensures ∙ ap (λ (v : Verdict). line_of v (fault_name s [] v)) c.check-verdict.ensures.is in
    subst (λ bs. OnOk c.print_line.result (Appends (g.W.Write.contents c.args.out.now) (g.W.Write.contents c.print_line.new.out) bs)) line c.print_line.ensures
