-- What is printed of the run is the output that RULES says.
use Rattle.std.proofs.Common.{OnOk, refl, ap, ◌∙◌, subst}
use Rattle.std.specs.Prelude.{replicate}
use Rattle.std.specs.Io.KnownBytes.{Appends}
use Rattle.output.specs.Prints.{printed_run}
use Rattle.claims.proofs.Printing.{runner-prints}
use Rattle.runner.proofs.run_and_print.Goals as goal

pub returns : goal.returns
returns g c =
    let a = c.args in
    let answer = c.run_traced-answer in
    let text = ap (printed_run a.sheet.now a.goal.now answer.result) answer.ensures.text in
    let printed = text ∙ runner-prints a.sheet.now a.goal.now a.trace.now (replicate 4096 0) answer.result refl answer.ensures.is answer.ensures.bytes in
    subst (λ bs. OnOk c.print_run.result (Appends (g.W.Write.contents a.out.now) (g.W.Write.contents c.print_run.new.out) bs)) printed c.print_run.ensures
