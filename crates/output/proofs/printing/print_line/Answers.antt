-- The line of a short name is written whole, since it fits its buffer.
use Rattle.std.proofs.Common.{OnOk, subst, arith}
use Rattle.std.specs.Prelude.{replicate}
use Rattle.std.specs.Io.KnownBytes.{Appends}
use Rattle.output.specs.Lines.{line_of}
use Rattle.output.proofs.PrintingLaws.{whole_put}
use Rattle.output.proofs.printing.print_line.Goals as goal

pub returns : goal.returns
returns g c =
    let line = line_of c.args.verdict c.args.name.now in
    subst (λ bs. OnOk c.write_all.result (Appends (g.W.Write.contents c.args.out.now) (g.W.Write.contents c.write_all.new.self) bs))
    (whole_put line (replicate 154 0) c.put_line-length.ensures.length c.put_line-length.ensures.text (omega (arith, c.put_line-length.ensures.within))) c.write_all.ensures.bytes
