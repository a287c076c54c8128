-- A space, and then the name.
use Rattle.std.proofs.Common.{OnOk, [], ◌∷◌, sym, subst, rules}
use Rattle.std.proofs.KnownBytes.{Appends-trans}
use Rattle.std.proofs.lemmas.Result.{on_ok_weaker}
use Rattle.std.specs.Io.KnownBytes.{Appends}
use Rattle.output.proofs.PrintingLaws.{some-name}
use Rattle.output.proofs.printing.print_name.Goals as goal

pub returns : goal.returns
returns g c =
    let first = g.W.Write.contents c.args.out.now in
    let second = g.W.Write.contents c.write_all.new.self in
    let last = g.W.Write.contents c.write_all-2.new.self in
    let name = c.args.name.now in
    subst (λ bs. OnOk c.write_all-2.result (Appends first last bs)) (sym (some-name name (search rules)))
    (on_ok_weaker c.write_all-2.result (Appends-trans first second last (32 ∷ []) name c.in_ok-write_all.ensures.bytes) c.write_all-2.ensures.bytes)
