-- The verdict's words, the name and the line feed, one after another.
use Rattle.std.proofs.Common.{◌++◌, [], ◌∷◌, subst}
use Rattle.std.proofs.KnownBytes.{Appends-trans}
use Rattle.std.proofs.lemmas.Result.{on_ok_weaker}
use Rattle.std.specs.Io.KnownBytes.{Appends}
use Rattle.output.specs.Words.{verdict_words}
use Rattle.output.specs.Lines.{line_of, name_word}
use Rattle.output.proofs.PrintingLaws.{whole}
use Rattle.output.proofs.printing.print_parts.Goals as goal

pub returns : goal.returns
unfolding line_of
returns g c =
    let first = g.W.Write.contents c.args.out.now in
    let second = g.W.Write.contents c.write_all.new.self in
    let third = g.W.Write.contents c.print_name.new.out in
    let last = g.W.Write.contents c.write_all-2.new.self in
    let words = verdict_words c.args.verdict in
    let name = name_word c.args.name.now in
    let written : Appends first second words = subst (Appends first second) (whole words c.append_verdict-n.ensures.wrote c.append_verdict-n.ensures.within) c.in_ok-write_all.ensures.bytes in
    on_ok_weaker c.write_all-2.result
    (Appends-trans first third last (words ++ name) (10 ∷ []) (Appends-trans first second third words name written c.in_ok-print_name.ensures)) c.write_all-2.ensures.bytes
