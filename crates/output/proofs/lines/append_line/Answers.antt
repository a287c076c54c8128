-- The verdict's words, the name and the line feed, one after another.
use native.Mathlib.Omega.{arith}
use Rattle.output.specs.Lines.{line_of}
use Rattle.words.proofs.BuffersLaws.{then}
use Rattle.output.proofs.LinesLaws.{name-length}
use Rattle.output.proofs.lines.append_line.Goals as goal

pub append_byte-requires : goal.append_byte-requires
append_byte-requires c = omega (arith, name-length c.args.name.now)

pub returns : goal.returns
unfolding line_of
returns c =
    record {
      wrote = then (then c.append_verdict-past_verdict.ensures.wrote c.append_name-past_name.ensures) c.append_byte.ensures;
      within = omega (arith, name-length c.args.name.now);
    }
