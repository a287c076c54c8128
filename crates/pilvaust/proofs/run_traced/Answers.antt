-- The theorem about runs with a trace, of the answer that is returned.
use Rattle.std.proofs.Common.{length}
use Rattle.pilvaust.proofs.NothingOpen.{nothing-open-played}
use Rattle.pilvaust.proofs.run_traced.Goals as goal

pub returns : goal.returns
returns c =
    let a = c.args in
    let e = c.run_traced.ensures in
    record {
      is = e.is;
      bytes = e.bytes;
      text = e.text;
      nothing_open = nothing-open-played a.sheet.now a.goal.now a.trace.now a.asked (length a.text.now) c.run_traced.result e.is;
    }
