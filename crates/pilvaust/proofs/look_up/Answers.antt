-- What the search tells is what the theorem says of it.
use Rattle.std.proofs.Common.{sym, subst}
use Rattle.marks.specs.Searching.{Says, whole_entries}
use Rattle.marks.specs.declared.lookup.Lookup.{Lookup}
use Rattle.marks.proofs.First.{look-up-says}
use Rattle.pilvaust.proofs.look_up.Goals as goal

pub returns : goal.returns
returns c =
    let a = c.args in
    let is = c.look_up.ensures in
    let found = look-up-says a.text.now a.name.now a.arguments (whole_entries a.entries.now) in
    record { is = is; first = subst (λ (r : Lookup). Says a.text.now a.name.now a.arguments (whole_entries a.entries.now) r) (sym is) found }
