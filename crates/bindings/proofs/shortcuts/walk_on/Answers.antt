use mathlib.Core.Path.{refl}
use Rattle.std.proofs.Common.{None}
use Rattle.bindings.proofs.ShortcutsLaws.{stays, linked, shortenable, shortened}
use Rattle.bindings.proofs.shortcuts.walk_on.Goals as goal

pub returns-in_default : goal.returns-in_default
returns-in_default c = λ g. stays g None refl c.in_default.ensures

pub way_on-way-requires : goal.way_on-way-requires
way_on-way-requires c = linked c.requires c.in-Some.ensures refl

pub shorten-requires : goal.shorten-requires
shorten-requires c = shortenable c.requires c.in-Some.ensures refl c.way_on-way.ensures

pub returns : goal.returns
returns c = λ g. shortened g c.in-Some.ensures refl c.way_on-way.ensures c.shorten.ensures
