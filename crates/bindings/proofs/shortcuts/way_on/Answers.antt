use mathlib.Core.Path.{refl}
use Rattle.bindings.proofs.ShortcutsLaws.{way-follow, way-falls, way-next, way-end}
use Rattle.bindings.proofs.shortcuts.way_on.Goals as goal

pub next_from-requires : goal.next_from-requires
next_from-requires c = way-follow c.requires (c.loop-there.invariant c.requires)

pub loop-there-smaller : goal.loop-there-smaller
loop-there-smaller c = way-falls c.requires (c.loop-there.invariant c.requires) c.in-Some.ensures refl

pub loop-there-preserved : goal.loop-there-preserved
loop-there-preserved c = λ g. way-next g (c.loop-there.invariant g) c.in-Some.ensures refl

pub returns : goal.returns
returns c = λ g. way-end g (c.loop-there.invariant g) c.in_default.ensures refl
