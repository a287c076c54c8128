use native.Mathlib.Omega.{arith}
use mathlib.Core.Path.{refl}
use Rattle.bindings.proofs.ShortcutsLaws.{last-variable, walk-follow, walk-variable, walk-falls, walk-next, cell_in, eased-roomy}
use Rattle.bindings.proofs.shortcuts.shorten.Goals as goal

pub variable_cell-y-requires : goal.variable_cell-y-requires
variable_cell-y-requires c = last-variable c.requires

pub next_from-requires : goal.next_from-requires
next_from-requires c = walk-follow c.requires (c.loop-next.invariant c.requires)

pub variable_cell-x-requires : goal.variable_cell-x-requires
variable_cell-x-requires c = walk-variable c.requires (c.loop-next.invariant c.requires) c.in-Some.ensures refl

pub put_cut-requires : goal.put_cut-requires
put_cut-requires c = (
  eased-roomy (c.loop-next.invariant c.requires).eased c.requires.start.roomy,
  (cell_in (walk-variable c.requires (c.loop-next.invariant c.requires) c.in-Some.ensures refl) c.variable_cell-x.ensures, cell_in (last-variable c.requires) c.variable_cell-y.ensures),
)

pub loop-next-smaller : goal.loop-next-smaller
loop-next-smaller c = walk-falls c.requires (c.loop-next.invariant c.requires) c.in-Some.ensures refl

pub loop-next-preserved : goal.loop-next-preserved
loop-next-preserved c = λ g. walk-next g (c.loop-next.invariant g) c.in-Some.ensures refl c.variable_cell-x.ensures c.variable_cell-y.ensures c.put_cut.ensures
