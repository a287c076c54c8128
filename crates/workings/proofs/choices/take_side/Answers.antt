use Prim.Native.Nat.{◌-◌}
use mathlib.Core.Path.{sym, subst}
use mathlib.Core.Bool.{Bool}
use Rattle.std.specs.Prelude.{Some}
use Rattle.run.specs.Steps.{meaning}
use Rattle.workings.specs.Choices.{ChoiceMade, side}
use Rattle.workings.proofs.SideLaws.{side-steppable, side-some, side-left, side-right}
use Rattle.workings.proofs.choices.take_side.Goals as goal

pub step-p-requires : goal.step-p-requires
step-p-requires c = side-steppable c.requires

pub overflow_sub-result : goal.overflow_sub-result
overflow_sub-result c = side-some c.requires c.step-p.new.state c.step-p.new.scratch c.step-p.result c.step-p.ensures

pub returns-then-right : goal.returns-then-right
returns-then-right c = λ w.
    subst (λ (b : Bool). ChoiceMade (meaning w.top.running) c.args.state.now c.args.scratch.now (c.args.pile.height - 1) (side b) c.step-p.new.state c.step-p.new.scratch (Some (record { height = c.step-p.result.height - 1; trail = c.step-p.result.trail })))
    (sym c.if-right.true) (side-right w c.step-p.new.state c.step-p.new.scratch c.step-p.result c.step-p.ensures)

pub returns : goal.returns
returns c = λ w.
    subst (λ (b : Bool). ChoiceMade (meaning w.top.running) c.args.state.now c.args.scratch.now (c.args.pile.height - 1) (side b) c.step-p.new.state c.step-p.new.scratch (Some c.step-p.result))
    (sym c.if-right.false) (side-left w c.step-p.new.state c.step-p.new.scratch c.step-p.result c.step-p.ensures)
