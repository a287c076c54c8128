-- There is a bracket to step: the goal `(true;true).`. Assumes nothing.
use native.Mathlib.Omega.{arith}
use mathlib.Core.Path.{◌≡◌, ap, subst⁻¹}
use mathlib.Core.Bool.{false}
use mathlib.Core.List.{[]}
use Rattle.syntax.specs.Terms.{literals_in}
use Rattle.machine.specs.Machine.{pending}
use Rattle.machine.specs.Low.{left_of, Low}
use Rattle.machine.specs.Runs.{tries_with, tries_first, goes_deeper}
use Rattle.run_layout.specs.Pile.{pile_of}
use Rattle.run_layout.proofs.RunLayoutWitness.{sheet}
use Rattle.run_layout.proofs.SplitWitness.{goal, code, words, pile}
use Rattle.unify.proofs.UnifyWitness.{scratch, witness}
use Rattle.run.specs.Steps.{Steppable}

not-deeper : goes_deeper sheet (pile_of [] sheet goal [] code words 1) ≡ false
unfolding goes_deeper tries_first tries_with pending goal
not-deeper = ap (goes_deeper sheet) pile.is

low : Low (pile_of [] sheet goal [] code words 1)
unfolding left_of pending goal literals_in
low =
    subst⁻¹ Low pile.is
    (record { few = omega arith; height = omega arith; filled = (((omega arith, (tt, tt)), (omega arith, (tt, tt))), tt) }, tt)

-- the goal alone on the pile; `SplitWitness.at_split`: its top stands at the bracket
pub parting : Steppable [] code words scratch 1 0
parting =
    record { running = record { ss = []; sh = sheet; g = goal; piled = pile.piled; low = low }; some = omega arith; goes = not-deeper; roomy = witness.roomy; clean = witness.clean }
