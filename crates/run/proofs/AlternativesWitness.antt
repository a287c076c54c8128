-- There is something to start and something to step: what `start` and `step` ask can be met. Assumes nothing.
use native.Mathlib.Omega.{arith}
use mathlib.Core.Path.{◌≡◌, ap, subst⁻¹}
use mathlib.Core.Bool.{false}
use mathlib.Core.List.{[]}
use lib.ListN.{length}
use Rattle.syntax.specs.Terms.{literals_in}
use Rattle.machine.specs.Machine.{pending}
use Rattle.machine.specs.Low.{left_of, Low}
use Rattle.machine.specs.Runs.{tries_with, tries_first, goes_deeper}
use Rattle.run_layout.specs.Regions.{state_words}
use Rattle.run_layout.specs.Pile.{pile_of}
use Rattle.run_layout.proofs.RunLayoutWitness.{sheet, goal, code, program, zeros, zeros-long, zeros-clean, words, pile}
use Rattle.unify.proofs.UnifyWitness.{scratch, witness as unifiable}
use Rattle.run.specs.Steps.{Steppable, Startable}

-- no clauses, and the goal `true.`
pub startable : Startable [] code zeros
startable =
    let l : length zeros ≡ state_words = zeros-long in
    record { ss = []; sh = sheet; g = goal; program = program; long = omega arith; clean = zeros-clean }

not-deeper : goes_deeper sheet (pile_of [] sheet goal [] code words 1) ≡ false
unfolding goes_deeper tries_first tries_with pending goal
not-deeper = ap (goes_deeper sheet) pile.is

low : Low (pile_of [] sheet goal [] code words 1)
unfolding left_of pending goal literals_in
low = subst⁻¹ Low pile.is (record { few = omega arith; height = omega arith; filled = (tt, tt) }, tt)

-- the goal alone on the pile
pub steppable : Steppable [] code words scratch 1 0
steppable =
    record { running = record { ss = []; sh = sheet; g = goal; piled = pile.piled; low = low }; some = omega arith; goes = not-deeper; roomy = unifiable.roomy; clean = unifiable.clean }
