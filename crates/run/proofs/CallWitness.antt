-- There is a call to step: the clause `p.` and the goal `p`. Assumes nothing.
use native.Mathlib.Omega.{arith}
use mathlib.Core.Path.{◌≡◌, ap, subst⁻¹}
use mathlib.Core.Bool.{false}
use Rattle.syntax.specs.Terms.{literals_in}
use Rattle.machine.specs.Machine.{pending, nth_clause, clause_at}
use Rattle.machine.specs.Low.{left_of, Low}
use Rattle.machine.specs.Runs.{is_there, tries_with, tries_first, goes_deeper}
use Rattle.run_layout.specs.Pile.{pile_of}
use Rattle.run_layout.proofs.CallWitness.{symbols, table, sheet, goal, code, words, pile}
use Rattle.unify.proofs.UnifyWitness.{scratch, witness}
use Rattle.run.specs.Steps.{Steppable}

-- at path 0
not-deeper : goes_deeper sheet (pile_of symbols sheet goal table code words 1) ≡ false
unfolding goes_deeper tries_first tries_with is_there clause_at nth_clause pending sheet goal
not-deeper = ap (goes_deeper sheet) pile.is

low : Low (pile_of symbols sheet goal table code words 1)
unfolding left_of pending goal literals_in
low = subst⁻¹ Low pile.is (record { few = omega arith; height = omega arith; filled = (tt, tt) }, tt)

-- the goal alone on the pile, with the clause to be tried
pub calling : Steppable table code words scratch 1 0
calling =
    record { running = record { ss = symbols; sh = sheet; g = goal; piled = pile.piled; low = low }; some = omega arith; goes = not-deeper; roomy = witness.roomy; clean = witness.clean }
