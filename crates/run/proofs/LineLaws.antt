-- The line of the next step is that of the top alternative's bindings.
use Prim.Native.Nat.{ℕ, suc}
use native.Mathlib.Omega.{arith}
use mathlib.Core.Path.{◌≡◌, refl}
use mathlib.Core.Bool.{Bool, true, false}
use mathlib.Core.List.{List, [], ◌∷◌}
use Rattle.syntax.specs.Terms.{Sheet, Goal}
use Rattle.machine.specs.Machine.{Pending, Alternative}
use Rattle.machine.specs.Answers.{line}
use Rattle.machine.specs.Runs.{is_empty, is_answer, line_with, next_line}
use Rattle.run_layout.specs.Nodes.{Symbol}
use Rattle.run_layout.specs.State.{bindings}
use Rattle.run_layout.specs.Pile.{alternative_at, pile_of, mark_at}

line-with : (g : Goal) (a : Alternative) (ps : List Pending) → is_empty ps ≡ true → line_with g a ps ≡ line g a.bindings
unfolding is_empty line_with
line-with g a [] q = refl
line-with g a (p ∷ ps) q = absurd (let y : ◌≡◌ {A = Bool} false true = q in let z : ◌≡◌ {A = ℕ} 0 1 = cc in omega arith)

pub line_of : (ss : List Symbol) (sh : Sheet) (g : Goal) (nodes code state : List ℕ) (h : ℕ) → is_answer (pile_of ss sh g nodes code state (suc h)) ≡ true → next_line g (pile_of ss sh g nodes code state (suc h)) ≡ line g (bindings ss nodes state (mark_at state h))
unfolding is_answer next_line pile_of alternative_at
line_of ss sh g nodes code state h q = line-with g (alternative_at ss sh g nodes code state h) (alternative_at ss sh g nodes code state h).literals q
