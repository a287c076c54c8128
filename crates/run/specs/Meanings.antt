-- What a loaded program means, and the pile that words of it mean.
use Rattle.std.specs.Prelude.{ℕ, List}
use Rattle.syntax.specs.Terms.{Sheet, Goal}
use Rattle.machine.specs.Machine.{Alternative}
use Rattle.run_layout.specs.Nodes.{Symbol}
use Rattle.run_layout.specs.Pile.{pile_of, Piled}

-- What the tables of a loaded program mean, the symbols, the sheet and the goal, beside the two tables that a pile is read by.
pub record Meaning : Type 0 where
  pub ss : List Symbol
  pub sh : Sheet
  pub g : Goal
  pub nodes : List ℕ
  pub code : List ℕ

-- the pile of a state, and that there is one
abbrev pub pile_in : Meaning → List ℕ → ℕ → List Alternative
pile_in m state h = pile_of m.ss m.sh m.g m.nodes m.code state h

abbrev pub PiledIn : Meaning → List ℕ → ℕ → ℕ → Type 0
PiledIn m state h n = Piled m.ss m.sh m.g m.nodes m.code state h n
