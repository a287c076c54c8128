-- What the line of an answer is made from, and where it fits.
use Rattle.std.specs.Prelude.{ℕ, min, ◌+◌, ◌*◌, ◌<◌, ◌≤◌, ◌≡◌, List, length, Option, Some, None}
use Rattle.words.specs.Buffers.{Appended}
use Rattle.run_layout.specs.Regions.{deepest, open_size, stack}
use Rattle.run_layout.specs.Nodes.{Symbol}
use Rattle.run_layout.specs.State.{Store}
use Rattle.run_layout.specs.SymbolNames.{SymbolsSpelt}
use Rattle.answers.specs.Words.{Named}
use Rattle.answers.specs.declared.Solution.{Solution}

-- What a line is made from: a store, the symbols' names, and the names of the goal's variables.
pub record Answerable (ss : List Symbol) (n : ℕ) (sol : Solution) : Type 0 where
  pub store : Store ss sol.nodes.now sol.state.now n
  pub symbols_are : SymbolsSpelt ss sol.symbols.now sol.sheet.now sol.goal.now
  pub named : Named sol.goal.now sol.names.now sol.count

pub record SomeAnswerable (sol : Solution) : Type 0 where
  pub ss : List Symbol
  pub n : ℕ
  pub is : Answerable ss n sol

-- scratch words whose part behind the pending cells is an ample stack for the brackets of an answer with so many bytes of room
abbrev pub Tellable : List ℕ → ℕ → Type 0
Tellable scratch room = min (deepest * open_size) (room * open_size + 2 * open_size) + stack ≤ length scratch

-- Where the whole line fits it is written and the next position given; else nothing is written, and no position is given.
pub record Fitted (line old : List ℕ) (at : ℕ) (new : List ℕ) (r : Option ℕ) : Type 0 where
  pub fits : at + length line ≤ length old → Appended old at line new (at + length line) × (r ≡ Some (at + length line))
  pub full : length old < at + length line → (r ≡ None) × (new ≡ old)
