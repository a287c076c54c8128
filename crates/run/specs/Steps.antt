-- What a step is given and what it promises.
use Rattle.std.specs.Prelude.{ℕ, ◌-◌, ◌≤◌, ◌≡◌, false, List, length}
use Rattle.syntax.specs.Terms.{Sheet, Goal}
use Rattle.machine.specs.Machine.{step, start}
use Rattle.machine.specs.Low.{Low}
use Rattle.machine.specs.Runs.{goes_deeper}
use Rattle.run_layout.specs.Regions.{state_words}
use Rattle.run_layout.specs.Nodes.{Symbol}
use Rattle.run_layout.specs.Program.{Program, record_kind}
use Rattle.run_layout.specs.Pile.{literal_at, mark_at, pile_of, Piled}
use Rattle.run_layout.specs.Rooms.{Clean}
use Rattle.bindings.specs.Scratch.{Roomy}
use Rattle.run.specs.Words.{top_at}
use Rattle.run.specs.Meanings.{Meaning, pile_in, PiledIn}
use Rattle.run.specs.declared.alternatives.PileHeight.{PileHeight}
use Rattle.run.specs.declared.alternatives.records.Top.{Top}

-- some loaded program and words that mean a pile of it, which is low
pub record Running (nodes code state : List ℕ) (h n : ℕ) : Type 0 where
  pub ss : List Symbol
  pub sh : Sheet
  pub g : Goal
  pub piled : Piled ss sh g nodes code state h n
  pub low : Low (pile_of ss sh g nodes code state h)

-- what the program means
abbrev pub meaning : {nodes code state : List ℕ} {h n : ℕ} → Running nodes code state h n → Meaning
meaning {nodes} {code} w = record { ss = w.ss; sh = w.sh; g = w.g; nodes = nodes; code = code }

-- The pile is not empty, and the step would not try a clause at the longest path. Scratch words have room, and no cell is marked.
pub record Steppable (nodes code state scratch : List ℕ) (h n : ℕ) : Type 0 where
  pub running : Running nodes code state h n
  pub some : 1 ≤ h
  pub goes : goes_deeper running.sh (pile_in (meaning running) state h) ≡ false
  pub roomy : Roomy scratch
  pub clean : Clean scratch

-- The trail is as long as the top's; the top is s, and stands at a literal of that kind.
pub record AtTop (kind : ℕ) (nodes code state scratch : List ℕ) (h : ℕ) (s : Top) : Type 0 where
  pub steppable : Steppable nodes code state scratch h (mark_at state (h - 1))
  pub top_is : s ≡ top_at state (h - 1)
  pub kind_is : record_kind code (literal_at state (h - 1)) ≡ kind

-- The pile that the words mean after a step is the definition's step of the pile that they meant before.
pub record Stepped (m : Meaning) (before after scratch later : List ℕ) (h : ℕ) (r : PileHeight) : Type 0 where
  pub is : pile_in m after r.height ≡ step m.sh (pile_in m before h)
  pub piled : PiledIn m after r.height r.trail
  pub state_long : length after ≡ length before
  pub clean : Clean later
  pub scratch_long : length later ≡ length scratch

-- what a step promises where the trail is as long as the top's
abbrev pub TopStepped : (nodes code before after scratch later : List ℕ) (h : ℕ) (r : PileHeight) → Type 0
TopStepped nodes code before after scratch later h r =
    (w : Steppable nodes code before scratch h (mark_at before (h - 1))) → Stepped (meaning w.running) before after scratch later h r

-- a loaded program, and a state in which no cell is bound
pub record Startable (nodes code state : List ℕ) : Type 0 where
  pub ss : List Symbol
  pub sh : Sheet
  pub g : Goal
  pub program : Program ss sh g nodes code
  pub long : state_words ≤ length state
  pub clean : Clean state

-- "At first there is one, the goal, path 0."
pub record Started {nodes code before : List ℕ} (w : Startable nodes code before) (after : List ℕ) : Type 0 where
  pub is : pile_of w.ss w.sh w.g nodes code after 1 ≡ start w.sh w.g
  pub piled : Piled w.ss w.sh w.g nodes code after 1 0
  pub state_long : length after ≡ length before
