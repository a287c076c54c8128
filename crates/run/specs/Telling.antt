-- What comes before a step, and what telling an answer is given and promises.
use Rattle.std.specs.Prelude.{ℕ, ◌-◌, ◌≤◌, ◌≡◌, true, cond, List, leb, eqb, length, Some, None}
use Rattle.syntax.specs.Terms.{Sheet, Goal}
use Rattle.syntax.specs.declared.RunEnd.TheVariants.{Wanted, Done, Steps, Deep}
use Rattle.machine.specs.Machine.{Alternative}
use Rattle.machine.specs.Low.{Low}
use Rattle.machine.specs.Answers.{line}
use Rattle.machine.specs.Runs.{is_empty, is_answer, goes_deeper}
use Rattle.run_layout.specs.Nodes.{Symbol}
use Rattle.run_layout.specs.State.{bindings}
use Rattle.run_layout.specs.Pile.{mark_at}
use Rattle.run_layout.specs.Rooms.{Clean}
use Rattle.bindings.specs.Scratch.{Roomy}
use Rattle.syntax.specs.Spans.{names_from}
use Rattle.run_layout.specs.SymbolNames.{SymbolsSpelt}
use Rattle.answers.specs.Words.{Named}
use Rattle.std.specs.Borrow.{Bor}
use Rattle.answers.specs.declared.Solution.{Solution}
use Rattle.answers.specs.Fitting.{Tellable, Fitted}
use Rattle.run.specs.Meanings.{Meaning, pile_in, PiledIn}
use Rattle.run.specs.Steps.{Stepped}
use Rattle.run.specs.declared.telling.AnswerTold.{AnswerTold}
use Rattle.run.specs.declared.telling.LoadedProgram.{LoadedProgram}
use Rattle.run.specs.declared.telling.Next.{Next}
use Rattle.run.specs.declared.telling.Next.TheVariants.{End, Answer, Step}

-- What comes before the next step: an end, an answer's line, or nothing. `left` is what is left of the allowance.
unfoldable pub before_step : ℕ → ℕ → ℕ → Sheet → List Alternative → Next
before_step wanted answers left sh pile =
    cond (is_empty pile) (End Done)
    (cond (leb wanted answers) (End Wanted)
    (cond (eqb left 0) (End Steps)
    (cond (is_answer pile) Answer
    (cond (goes_deeper sh pile) (End Deep) Step))))

-- the symbols and the goal's variables are spelt in the two texts
pub record Spelt (ss : List Symbol) (g : Goal) (loaded : LoadedProgram) : Type 0 where
  pub spelt : SymbolsSpelt ss loaded.symbols.now loaded.sheet.now loaded.goal.now
  pub named : Named loaded.goal.now loaded.names.now loaded.count
  pub names_are : g.names ≡ names_from loaded.goal.now loaded.names.now 0 loaded.count

-- the solution that stands in a loaded program and a state
abbrev pub solution_of : LoadedProgram → Bor (List ℕ) → Solution
solution_of loaded state =
    record {
      nodes = loaded.nodes;
      state = state;
      symbols = loaded.symbols;
      sheet = loaded.sheet;
      goal = loaded.goal;
      names = loaded.names;
      count = loaded.count;
    }

-- what the tables of a loaded program mean
abbrev pub meaning_of : List Symbol → Sheet → Goal → LoadedProgram → Meaning
meaning_of ss sh g loaded = record { ss = ss; sh = sh; g = g; nodes = loaded.nodes.now; code = loaded.code.now }

-- what a run is lent: scratch words without a mark, for unification and for answers in a text of so many bytes
pub record LentScratch (scratch : List ℕ) (room : ℕ) : Type 0 where
  pub roomy : Roomy scratch
  pub clean : Clean scratch
  pub deep : Tellable scratch room

-- words that mean a low pile, and what is lent
pub record Under (m : Meaning) (state scratch : List ℕ) (room h n : ℕ) : Type 0 where
  pub piled : PiledIn m state h n
  pub low : Low (pile_in m state h)
  pub lent : LentScratch scratch room

-- ---- what the functions ask and promise

-- words that mean a low pile that is not empty, whatever the program
pub record Rewindable (state : List ℕ) (h n : ℕ) : Type 0 where
  pub meaning : Meaning
  pub piled : PiledIn meaning state h n
  pub low : Low (pile_in meaning state h)
  pub some : 1 ≤ h

-- the same pile, and the trail is the top's
pub record SamePile (m : Meaning) (before after : List ℕ) (h trail : ℕ) : Type 0 where
  pub piled : PiledIn m after h trail
  pub is : pile_in m after h ≡ pile_in m before h

pub record Rewound (before after : List ℕ) (h n trail : ℕ) : Type 0 where
  pub long : length after ≡ length before
  pub mark : mark_at after (h - 1) ≡ trail
  pub same : (m : Meaning) → PiledIn m before h n → SamePile m before after h trail

-- an answer is next
pub record Answering (loaded : LoadedProgram) (state scratch text : List ℕ) (h n at : ℕ) : Type 0 where
  pub ss : List Symbol
  pub sh : Sheet
  pub g : Goal
  pub spelt : Spelt ss g loaded
  pub under : Under (meaning_of ss sh g loaded) state scratch (length text) h n
  pub some : 1 ≤ h
  pub answer : is_answer (pile_in (meaning_of ss sh g loaded) state h) ≡ true
  pub room : at ≤ length text

-- The line is written and the step taken, or the line does not fit: then there is no position, and the pile is as it was.
pub record Answered {loaded : LoadedProgram} {before scratch old : List ℕ} {h n at : ℕ} (w : Answering loaded before scratch old h n at)
    (after later new : List ℕ) (r : AnswerTold) : Type 0 where
  pub mid : List ℕ
  pub between : List ℕ
  pub trail : ℕ
  pub same : SamePile (meaning_of w.ss w.sh w.g loaded) before mid h trail
  pub mark : mark_at mid (h - 1) ≡ trail
  pub told : Fitted (line w.g (bindings w.ss loaded.nodes.now mid trail)) old at new r.at
  pub stepped : (past : ℕ) → r.at ≡ Some past
      → Stepped (meaning_of w.ss w.sh w.g loaded) mid after between later h (record { height = r.height; trail = r.trail })
  pub stopped : r.at ≡ None → (after ≡ mid) × ((r.height ≡ h) × ((r.trail ≡ trail) × Clean later))
  pub state_long : length after ≡ length before
  pub scratch_long : length between ≡ length scratch
  pub later_long : length later ≡ length scratch
