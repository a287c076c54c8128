-- What a turn of a run over loaded words is given, and what it promises.
use Rattle.std.specs.Prelude.{ℕ, ◌-◌, ◌≤◌, ◌≡◌, List, length}
use Rattle.std.proofs.lemmas.List.Edits.{sets}
use Rattle.syntax.specs.Terms.{Sheet, Goal}
use Rattle.machine.specs.Runs.{Progress, Ended, run_from}
use Rattle.run_layout.specs.Nodes.{Symbol}
use Rattle.run.specs.Meanings.{Meaning, pile_in}
use Rattle.run.specs.declared.telling.LoadedProgram.{LoadedProgram}
use Rattle.run.specs.Telling.{meaning_of, Spelt, Under}
use Rattle.run.specs.declared.turns.Carried.{Carried}

-- Where a run stands: the rest of it is the rest of a whole, which ends so.
pub record Ongoing (m : Meaning) (state scratch : List ℕ) (e : Ended) (allowance wanted : ℕ) (old new : List ℕ) (t : Carried) : Type 0 where
  pub under : Under m state scratch (length old) t.height t.trail
  pub written : List ℕ
  pub at_is : t.at ≡ length written
  pub fits : t.at ≤ length old
  pub text_is : new ≡ sets old 0 written
  pub steps_few : t.steps ≤ allowance
  pub whole : e ≡ run_from m.sh m.g wanted (length old) (allowance - t.steps)
      (record { pile = pile_in m state t.height; answers = t.answers; steps = t.steps; text = written })

-- What a run carries means the definition's progress, and so much is written into the text `old`.
pub record ProgressCarried (m : Meaning) (state scratch old new : List ℕ) (p : Progress) (t : Carried) : Type 0 where
  pub under : Under m state scratch (length old) t.height t.trail
  pub is : p ≡ record { pile = pile_in m state t.height; answers = t.answers; steps = t.steps; text = p.text }
  pub at_is : t.at ≡ length p.text
  pub fits : t.at ≤ length old
  pub text_is : new ≡ sets old 0 p.text

-- a turn's end: how the run ended, and what it carries, whichever way it ended
pub record Turned (m : Meaning) (state scratch old new : List ℕ) (e : Ended) (t : Carried) : Type 0 where
  pub kind_is : t.kind ≡ e.kind
  pub answers_is : t.answers ≡ e.at.answers
  pub steps_is : t.steps ≡ e.at.steps
  pub carries : ProgressCarried m state scratch old new e.at t

-- a run under way
pub record Underway (loaded : LoadedProgram) (state scratch text : List ℕ) (t : Carried) : Type 0 where
  pub ss : List Symbol
  pub sh : Sheet
  pub g : Goal
  pub spelt : Spelt ss g loaded
  pub old : List ℕ
  pub progress : Progress
  pub carries : ProgressCarried (meaning_of ss sh g loaded) state scratch old text progress t
