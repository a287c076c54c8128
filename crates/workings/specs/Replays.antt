-- The replay over loaded words: what its functions ask and promise.
use Rattle.std.specs.Prelude.{ℕ, ◌-◌, ◌≤◌, ◌<◌, ◌≡◌, ◌⊎◌, List, length, drop, Result, Ok, Err}
use Rattle.syntax.specs.Words.{call_kind}
use Rattle.syntax.specs.Terms.{Sheet}
use Rattle.machine.specs.Low.{Low}
use Rattle.run_layout.specs.Regions.{body_end_kind, split_kind}
use Rattle.run_layout.specs.Program.{record_kind}
use Rattle.run_layout.specs.State.{bindings}
use Rattle.run_layout.specs.Pile.{literal_at, mark_at}
use Rattle.run_layout.specs.Rooms.{Clean}
use Rattle.bindings.specs.Scratch.{Roomy}
use Rattle.run.specs.Meanings.{Meaning, pile_in, PiledIn}
use Rattle.run.specs.Steps.{Startable}
use Rattle.run.specs.declared.alternatives.PileHeight.{PileHeight}
use Rattle.derivations.specs.Workings.{Resolvent, Replayed, answered, stopped, records_from, behind, used, replay}
use Rattle.derivations.specs.Resolvents.{resolvent, potential}
use Rattle.workings.specs.Choices.{SomePile, alternative_in}
use Rattle.workings.specs.declared.replays.Place.{Place}
use Rattle.workings.specs.declared.replays.Move.{Move}
use Rattle.workings.specs.declared.replays.Move.TheVariants.{On, Answer, Stopped}

-- What is to come where so many bytes are of records used up, and the record that is gone through ends at `past`.
abbrev pub rest_of : Sheet → List ℕ → ℕ → ℕ → Resolvent → Replayed
rest_of sh w up past s = behind up (used (past - up) s (replay sh (records_from 0 (drop past w)) s))

-- what a replay comes to from a place on
abbrev pub comes_to : Meaning → List ℕ → List ℕ → Place → Replayed
comes_to m workings state at = rest_of m.sh workings at.used at.past (resolvent (alternative_in m state (at.pile.height - 1)))

-- ---- what a move asks

-- The words mean a pile on which a replay can stand, over a sheet of so many clauses; the place is within the workings.
pub record Replaying (nodes code : List ℕ) (clauses : ℕ) (workings state scratch : List ℕ) (at : Place) : Type 0 where
  pub top : SomePile nodes code state scratch at.pile.height at.pile.trail
  pub count : clauses ≡ length top.running.sh.clauses
  pub order : at.used ≤ at.past
  pub inside : at.past ≤ length workings

-- the kind of the literal that the top stands at
abbrev pub kind_at : List ℕ → List ℕ → Place → ℕ
kind_at code state at = record_kind code (literal_at state (at.pile.height - 1))

-- the top stands at a call or a bracket, with a trail as long as its own
pub record RecordDue (nodes code : List ℕ) (clauses : ℕ) (workings state scratch : List ℕ) (at : Place) : Type 0 where
  pub replaying : Replaying nodes code clauses workings state scratch at
  pub mark : mark_at state (at.pile.height - 1) ≡ at.pile.trail
  pub due : (kind_at code state at ≡ call_kind) ⊎ (kind_at code state at ≡ split_kind)

-- the top stands at `true`, `fail` or an equation
pub record LiteralDue (nodes code : List ℕ) (clauses : ℕ) (workings state scratch : List ℕ) (at : Place) : Type 0 where
  pub replaying : Replaying nodes code clauses workings state scratch at
  pub no_call : kind_at code state at ≡ call_kind → ⊥
  pub no_split : kind_at code state at ≡ split_kind → ⊥
  pub no_end : kind_at code state at ≡ body_end_kind → ⊥

-- ---- what a move comes to

-- another place, from which the replay comes to the same, and fewer literals can be met
pub record MovedOn (m : Meaning) (workings before scratch : List ℕ) (from : Place) (after later : List ℕ) (to : Place) : Type 0 where
  pub order : to.used ≤ to.past
  pub inside : to.past ≤ length workings
  pub some : 1 ≤ to.pile.height
  pub low : Low (pile_in m after to.pile.height)
  pub piled : PiledIn m after to.pile.height to.pile.trail
  pub clean : Clean later
  pub scratch_long : length later ≡ length scratch
  pub same : comes_to m workings before from ≡ comes_to m workings after to
  pub falls : potential (alternative_in m after (to.pile.height - 1)) < potential (alternative_in m before (from.pile.height - 1))

-- the words mean a pile of which the trail is the answer's, and that is what was to come
pub record AnswerStands (m : Meaning) (state scratch : List ℕ) (comes : Replayed) (pile : PileHeight) : Type 0 where
  pub piled : PiledIn m state pile.height pile.trail
  pub clean : Clean scratch
  pub is : comes ≡ answered (bindings m.ss m.nodes state pile.trail)

unfoldable pub MoveMade : Meaning → (workings before scratch : List ℕ) → Place → (after later : List ℕ) → Move → Type 0
MoveMade m workings before scratch from after later (On to) = MovedOn m workings before scratch from after later to
MoveMade m workings before scratch from after later (Answer pile) = AnswerStands m after later (comes_to m workings before from) pile
MoveMade m workings before scratch from after later (Stopped i) = comes_to m workings before from ≡ stopped i

-- ---- the whole replay

-- a loaded program over a sheet of so many clauses, a state in which no cell is bound, and scratch words without a mark
pub record ReplayStartable (nodes code : List ℕ) (clauses : ℕ) (state scratch : List ℕ) : Type 0 where
  pub start : Startable nodes code state
  pub count : clauses ≡ length start.sh.clauses
  pub roomy : Roomy scratch
  pub clean : Clean scratch

abbrev pub start_meaning : {nodes code : List ℕ} {clauses : ℕ} {state scratch : List ℕ} → ReplayStartable nodes code clauses state scratch → Meaning
start_meaning {nodes} {code} w = record { ss = w.start.ss; sh = w.start.sh; g = w.start.g; nodes = nodes; code = code }

-- the answer stands on the pile; or there is none, and so many bytes are used up
unfoldable pub ReplayEnded : Meaning → (state scratch : List ℕ) → Replayed → Result PileHeight ℕ → Type 0
ReplayEnded m state scratch r (Ok pile) = AnswerStands m state scratch r pile
ReplayEnded m state scratch r (Err i) = r ≡ stopped i
