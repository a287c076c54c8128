-- What a choice makes of the top alternative: what the functions ask and promise.
use Rattle.std.specs.Prelude.{ℕ, ◌-◌, ◌≤◌, ◌<◌, ◌≡◌, ◌⊎◌, Bool, true, false, List, ◌∷◌, length, Option, Some, None}
use Rattle.syntax.specs.Limits.{longest_path}
use Rattle.syntax.specs.Words.{call_kind}
use Rattle.machine.specs.Machine.{Alternative}
use Rattle.machine.specs.Low.{Low}
use Rattle.run_layout.specs.Regions.{body_end_kind, split_kind}
use Rattle.run_layout.specs.Program.{record_kind}
use Rattle.run_layout.specs.Pile.{literal_at, mark_at, path_at, alternative_at}
use Rattle.run_layout.specs.Rooms.{Clean}
use Rattle.bindings.specs.Scratch.{Roomy}
use Rattle.run.specs.Meanings.{Meaning, pile_in, PiledIn}
use Rattle.run.specs.Steps.{Running}
use Rattle.run.specs.declared.alternatives.PileHeight.{PileHeight}
use Rattle.derivations.specs.Workings.{Resolvent, failed, led}
use Rattle.derivations.specs.declared.Choice.{Choice}
use Rattle.derivations.specs.declared.Choice.TheVariants.{Left, Right}
use Rattle.derivations.specs.Resolvents.{resolvent, potential}

-- ---- what the functions ask

-- Words that mean a low pile that is not empty. Scratch words have room, and no cell is marked.
pub record SomePile (nodes code state scratch : List ℕ) (h n : ℕ) : Type 0 where
  pub running : Running nodes code state h n
  pub some : 1 ≤ h
  pub roomy : Roomy scratch
  pub clean : Clean scratch

-- The top stands at a call, with a trail as long as its own and a path below the longest, and a clause has that number.
pub record ClauseTakable (nodes code state scratch : List ℕ) (h number : ℕ) : Type 0 where
  pub top : SomePile nodes code state scratch h (mark_at state (h - 1))
  pub kind : record_kind code (literal_at state (h - 1)) ≡ call_kind
  pub low : path_at state (h - 1) < longest_path
  pub first : 1 ≤ number
  pub last : number ≤ length top.running.sh.clauses

-- the top stands at `true`, `fail` or an equation
pub record LiteralPassable (nodes code state scratch : List ℕ) (h n : ℕ) : Type 0 where
  pub top : SomePile nodes code state scratch h n
  pub no_call : record_kind code (literal_at state (h - 1)) ≡ call_kind → ⊥
  pub no_split : record_kind code (literal_at state (h - 1)) ≡ split_kind → ⊥
  pub no_end : record_kind code (literal_at state (h - 1)) ≡ body_end_kind → ⊥

-- the top stands at a bracket
pub record SideTakable (nodes code state scratch : List ℕ) (h n : ℕ) : Type 0 where
  pub top : SomePile nodes code state scratch h n
  pub kind : record_kind code (literal_at state (h - 1)) ≡ split_kind

-- The top stands at a call or a bracket, with a trail as long as its own. So many clauses has the sheet.
pub record ChoiceDue (nodes code : List ℕ) (clauses : ℕ) (state scratch : List ℕ) (h n : ℕ) : Type 0 where
  pub top : SomePile nodes code state scratch h n
  pub mark : mark_at state (h - 1) ≡ n
  pub due : (record_kind code (literal_at state (h - 1)) ≡ call_kind) ⊎ (record_kind code (literal_at state (h - 1)) ≡ split_kind)
  pub count : clauses ≡ length top.running.sh.clauses

-- ---- what they promise

-- alternative k
abbrev pub alternative_in : Meaning → List ℕ → ℕ → Alternative
alternative_in m state k = alternative_at m.ss m.sh m.g m.nodes m.code state k

-- The words mean a low pile, of which the top has this resolvent, and from which fewer literals can be met than from an alternative.
pub record Advanced (m : Meaning) (before scratch : List ℕ) (from : Alternative) (s : Resolvent) (after later : List ℕ) (r : PileHeight) : Type 0 where
  pub new : Alternative
  pub others : List Alternative
  pub is : pile_in m after r.height ≡ new ∷ others
  pub stands : s ≡ resolvent new
  pub falls : potential new < potential from
  pub low : Low (pile_in m after r.height)
  pub piled : PiledIn m after r.height r.trail
  pub state_long : length after ≡ length before
  pub clean : Clean later
  pub scratch_long : length later ≡ length scratch

-- where a choice leads from alternative k
abbrev pub led_from : Meaning → List ℕ → ℕ → Choice → Resolvent
led_from m before k c = led m.sh c (resolvent (alternative_in m before k))

-- a choice is made, or it does not fit
unfoldable pub ChoiceMade : (m : Meaning) (before scratch : List ℕ) (k : ℕ) (c : Choice) (after later : List ℕ) → Option PileHeight → Type 0
ChoiceMade m before scratch k c after later None = led_from m before k c ≡ failed
ChoiceMade m before scratch k c after later (Some r) =
    Advanced m before scratch (alternative_in m before k) (led_from m before k c) after later r

-- the literal is gone through, and the resolvent is the same; or it has failed
unfoldable pub LiteralPassed : (m : Meaning) (before scratch : List ℕ) (k : ℕ) (after later : List ℕ) → Option PileHeight → Type 0
LiteralPassed m before scratch k after later None = resolvent (alternative_in m before k) ≡ failed
LiteralPassed m before scratch k after later (Some r) =
    Advanced m before scratch (alternative_in m before k) (resolvent (alternative_in m before k)) after later r

abbrev pub side : Bool → Choice
side true = Right
side false = Left
