-- What the functions below `step` are given and what they promise.
use Rattle.std.specs.Prelude.{ℕ, suc, ◌≤◌, ◌<◌, ◌≡◌, List, ◌++◌, length}
use Rattle.std.proofs.Math.Option.{some}
use Rattle.syntax.specs.Limits.{longest_path}
use Rattle.syntax.specs.Terms.{Atom, done, Clause, Sheet, Goal}
use Rattle.machine.specs.Machine.{Pending, Alternative, topmost, clause_at, tried, on_top}
use Rattle.run_layout.specs.Regions.{cells, state_words, next_literal, most_alternatives}
use Rattle.run_layout.specs.Nodes.{Symbol}
use Rattle.run_layout.specs.Program.{Program}
use Rattle.run_layout.specs.Pile.{Calls, rest_from, left_from, copy_at, literal_at, mark_at, path_at, alternative_at, pile_of}
use Rattle.run_layout.specs.Pile.{RecordOf, NoJump, Frame, NextFor, Piled}
use Rattle.run_layout.specs.Rooms.{Clean}
use Rattle.bindings.specs.Scratch.{Roomy}
use Rattle.run.specs.Words.{top_words}
use Rattle.run.specs.declared.alternatives.PileHeight.{PileHeight}
use Rattle.run.specs.declared.alternatives.records.Spot.{Spot}

-- ---- past the end of a side

-- l is a record of some copy's body, or its end
pub record Settlable (code : List ℕ) (l : ℕ) : Type 0 where
  pub ss : List Symbol
  pub sh : Sheet
  pub g : Goal
  pub nodes : List ℕ
  pub state : List ℕ
  pub copy : ℕ
  pub program : Program ss sh g nodes code
  pub place : RecordOf sh g code state copy l

-- The same goes on from r, which is not the end of a side.
pub record SideEndPassed (sh : Sheet) (g : Goal) (code state : List ℕ) (c l r : ℕ) : Type 0 where
  pub here : NoJump code l → r ≡ l
  pub place : RecordOf sh g code state c r
  pub stays : NoJump code r
  pub same : rest_from sh g code state c r ≡ rest_from sh g code state c l

-- ---- the first literal left

-- The copies 1 to path were made for calls of lower ones, and l is a record of the body of copy c, one of them or the goal, or its end.
pub record Climbing (ss : List Symbol) (sh : Sheet) (g : Goal) (nodes code state : List ℕ) (path c l : ℕ) : Type 0 where
  pub program : Program ss sh g nodes code
  pub long : state_words ≤ length state
  pub low : path ≤ longest_path
  pub frame : (k : ℕ) → k < path → Frame sh g code state (suc k)
  pub copy : c ≤ path
  pub place : RecordOf sh g code state c l

pub record Climbable (code state : List ℕ) (c l : ℕ) : Type 0 where
  pub ss : List Symbol
  pub sh : Sheet
  pub g : Goal
  pub nodes : List ℕ
  pub path : ℕ
  pub climbing : Climbing ss sh g nodes code state path c l

-- The same literals are left from a spot that is no side's end, and no body's, unless it is the goal's.
pub record FirstLeft (sh : Sheet) (g : Goal) (code state : List ℕ) (path c l : ℕ) (r : Spot) : Type 0 where
  pub copy : r.copy ≤ c
  pub here : NoJump code l → r.copy ≡ c → r.literal ≡ l
  pub place : RecordOf sh g code state r.copy r.literal
  pub stays : NoJump code r.literal
  pub ends : rest_from sh g code state r.copy r.literal ≡ done → r.copy ≡ 0
  pub same : left_from sh g code state path r.copy r.literal ≡ left_from sh g code state path c l

-- ---- an alternative laid

pub record Layable (code state : List ℕ) (j c l mark path : ℕ) : Type 0 where
  pub ss : List Symbol
  pub sh : Sheet
  pub g : Goal
  pub nodes : List ℕ
  pub climbing : Climbing ss sh g nodes code state path c l
  pub room : j < most_alternatives
  pub small : mark ≤ cells

-- Alternative j stands at the first of the literals left from l of copy c on, which is new.
pub record AlternativeLaid {ss : List Symbol} {sh : Sheet} {g : Goal} {nodes code before : List ℕ} {path c l : ℕ}
    (w : Climbing ss sh g nodes code before path c l) (after : List ℕ) (j mark : ℕ) : Type 0 where
  pub spot : Spot
  pub next : ℕ
  pub climbs : FirstLeft sh g code before path c l spot
  pub next_is : next ≡ topmost sh (left_from sh g code before path c l)
  pub next-for : (a : Atom) → Calls (rest_from sh g code before spot.copy spot.literal) a → NextFor sh a next
  pub words : after ≡ top_words before j spot.copy spot.literal next mark path

-- ---- a clause tried

-- The top, alternative j, stands at a call, and the clause of number k is to be tried for it, as copy path + 1.
pub record Tryable (nodes code state scratch : List ℕ) (h j k : ℕ) : Type 0 where
  pub ss : List Symbol
  pub sh : Sheet
  pub g : Goal
  pub piled : Piled ss sh g nodes code state h (mark_at state j)
  pub filled : h ≡ suc j
  pub low : path_at state j < longest_path
  pub room : h < most_alternatives
  pub atom : Atom
  pub calls : Calls (rest_from sh g code state (copy_at state j) (literal_at state j)) atom
  pub clause : Clause
  pub there : clause_at sh k ≡ some clause
  pub roomy : Roomy scratch
  pub clean : Clean scratch

-- the literals behind the one that alternative j stands at
abbrev pub rest_at : Sheet → Goal → List ℕ → List ℕ → ℕ → List Pending
rest_at sh g code state j = left_from sh g code state (path_at state j) (copy_at state j) (next_literal (literal_at state j))

-- what comes of the top alternative j when the clause is tried, and the pile below it
abbrev pub tried_on : {nodes code state scratch : List ℕ} {h j k : ℕ} → Tryable nodes code state scratch h j k → List Alternative
tried_on {nodes} {code} {state} {j = j} w =
    on_top (tried w.sh (alternative_at w.ss w.sh w.g nodes code state j) (copy_at state j) w.atom (rest_at w.sh w.g code state j) w.clause)
    (alternative_at w.ss w.sh w.g nodes code state j)
    ++ pile_of w.ss w.sh w.g nodes code state j

-- The words mean that pile then.
pub record ClauseTried {nodes code before scratch : List ℕ} {h j k : ℕ} (w : Tryable nodes code before scratch h j k) (after later : List ℕ) (r : PileHeight)
    : Type 0 where
  pub is : pile_of w.ss w.sh w.g nodes code after r.height ≡ tried_on w
  pub piled : Piled w.ss w.sh w.g nodes code after r.height r.trail
  pub state_long : length after ≡ length before
  pub clean : Clean later
  pub scratch_long : length later ≡ length scratch
