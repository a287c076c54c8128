-- The search for the clauses of a predicate, and what it asks.
use Rattle.std.specs.Prelude.{ℕ, zero, suc, ◌+◌, ◌≤◌, ◌<◌, true, false, List, [], ◌∷◌, eqb, length, get_or, ◌≡◌}
use Rattle.syntax.specs.Terms.{term_of, Clause, Sheet}
use Rattle.run_layout.specs.Nodes.{Symbol, TermLoaded}
use Rattle.run_layout.specs.Program.{head_at}
use Rattle.syntax.specs.Words.{program_clauses}
use Rattle.run_layout.specs.Regions.{bodies, code_words, places}
use Rattle.load.specs.declared.next_clauses.Heads.{Heads}

-- Of n clauses, the first of number j, the topmost whose head has this first word; 0 where there is none.
unfoldable pub sought : List ℕ → List ℕ → ℕ → ℕ → ℕ → ℕ
sought nodes code word j zero = 0
sought nodes code word j (suc n) = elim (eqb (get_or nodes (head_at code j) 0) word) [ true ↦ j | false ↦ sought nodes code word (j + 1) n ]

-- every clause has its head's place
pub record HeadsPlaced (nodes code : List ℕ) (clauses : ℕ) : Type 0 where
  pub few : clauses ≤ program_clauses
  pub long : bodies ≤ length code
  pub inside : (j : ℕ) → 1 ≤ j → j ≤ clauses → head_at code j < length nodes

-- the heads of clauses, the first of number k, stand where their records say
abbrev pub HeadsLoaded : List Symbol → List ℕ → List ℕ → ℕ → List Clause → Type 0
HeadsLoaded ss nodes code k [] = Unit {0}
HeadsLoaded ss nodes code k (cl ∷ cls) = TermLoaded ss nodes (head_at code k) (term_of cl.head) × HeadsLoaded ss nodes code (k + 1) cls

-- What the loaded tables mean: their symbols, and the sheet.
pub record Meant : Type 0 where
  pub ss : List Symbol
  pub sh : Sheet

-- the heads of a sheet's clauses have their places
pub record Headed (m : Meant) (h : Heads) (code : List ℕ) : Type 0 where
  pub count : h.clauses ≡ length m.sh.clauses
  pub few : h.clauses ≤ program_clauses
  pub heads : HeadsLoaded m.ss h.nodes.now code 1 m.sh.clauses
  pub room : code_words ≤ length code
  pub short : length code ≤ places
  pub nodes_short : length h.nodes.now ≤ places
