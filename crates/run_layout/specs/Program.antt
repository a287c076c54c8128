-- A loaded sheet and goal: what stands in the table of clauses and literals.
use Rattle.std.specs.Prelude.{ℕ, ◌+◌, ◌≤◌, ◌≡◌, Bool, true, ◌&&◌, List, [], ◌∷◌, ◌++◌, length, get_or}
use Rattle.std.proofs.Math.Option.{some}
use Rattle.syntax.specs.Words.{truth_kind, falsity_kind, call_kind, equation_kind, literal_length, body_length, program_clauses}
use Rattle.syntax.specs.Terms.{term_of, Literal, call, equation, truth, falsity, either, Body, done, also, Clause, Sheet, Goal}
use Rattle.machine.specs.Machine.{next_for, clause_at}
use Rattle.machine.specs.Low.{BodyShort, ClausesShort}
use Rattle.run_layout.specs.Regions.{places, bodies, body_end_kind, split_kind, jump_kind, literal_from, clause_record}
use Rattle.run_layout.specs.Nodes.{Symbol, loaded_words, is_loadable, TermLoaded}

-- ---- nodes

-- the nodes of a literal's terms, of a body's, of a clause's and of all clauses', one behind the other; of a bracket, the left side's first
unfoldable mutual
  pub literal_nodes : List Symbol → Literal → List ℕ
  literal_nodes ss (call a) = loaded_words ss (term_of a)
  literal_nodes ss (equation t u) = loaded_words ss t ++ loaded_words ss u
  literal_nodes ss truth = []
  literal_nodes ss falsity = []
  literal_nodes ss (either y z) = body_nodes ss y ++ body_nodes ss z

  pub body_nodes : List Symbol → Body → List ℕ
  body_nodes ss done = []
  body_nodes ss (also x b) = literal_nodes ss x ++ body_nodes ss b

unfoldable pub clause_nodes : List Symbol → Clause → List ℕ
clause_nodes ss cl = loaded_words ss (term_of cl.head) ++ body_nodes ss cl.body

unfoldable pub clauses_nodes : List Symbol → List Clause → List ℕ
clauses_nodes ss [] = []
clauses_nodes ss (cl ∷ cls) = clause_nodes ss cl ++ clauses_nodes ss cls

-- the goal's first
unfoldable pub program_nodes : List Symbol → Sheet → Goal → List ℕ
program_nodes ss sh g = body_nodes ss g.body ++ clauses_nodes ss sh.clauses

-- all of these terms can stand in the table
unfoldable mutual
  pub literal_loadable : List Symbol → Literal → Bool
  literal_loadable ss (call a) = is_loadable ss (term_of a)
  literal_loadable ss (equation t u) = is_loadable ss t && is_loadable ss u
  literal_loadable ss truth = true
  literal_loadable ss falsity = true
  literal_loadable ss (either y z) = body_loadable ss y && body_loadable ss z

  pub body_loadable : List Symbol → Body → Bool
  body_loadable ss done = true
  body_loadable ss (also x b) = literal_loadable ss x && body_loadable ss b

unfoldable pub clauses_loadable : List Symbol → List Clause → Bool
clauses_loadable ss [] = true
clauses_loadable ss (cl ∷ cls) = (is_loadable ss (term_of cl.head) && body_loadable ss cl.body) && clauses_loadable ss cls

-- ---- clauses and literals

-- A record for the goal, which has the number 0, and for each clause by its number: the place of its head, where its first literal stands, the next
-- clause of its predicate (0 for none). The fourth word is not used.
abbrev pub head_at : List ℕ → ℕ → ℕ
head_at code k = get_or code (clause_record k) 0

abbrev pub body_at : List ℕ → ℕ → ℕ
body_at code k = get_or code (clause_record k + 1) 0

abbrev pub after_at : List ℕ → ℕ → ℕ
after_at code k = get_or code (clause_record k + 2) 0

-- A record of a body: its kind; the place of the atom or of the left term; the topmost clause for the call (0 for none), the place of the right term,
-- or another record. The fourth word is not used.
abbrev pub record_kind : List ℕ → ℕ → ℕ
record_kind code l = get_or code l 0

abbrev pub record_place : List ℕ → ℕ → ℕ
record_place code l = get_or code (l + 1) 0

abbrev pub other_at : List ℕ → ℕ → ℕ
other_at code l = get_or code (l + 2) 0

-- a record names another
abbrev pub RefersTo : List ℕ → ℕ → ℕ → ℕ → Type 0
RefersTo code kind l other = (record_kind code l ≡ kind) × (other_at code l ≡ other)

-- the records of a bracket before its right side: its first, those of the left side, and that side's end
abbrev pub right_of : Body → ℕ
right_of left = body_length left + 2

-- a literal that is no bracket stands at l
abbrev pub PlainLoaded : List Symbol → Sheet → List ℕ → List ℕ → ℕ → Literal → Type 0
PlainLoaded ss sh nodes code l (call a) = (record_kind code l ≡ call_kind) × TermLoaded ss nodes (record_place code l) (term_of a)
    × (other_at code l ≡ next_for sh a 0)
PlainLoaded ss sh nodes code l (equation t u) = (record_kind code l ≡ equation_kind) × TermLoaded ss nodes (record_place code l) t
    × TermLoaded ss nodes (other_at code l) u
PlainLoaded ss sh nodes code l truth = record_kind code l ≡ truth_kind
PlainLoaded ss sh nodes code l falsity = record_kind code l ≡ falsity_kind
PlainLoaded ss sh nodes code l (either y z) = ⊥

-- In the body that begins at `start`, a literal stands from record n on. A bracket's first record names the first one of its right side; behind the
-- literals of a side, a record names the one behind the bracket.
abbrev mutual
  pub LiteralLoaded : List Symbol → Sheet → List ℕ → List ℕ → ℕ → ℕ → Literal → Type 0
  LiteralLoaded ss sh nodes code start n (call a) = PlainLoaded ss sh nodes code (literal_from start n) (call a)
  LiteralLoaded ss sh nodes code start n (equation t u) = PlainLoaded ss sh nodes code (literal_from start n) (equation t u)
  LiteralLoaded ss sh nodes code start n truth = PlainLoaded ss sh nodes code (literal_from start n) truth
  LiteralLoaded ss sh nodes code start n falsity = PlainLoaded ss sh nodes code (literal_from start n) falsity
  LiteralLoaded ss sh nodes code start n (either y z) =
      RefersTo code split_kind (literal_from start n) (literal_from start (n + right_of y))
      × ItemsLoaded ss sh nodes code start (n + 1) y
      × RefersTo code jump_kind (literal_from start (n + 1 + body_length y)) (literal_from start (n + literal_length (either y z)))
      × ItemsLoaded ss sh nodes code start (n + right_of y) z
      × RefersTo code jump_kind (literal_from start (n + right_of y + body_length z)) (literal_from start (n + literal_length (either y z)))

  -- the literals of a body stand from record n on, one behind the other
  pub ItemsLoaded : List Symbol → Sheet → List ℕ → List ℕ → ℕ → ℕ → Body → Type 0
  ItemsLoaded ss sh nodes code start n done = Unit {0}
  ItemsLoaded ss sh nodes code start n (also x b) =
      LiteralLoaded ss sh nodes code start n x × ItemsLoaded ss sh nodes code start (n + literal_length x) b

-- a body stands from l on, and then its end
pub record BodyLoaded (ss : List Symbol) (sh : Sheet) (nodes code : List ℕ) (l : ℕ) (b : Body) : Type 0 where
  pub room : literal_from l (body_length b + 1) ≤ length code
  pub items : ItemsLoaded ss sh nodes code l 0 b
  pub ends : record_kind code (literal_from l (body_length b)) ≡ body_end_kind

-- the clause of number k
pub record ClauseLoaded (ss : List Symbol) (sh : Sheet) (nodes code : List ℕ) (k : ℕ) (cl : Clause) : Type 0 where
  pub head : TermLoaded ss nodes (head_at code k) (term_of cl.head)
  pub body : BodyLoaded ss sh nodes code (body_at code k) cl.body
  pub after : after_at code k ≡ next_for sh cl.head k

-- A sheet and a goal are loaded.
pub record Program (ss : List Symbol) (sh : Sheet) (g : Goal) (nodes code : List ℕ) : Type 0 where
  pub small : length nodes ≤ places
  pub long : bodies ≤ length code
  pub short : length code ≤ places
  pub few : length sh.clauses ≤ program_clauses
  pub bodies_short : ClausesShort sh.clauses
  pub goal_short : BodyShort g.body
  pub goal : BodyLoaded ss sh nodes code (body_at code 0) g.body
  pub clause : (k : ℕ) (cl : Clause) → clause_at sh k ≡ some cl → ClauseLoaded ss sh nodes code k cl
