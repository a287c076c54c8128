-- What the words of a run's state mean: literals left, calls, alternatives, the pile. Each is by recursion on a count, so that the words of what lies
-- above the count are of no account.
use Rattle.std.specs.Prelude.{ℕ, zero, suc, ◌+◌, ◌-◌, ◌/◌, ◌<◌, ◌≤◌, ◌≡◌, true, false, List, [], ◌∷◌, T, leb, ltb, eqb, length, get_or}
use Rattle.std.proofs.Math.Option.{Option, none, some}
use Rattle.syntax.specs.Limits.{longest_path}
use Rattle.syntax.specs.Terms.{Atom, nil, Literal, call, equation, truth, falsity, either, Body, done, also, Clause, Sheet, Goal}
use Rattle.syntax.specs.Words.{literal_length, body_length}
use Rattle.machine.specs.Machine.{Pending, Call, Alternative, pending, is_for, clause_at}
use Rattle.run_layout.specs.Regions.{state_words, frame_of, alternative_of, literal_size, jump_kind, next_literal, literal_from}
use Rattle.run_layout.specs.Nodes.{Symbol}
use Rattle.run_layout.specs.State.{bindings, Store, WithinCopies}
use Rattle.run_layout.specs.Program.{body_at, record_kind, Program}

-- ---- bodies

unfoldable pub body_in : Option Clause → Body
body_in none = done
body_in (some cl) = cl.body

-- the body of the clause of a number; the goal's for 0
unfoldable pub body_of : Sheet → Goal → ℕ → Body
body_of sh g zero = g.body
body_of sh g (suc k) = body_in (clause_at sh (suc k))

-- a body and then another
unfoldable pub body_then : Body → Body → Body
body_then done r = r
body_then (also x b) r = also x (body_then b r)

-- What goes on from record i of a literal, and of a body, with what is behind it: from a literal's first, it and what is behind; from within a side of a
-- bracket, what goes on in that side; from the end of a side, what is behind.
unfoldable mutual
  pub from_literal : Literal → ℕ → Body → Body
  from_literal (call a) i r = also (call a) r
  from_literal (equation t u) i r = also (equation t u) r
  from_literal truth i r = also truth r
  from_literal falsity i r = also falsity r
  from_literal (either y z) zero r = also (either y z) r
  from_literal (either y z) (suc i) r = elim (leb i (body_length y)) [ true ↦ from_body y i r | false ↦ from_body z (i - (body_length y + 1)) r ]

  pub from_body : Body → ℕ → Body → Body
  from_body done i r = r
  from_body (also x b) i r = elim (ltb i (literal_length x)) [ true ↦ from_literal x i (body_then b r) | false ↦ from_body b (i - literal_length x) r ]

-- what goes on from record i of a body
unfoldable pub drop_body : ℕ → Body → Body
drop_body i b = from_body b i done

-- the atom of the call that a body begins with
unfoldable pub atom_in : Literal → Atom
atom_in (call a) = a
atom_in (equation t u) = record { at = 0; name = []; args = nil }
atom_in truth = record { at = 0; name = []; args = nil }
atom_in falsity = record { at = 0; name = []; args = nil }
atom_in (either y z) = record { at = 0; name = []; args = nil }

unfoldable pub first_atom : Body → Atom
first_atom done = record { at = 0; name = []; args = nil }
first_atom (also x b) = atom_in x

-- a body begins with a call of this atom
abbrev pub Calls : Body → Atom → Type 0
Calls done a = ⊥
Calls (also x b) a = x ≡ call a

-- ---- frames: four words for each copy

-- the clause of a copy; the goal is copy 0
unfoldable pub clause_in : List ℕ → ℕ → ℕ
clause_in state zero = 0
clause_in state (suc k) = get_or state (frame_of (suc k)) 0

-- the calling copy, and where the call stands
abbrev pub caller_of : List ℕ → ℕ → ℕ
caller_of state k = get_or state (frame_of k + 1) 0

abbrev pub call_of : List ℕ → ℕ → ℕ
call_of state k = get_or state (frame_of k + 2) 0

-- the literals of copy c from l on
unfoldable pub rest_from : Sheet → Goal → List ℕ → List ℕ → ℕ → ℕ → Body
rest_from sh g code state c l = drop_body ((l - body_at code (clause_in state c)) / literal_size) (body_of sh g (clause_in state c))

-- The literals left behind copy c, of the copies 1 to k: those of its caller behind the call, and then those behind the caller. For example, with two
-- frames, the goal `p, q.` and the clause `p :- r, s.`:
--
--     frame 1: made for `p`, a call of copy 0      behind copy 1:  `q` of copy 0
--     frame 2: made for `r`, a call of copy 1      behind copy 2:  `s` of copy 1, `q` of copy 0
--
-- The search goes down from frame k to the frame of copy c; a caller is lower than the copy made for its call, so it goes on below that frame.
unfoldable pub left_behind : Sheet → Goal → List ℕ → List ℕ → ℕ → ℕ → List Pending
left_behind sh g code state zero c = []
left_behind sh g code state (suc k) c =
    elim (eqb c (suc k)) [
      | true ↦ pending (caller_of state (suc k)) (rest_from sh g code state (caller_of state (suc k)) (next_literal (call_of state (suc k))))
          (left_behind sh g code state k (caller_of state (suc k)))
      | false ↦ left_behind sh g code state k c
    ]

-- the literals left of copy c from l on
unfoldable pub left_from : Sheet → Goal → List ℕ → List ℕ → ℕ → ℕ → ℕ → List Pending
left_from sh g code state k c l = pending c (rest_from sh g code state c l) (left_behind sh g code state k c)

-- the calls for which the copies 1 to k were made, newest first
unfoldable pub calls_up_to : Sheet → Goal → List ℕ → List ℕ → ℕ → List Call
calls_up_to sh g code state zero = []
calls_up_to sh g code state (suc k) =
    record { copy = caller_of state (suc k); atom = first_atom (rest_from sh g code state (caller_of state (suc k)) (call_of state (suc k))) }
    ∷ calls_up_to sh g code state k

-- ---- alternatives: six words each

-- where it stands: a copy and a record
abbrev pub copy_at : List ℕ → ℕ → ℕ
copy_at state j = get_or state (alternative_of j) 0

abbrev pub literal_at : List ℕ → ℕ → ℕ
literal_at state j = get_or state (alternative_of j + 1) 0

-- the next clause for its first literal
abbrev pub next_at : List ℕ → ℕ → ℕ
next_at state j = get_or state (alternative_of j + 2) 0

-- the length of its trail
abbrev pub mark_at : List ℕ → ℕ → ℕ
mark_at state j = get_or state (alternative_of j + 3) 0

abbrev pub path_at : List ℕ → ℕ → ℕ
path_at state j = get_or state (alternative_of j + 4) 0

unfoldable pub alternative_at : List Symbol → Sheet → Goal → List ℕ → List ℕ → List ℕ → ℕ → Alternative
alternative_at ss sh g nodes code state j =
    record {
      literals = left_from sh g code state (path_at state j) (copy_at state j) (literal_at state j);
      bindings = bindings ss nodes state (mark_at state j);
      next = next_at state j;
      calls = calls_up_to sh g code state (path_at state j);
    }

-- the pile of the first h alternatives, the last of them on top
unfoldable pub pile_of : List Symbol → Sheet → Goal → List ℕ → List ℕ → List ℕ → ℕ → List Alternative
pile_of ss sh g nodes code state zero = []
pile_of ss sh g nodes code state (suc h) = alternative_at ss sh g nodes code state h ∷ pile_of ss sh g nodes code state h

-- ---- words that mean a pile

-- l is a record of the body of copy c, or its end
pub record RecordOf (sh : Sheet) (g : Goal) (code state : List ℕ) (c l : ℕ) : Type 0 where
  pub clause : clause_in state c ≤ length sh.clauses
  pub index : ℕ
  pub is : l ≡ literal_from (body_at code (clause_in state c)) index
  pub low : index ≤ body_length (body_of sh g (clause_in state c))

-- the record at l is not the end of a side
abbrev pub NoJump : List ℕ → ℕ → Type 0
NoJump code l = record_kind code l ≡ jump_kind → ⊥

-- copy k was made for a call of a lower copy
pub record Frame (sh : Sheet) (g : Goal) (code state : List ℕ) (k : ℕ) : Type 0 where
  pub clause : clause_in state k ≤ length sh.clauses
  pub below : caller_of state k < k
  pub place : RecordOf sh g code state (caller_of state k) (call_of state k)
  pub stays : NoJump code (call_of state k)
  pub atom : Atom
  pub calls : Calls (rest_from sh g code state (caller_of state k) (call_of state k)) atom

-- a clause of an atom's predicate, or none
abbrev pub NextFor : Sheet → Atom → ℕ → Type 0
NextFor sh a zero = Unit {0}
NextFor sh a (suc k) = (cl : Clause) × (clause_at sh (suc k) ≡ some cl) × T (is_for a cl)

-- Alternative j, of a trail of n entries.
pub record Stacked (sh : Sheet) (g : Goal) (code state : List ℕ) (n j : ℕ) : Type 0 where
  pub low : path_at state j ≤ longest_path
  pub copy : copy_at state j ≤ path_at state j
  pub mark : mark_at state j ≤ n
  pub within : WithinCopies (path_at state j) state (mark_at state j)
  pub frame : (k : ℕ) → k < path_at state j → Frame sh g code state (suc k)
  pub place : RecordOf sh g code state (copy_at state j) (literal_at state j)
  pub stays : NoJump code (literal_at state j)
  pub ends : rest_from sh g code state (copy_at state j) (literal_at state j) ≡ done → copy_at state j ≡ 0
  pub next : (a : Atom) → Calls (rest_from sh g code state (copy_at state j) (literal_at state j)) a → NextFor sh a (next_at state j)

-- The words mean a pile of h alternatives, and the trail has n entries. Going up the pile no path is shorter, and no trail.
pub record Piled (ss : List Symbol) (sh : Sheet) (g : Goal) (nodes code state : List ℕ) (h n : ℕ) : Type 0 where
  pub program : Program ss sh g nodes code
  pub store : Store ss nodes state n
  pub long : state_words ≤ length state
  pub each : (j : ℕ) → j < h → Stacked sh g code state n j
  pub longer : (i j : ℕ) → i < j → j < h → path_at state i ≤ path_at state j
  pub later : (i j : ℕ) → i < j → j < h → mark_at state i ≤ mark_at state j
