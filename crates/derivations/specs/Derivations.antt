-- Derivations by leftmost resolution, in the subject's own words: no bindings, no unification, no state. What the theorems about the replay speak of.
use Rattle.std.specs.Prelude.{ℕ, suc, ◌+◌, ◌%◌, ◌/◌, ◌<◌, ◌≤◌, ◌≡◌, ◌⊎◌, List, [], ◌∷◌, ◌++◌, length}
use Rattle.std.proofs.Math.Option.{some}
use Rattle.syntax.specs.Limits.{longest_path}
use Rattle.syntax.specs.Terms.{Term, Atom, term_of, Literal, call, equation, truth, falsity, either, Body, Clause, Sheet, Goal}
use Rattle.machine.specs.Substitution.{RTerm, var, copied, Binding, resolve}
use Rattle.machine.specs.Unifiers.{Substitution, apply}
use Rattle.machine.specs.Machine.{Pending, pending, clause_at}
use Rattle.derivations.specs.Workings.{Choice, Numbered, Left, Right, Records, no_more, next, record_bytes, Replayed, answered, stopped, told, workings_outcome}

-- A substitution makes some literals true by a derivation that makes these choices, leftmost first; the path is k before them. A clause is taken with the
-- variables of copy k + 1.
pub data Derivation (sh : Sheet) (σ : Substitution) : ℕ → List Pending → List Choice → Type 0 where
  nothing_left : {k : ℕ} → Derivation sh σ k [] []
  by_truth : {k c : ℕ} {rest : List Pending} {ms : List Choice} → Derivation sh σ k rest ms → Derivation sh σ k (record { copy = c; literal = truth } ∷ rest) ms
  by_equation : {k c : ℕ} {t u : Term} {rest : List Pending} {ms : List Choice}
      → apply σ (copied c t) ≡ apply σ (copied c u)
      → Derivation sh σ k rest ms
      → Derivation sh σ k (record { copy = c; literal = equation t u } ∷ rest) ms
  by_clause : {k c n : ℕ} {a : Atom} {cl : Clause} {rest : List Pending} {ms : List Choice}
      → k < longest_path
      → clause_at sh n ≡ some cl
      → apply σ (copied c (term_of a)) ≡ apply σ (copied (suc k) (term_of cl.head))
      → Derivation sh σ (suc k) (pending (suc k) cl.body rest) ms
      → Derivation sh σ k (record { copy = c; literal = call a } ∷ rest) (Numbered n ∷ ms)
  by_left : {k c : ℕ} {y z : Body} {rest : List Pending} {ms : List Choice}
      → Derivation sh σ k (pending c y rest) ms
      → Derivation sh σ k (record { copy = c; literal = either y z } ∷ rest) (Left ∷ ms)
  by_right : {k c : ℕ} {y z : Body} {rest : List Pending} {ms : List Choice}
      → Derivation sh σ k (pending c z rest) ms
      → Derivation sh σ k (record { copy = c; literal = either y z } ∷ rest) (Right ∷ ms)

-- the goal is derived with these choices
abbrev pub GoalDerivation : Sheet → Goal → Substitution → List Choice → Type 0
GoalDerivation sh g σ ms = Derivation sh σ 0 (pending 0 g.body []) ms

-- ---- records as bytes

-- the records of some choices, and then others
unfoldable pub recorded_then : List Choice → Records → Records
recorded_then [] rs = rs
recorded_then (m ∷ ms) rs = next m (recorded_then ms rs)

abbrev pub recorded : List Choice → Records
recorded ms = recorded_then ms no_more

-- a record as bytes, and then others: "a two-byte clause number, low byte first"
unfoldable pub written_record : Choice → List ℕ → List ℕ
written_record (Numbered n) rest = 1 ∷ (n % 256) ∷ (n / 256) ∷ rest
written_record Left rest = 2 ∷ rest
written_record Right rest = 3 ∷ rest

unfoldable pub written : List Choice → List ℕ
written [] = []
written (m ∷ ms) = written_record m (written ms)

-- each is a byte
abbrev pub AllBytes : List ℕ → Type 0
AllBytes [] = Unit {0}
AllBytes (b ∷ s) = (b < 256) × AllBytes s

-- ---- what the theorems say

-- the substitution that bindings are
abbrev pub put_in : List Binding → Substitution
put_in b v = resolve b (var v)

-- The bindings are the most general with which the goal is derived by these choices: they derive it, and whatever derives it so is an instance of them.
pub record MostGeneralAnswer (sh : Sheet) (g : Goal) (ms : List Choice) (b : List Binding) : Type 0 where
  pub derives : GoalDerivation sh g (put_in b) ms
  pub general : (σ : Substitution) → GoalDerivation sh g σ ms → (x : RTerm) → apply σ (resolve b x) ≡ apply σ x

-- what a replay is to answer: the most general answer of a derivation by the choices recorded, all of them; or there is no such derivation
unfoldable pub ReplaysExactly : Sheet → Goal → Records → Replayed → Type 0
ReplaysExactly sh g rs (answered b) = (ms : List Choice) × (rs ≡ recorded ms) × MostGeneralAnswer sh g ms b
ReplaysExactly sh g rs (stopped i) = (ms : List Choice) (σ : Substitution) → rs ≡ recorded ms → GoalDerivation sh g σ ms → ⊥

-- Of the answers of a run, so many, and its text: each line, in order, is the line of workings that are accepted, "given room for it".
pub data LinesHaveWorkings (sheet goal : List ℕ) : ℕ → List ℕ → Type 0 where
  no_answer : LinesHaveWorkings sheet goal 0 []
  one_more : {n : ℕ} {text : List ℕ}
      → LinesHaveWorkings sheet goal n text
      → (l workings : List ℕ)
      → AllBytes workings
      → ((room : ℕ) → length l ≤ room → workings_outcome sheet goal workings room ≡ told l)
      → LinesHaveWorkings sheet goal (suc n) (text ++ l)

-- ---- records used up

-- a record is due, or nothing is left: literals that begin with a call or a bracket, or none
abbrev pub IsDue : Literal → Type 0
IsDue (call a) = Unit {0}
IsDue (equation t u) = ⊥
IsDue truth = ⊥
IsDue falsity = ⊥
IsDue (either y z) = Unit {0}

abbrev pub DueFirst : List Pending → Type 0
DueFirst [] = Unit {0}
DueFirst (p ∷ rest) = IsDue p.literal

-- "A record is used up once all before the next call or bracket has gone through": a derivation that these choices take to such a place.
pub data PartialDerivation (sh : Sheet) (σ : Substitution) : ℕ → List Pending → List Choice → Type 0 where
  arrives : {k : ℕ} {lits : List Pending} → DueFirst lits → PartialDerivation sh σ k lits []
  past_truth : {k c : ℕ} {rest : List Pending} {ms : List Choice}
      → PartialDerivation sh σ k rest ms
      → PartialDerivation sh σ k (record { copy = c; literal = truth } ∷ rest) ms
  past_equation : {k c : ℕ} {t u : Term} {rest : List Pending} {ms : List Choice}
      → apply σ (copied c t) ≡ apply σ (copied c u)
      → PartialDerivation sh σ k rest ms
      → PartialDerivation sh σ k (record { copy = c; literal = equation t u } ∷ rest) ms
  past_call : {k c n : ℕ} {a : Atom} {cl : Clause} {rest : List Pending} {ms : List Choice}
      → k < longest_path
      → clause_at sh n ≡ some cl
      → apply σ (copied c (term_of a)) ≡ apply σ (copied (suc k) (term_of cl.head))
      → PartialDerivation sh σ (suc k) (pending (suc k) cl.body rest) ms
      → PartialDerivation sh σ k (record { copy = c; literal = call a } ∷ rest) (Numbered n ∷ ms)
  past_left : {k c : ℕ} {y z : Body} {rest : List Pending} {ms : List Choice}
      → PartialDerivation sh σ k (pending c y rest) ms
      → PartialDerivation sh σ k (record { copy = c; literal = either y z } ∷ rest) (Left ∷ ms)
  past_right : {k c : ℕ} {y z : Body} {rest : List Pending} {ms : List Choice}
      → PartialDerivation sh σ k (pending c z rest) ms
      → PartialDerivation sh σ k (record { copy = c; literal = either y z } ∷ rest) (Right ∷ ms)

-- the first records of some, those of these choices, are used up
pub record UsedUp (sh : Sheet) (g : Goal) (rs : Records) (ms : List Choice) : Type 0 where
  pub others : Records
  pub first : rs ≡ recorded_then ms others
  pub by : Substitution
  pub leads : PartialDerivation sh by 0 (pending 0 g.body []) ms

unfoldable pub bytes_in : List Choice → ℕ
bytes_in [] = 0
bytes_in (m ∷ ms) = record_bytes m + bytes_in ms

-- Refusal 17's byte: the bytes of the most records, from the first on, that are used up; 0 where the goal breaks before any record.
pub record BytesUsedUp (sh : Sheet) (g : Goal) (rs : Records) (i : ℕ) : Type 0 where
  pub most : (ms : List Choice) → UsedUp sh g rs ms → bytes_in ms ≤ i
  pub attained : (i ≡ 0) ⊎ ((ms : List Choice) × (bytes_in ms ≡ i) × UsedUp sh g rs ms)

abbrev pub ByteIsRight : Sheet → Goal → Records → Replayed → Type 0
ByteIsRight sh g rs (answered b) = Unit {0}
ByteIsRight sh g rs (stopped i) = BytesUsedUp sh g rs i
