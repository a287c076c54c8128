-- Workings of another engine checked (REQUESTS (xi), "Check the vendor's workings"): its records, the replay of a goal by them, and the answer.
use Rattle.std.specs.Prelude.{ℕ, zero, suc, ◌+◌, ◌*◌, cond, List, [], ◌∷◌, leb, ltb, eqb, length, get_or, Result, Ok}
use Rattle.std.proofs.Math.Option.{Option, none, some}
use Rattle.syntax.specs.Limits.{longest_path}
use Rattle.syntax.specs.Terms.{Atom, term_of, Literal, call, equation, truth, falsity, either, Body, Clause, Sheet, Goal}
use Rattle.syntax.specs.Verdicts.{Outcome, refused, accepted, Refused}
use Rattle.syntax.specs.declared.Text.{Text}
use Rattle.syntax.specs.declared.Text.TheVariants.{Sheet as in_sheet, Goal as in_goal, Workings as in_workings, Neither}
use Rattle.syntax.specs.declared.Refusal.{Refusal}
use Rattle.syntax.specs.declared.Refusal.TheVariants.{BadWorkings, LineTooLong}
use Rattle.syntax.specs.declared.Fault.{Fault}
use Rattle.mode_rules.specs.Checking.{checked_sheet, checked_goal}
use Rattle.machine.specs.Substitution.{copied, Binding}
use Rattle.machine.specs.Unification.{unify}
use Rattle.machine.specs.Machine.{Pending, pending, clause_at}
use Rattle.machine.specs.Answers.{line}
pub use Rattle.derivations.specs.declared.Choice.{Choice}
pub use Rattle.derivations.specs.declared.Choice.TheVariants.{Numbered, Left, Right}

-- ---- records

-- the records of some workings; behind one that is malformed none is looked for
pub data Records : Type 0 where
  no_more : Records
  malformed : Records
  next : Choice → Records → Records

-- "the byte of kind first, of kind 1 with a two-byte clause number, low byte first, kinds 2 and 3 without body": how many bytes stand behind the kind
abbrev pub body_bytes : Choice → ℕ
body_bytes (Numbered n) = 2
body_bytes Left = 0
body_bytes Right = 0

abbrev pub record_bytes : Choice → ℕ
record_bytes m = suc (body_bytes m)

-- behind a kind 1; none where its body is cut short
unfoldable pub numbered_of : List ℕ → Option Choice
numbered_of s = cond (leb 2 (length s)) (some (Numbered (get_or s 0 0 + 256 * get_or s 1 0))) none

-- a kind, and the bytes behind it
unfoldable pub choice_of : ℕ → List ℕ → Option Choice
choice_of kind s = cond (eqb kind 1) (numbered_of s) (cond (eqb kind 2) (some Left) (cond (eqb kind 3) (some Right) none))

-- some bytes, of which the first so many are left of a record's body
unfoldable pub records_from : ℕ → List ℕ → Records
records_from zero [] = no_more
records_from zero (kind ∷ s) = elim (choice_of kind s) [ none ↦ malformed | some m ↦ next m (records_from (body_bytes m) s) ]
records_from (suc k) [] = no_more
records_from (suc k) (b ∷ s) = records_from k s

unfoldable pub records_of : List ℕ → Records
records_of s = records_from 0 s

-- ---- where leftmost resolution stands

-- "once all before the next call or bracket has gone through": it has not, and nothing comes of it; no literal is left, under these bindings; or it
-- stands at a call, or at a bracket, of a copy, before other literals, with a path and bindings
pub data Resolvent : Type 0 where
  failed : Resolvent
  solved : List Binding → Resolvent
  at_call : ℕ → List Binding → ℕ → Atom → List Pending → Resolvent
  at_bracket : ℕ → List Binding → ℕ → Body → Body → List Pending → Resolvent

-- "equations unify"
unfoldable pub unified : Option (List Binding) → (List Binding → Resolvent) → Resolvent
unified none on = failed
unified (some b) on = on b

-- a literal of copy c before others, and how those go on; "no `fail` is met"
unfoldable pub met : ℕ → List Binding → ℕ → Literal → List Pending → (List Binding → Resolvent) → Resolvent
met k b c (call a) rest on = at_call k b c a rest
met k b c (equation t u) rest on = unified (unify b (copied c t) (copied c u)) on
met k b c truth rest on = on b
met k b c falsity rest on = failed
met k b c (either y z) rest on = at_bracket k b c y z rest

-- literals left, under bindings, at a path
unfoldable pub settled : ℕ → List Binding → List Pending → Resolvent
settled k b [] = solved b
settled k b (p ∷ rest) = met k b p.copy p.literal rest (λ b1. settled k b1 rest)

-- "its head unifies": the clause is tried as the machine tries it, with the variables of the copy one past the path; none where no clause has that number
unfoldable pub taken : ℕ → List Binding → ℕ → Atom → List Pending → Option Clause → Resolvent
taken k b c a rest none = failed
taken k b c a rest (some cl) =
    unified (unify b (copied c (term_of a)) (copied (suc k) (term_of cl.head))) (λ b1. settled (suc k) b1 (pending (suc k) cl.body rest))

-- What a record leads to; failed where it does not fit. "path 255 is not passed": at path 255 no clause is taken. A clause of another predicate is one
-- whose head does not unify.
unfoldable pub led : Sheet → Choice → Resolvent → Resolvent
led sh m failed = failed
led sh m (solved b) = failed
led sh (Numbered n) (at_call k b c a rest) = cond (ltb k longest_path) (taken k b c a rest (clause_at sh n)) failed
led sh Left (at_call k b c a rest) = failed
led sh Right (at_call k b c a rest) = failed
led sh (Numbered n) (at_bracket k b c y z rest) = failed
led sh Left (at_bracket k b c y z rest) = settled k b (pending c y rest)
led sh Right (at_bracket k b c y z rest) = settled k b (pending c z rest)

-- ---- the replay

-- "goal and records are used up together", with these bindings; or how many bytes the records that were used up have
pub data Replayed : Type 0 where
  answered : List Binding → Replayed
  stopped : ℕ → Replayed

-- behind so many bytes
unfoldable pub behind : ℕ → Replayed → Replayed
behind n (answered b) = answered b
behind n (stopped i) = stopped (n + i)

-- A record of so many bytes, and what it leads to. "A record is used up once all before the next call or bracket has gone through."
unfoldable pub used : ℕ → Resolvent → Replayed → Replayed
used n failed on = stopped 0
used n (solved b) on = behind n on
used n (at_call k b c a rest) on = behind n on
used n (at_bracket k b c y z rest) on = behind n on

-- no record is left
unfoldable pub finished : Resolvent → Replayed
finished failed = stopped 0
finished (solved b) = answered b
finished (at_call k b c a rest) = stopped 0
finished (at_bracket k b c y z rest) = stopped 0

-- The records gone through. Where they stop is "the start of the first record malformed or not used up (0 if the goal breaks before any record), or the
-- length if records run out": in each case the bytes of the records used up.
unfoldable pub replay : Sheet → Records → Resolvent → Replayed
replay sh no_more s = finished s
replay sh malformed s = stopped 0
replay sh (next m rs) s = used (record_bytes m) (led sh m s) (replay sh rs (led sh m s))

-- the goal alone, path 0
unfoldable pub begun : Goal → Resolvent
begun g = settled 0 [] (pending 0 g.body [])

-- ---- over texts

-- "The result is the answer line with its line feed"; or a refusal, with the text at fault
pub data WorkingsOutcome : Type 0 where
  rejected : Text → Refusal → WorkingsOutcome
  told : List ℕ → WorkingsOutcome

-- "18, the line exceeds the buffer"; "text at fault … for 18 neither"
unfoldable pub fitting : ℕ → List ℕ → WorkingsOutcome
fitting room l = cond (leb (length l) room) (told l) (rejected Neither LineTooLong)

-- "17, workings not accepted"; "text at fault for 17 `workings`"
unfoldable pub over_replay : Goal → ℕ → Replayed → WorkingsOutcome
over_replay g room (answered b) = fitting room (line g b)
over_replay g room (stopped i) = rejected in_workings (BadWorkings i)

-- "both after the goal's refusals"
unfoldable pub over_goal : List ℕ → ℕ → Sheet → Outcome Goal → WorkingsOutcome
over_goal workings room sh (refused r) = rejected in_goal r
over_goal workings room sh (accepted g) = over_replay g room (replay sh (records_of workings) (begun g))

unfoldable pub over_sheet : List ℕ → List ℕ → ℕ → Outcome Sheet → WorkingsOutcome
over_sheet goal workings room (refused r) = rejected in_sheet r
over_sheet goal workings room (accepted sh) = over_goal workings room sh (checked_goal sh goal)

-- "from an accepted goal over an accepted sheet without a trace": sheet, goal, workings, room for the line
unfoldable pub workings_outcome : List ℕ → List ℕ → List ℕ → ℕ → WorkingsOutcome
workings_outcome sheet goal workings room = over_sheet goal workings room (checked_sheet sheet)

-- what a check of workings gives back, the line's length or the fault
unfoldable pub workings_answer : WorkingsOutcome → Result ℕ Fault
workings_answer (rejected text refusal) = Refused text refusal
workings_answer (told l) = Ok (length l)

-- and what it writes: "nothing written" on a refusal
unfoldable pub workings_text : WorkingsOutcome → List ℕ
workings_text (rejected text refusal) = []
workings_text (told l) = l
