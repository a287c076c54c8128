-- Computed cases of workings checked, from the texts to the answer. The expected ones were written by hand from REQUESTS (xi).
use Prim.Native.Nat.{ℕ, zero, suc}
use Prim.Native.String.{String}
use mathlib.Core.Path.{◌≡◌, refl}
use mathlib.Core.List.{List, [], ◌∷◌, map}
use Rattle.syntax.specs.Quote.{bytes}
use Rattle.syntax.specs.declared.Text.TheVariants.{Sheet as in_sheet, Goal as in_goal, Workings as in_workings, Neither}
use Rattle.syntax.specs.declared.Refusal.TheVariants.{Undeclared, OpenInput, Unwritten, BadWorkings, LineTooLong}
use Rattle.machine.proofs.Compute.{computed}
use Rattle.derivations.specs.Workings.{numbered_of, choice_of, records_from, records_of, unified, met, settled, taken, led, behind, used, finished, replay, begun, WorkingsOutcome, rejected, told, fitting, over_replay, over_goal, over_sheet, workings_outcome}

unfoldable pub computed_workings : List ℕ → List ℕ → List ℕ → ℕ → WorkingsOutcome
unfolding computed numbered_of choice_of records_from records_of unified met settled taken led behind used finished replay begun fitting over_replay over_goal over_sheet workings_outcome
computed_workings sheet goal workings room = workings_outcome sheet goal workings room

pub record Case : Type 0 where
  pub sheet : List ℕ
  pub goal : List ℕ
  pub workings : List ℕ
  pub room : ℕ
  pub expected : WorkingsOutcome

abbrev case : ℕ → String → String → List ℕ → WorkingsOutcome → Case
case room sheet goal workings expected =
    record { sheet = bytes sheet; goal = bytes goal; workings = workings; room = room; expected = expected }

-- so many records of kind 1 with clause 1, before others
unfoldable ones : ℕ → List ℕ → List ℕ
ones zero rest = rest
ones (suc n) rest = 1 ∷ 1 ∷ 0 ∷ ones n rest

abbrev line_is : String → WorkingsOutcome
line_is s = told (bytes s)

abbrev not_accepted : ℕ → WorkingsOutcome
not_accepted i = rejected in_workings (BadWorkings i)

abbrev too_long : WorkingsOutcome
too_long = rejected Neither LineTooLong

abbrev cases : List Case
cases =
    -- sides and clauses, in the order leftmost resolution meets them
    case 99 ":-mode p(*). p(a). p(b)." "(p(X);X=c), X = Y." (2 ∷ 1 ∷ 2 ∷ 0 ∷ []) (line_is "X = b, Y = b\n") ∷
    case 99 ":-mode p(*). p(a). p(b)." "(p(X);X=c), X = Y." (3 ∷ []) (line_is "X = c, Y = c\n") ∷
    case 99 ":-mode p(*). p(a). p(b)." "(p(X);X=c), X = Y." (3 ∷ 1 ∷ 2 ∷ 0 ∷ []) (not_accepted 1) ∷
    case 99 ":-mode p(*). p(a). p(b)." "(p(X);X=c), X = Y." (1 ∷ 2 ∷ 0 ∷ []) (not_accepted 0) ∷
    case 99 ":-mode p(*). p(a). p(b)." "(p(X);X=c), X = Y." (2 ∷ 2 ∷ []) (not_accepted 1) ∷
    case 99 ":-mode p(*). p(a). p(b)." "(p(X);X=c), X = Y." (2 ∷ []) (not_accepted 1) ∷
    case 99 ":-mode p(*). p(a). p(b)." "(p(X);X=c), X = Y." [] (not_accepted 0) ∷
    -- the number is the sheet's: from 1, of all predicates; 0, one past the last, and a clause of another predicate do not unify; the high byte counts
    case 99 ":-mode p(*). :-mode q. q. p(a)." "p(X)." (1 ∷ 2 ∷ 0 ∷ []) (line_is "X = a\n") ∷
    case 99 ":-mode p(*). :-mode q. q. p(a)." "p(X)." (1 ∷ 1 ∷ 0 ∷ []) (not_accepted 0) ∷
    case 99 ":-mode p(*). :-mode q. q. p(a)." "p(X)." (1 ∷ 0 ∷ 0 ∷ []) (not_accepted 0) ∷
    case 99 ":-mode p(*). :-mode q. q. p(a)." "p(X)." (1 ∷ 3 ∷ 0 ∷ []) (not_accepted 0) ∷
    case 99 ":-mode p(*). :-mode q. q. p(a)." "p(X)." (1 ∷ 2 ∷ 1 ∷ []) (not_accepted 0) ∷
    case 99 ":-mode p(*). :-mode p(*,*). p(a,b). p(a)." "p(X)." (1 ∷ 1 ∷ 0 ∷ []) (not_accepted 0) ∷
    -- a record is used up once all before the next call or bracket has gone through
    case 99 ":-mode p(*). p(a)." "p(X), p(Y), X = b." (1 ∷ 1 ∷ 0 ∷ 1 ∷ 1 ∷ 0 ∷ []) (not_accepted 3) ∷
    case 99 ":-mode p(*). p(a)." "p(X), X = b, p(Y)." (1 ∷ 1 ∷ 0 ∷ 1 ∷ 1 ∷ 0 ∷ []) (not_accepted 0) ∷
    case 99 ":-mode p(*). p(a)." "a = b, p(X)." (9 ∷ 9 ∷ []) (not_accepted 0) ∷
    case 99 ":-mode p(*). p(a)." "p(X), fail." (1 ∷ 1 ∷ 0 ∷ []) (not_accepted 0) ∷
    case 99 ":-mode p(*). p(a)." "p(X), fail, p(Y)." (1 ∷ 1 ∷ 0 ∷ 9 ∷ []) (not_accepted 0) ∷
    case 99 "" "(true;fail)." (3 ∷ []) (not_accepted 0) ∷
    case 99 "" "(true;fail)." (2 ∷ []) (line_is "yes\n") ∷
    -- run out: the length; over: the first of them, malformed or not; cut short: its start
    case 99 ":-mode p(*). p(a)." "p(X), p(Y)." (1 ∷ 1 ∷ 0 ∷ []) (not_accepted 3) ∷
    case 99 ":-mode p(*). p(a)." "p(X)." (1 ∷ 1 ∷ 0 ∷ 9 ∷ []) (not_accepted 3) ∷
    case 99 ":-mode p(*). p(a)." "p(X)." (1 ∷ 1 ∷ 0 ∷ 2 ∷ 9 ∷ []) (not_accepted 3) ∷
    case 99 ":-mode p(*). p(a)." "p(X)." (1 ∷ 1 ∷ []) (not_accepted 0) ∷
    case 99 ":-mode p(*). p(a)." "p(X)." (1 ∷ []) (not_accepted 0) ∷
    case 99 ":-mode p(*). p(a)." "p(X), p(Y)." (1 ∷ 1 ∷ 0 ∷ 1 ∷ 1 ∷ []) (not_accepted 3) ∷
    case 99 ":-mode p(*). p(a)." "p(X)." (0 ∷ []) (not_accepted 0) ∷
    case 99 ":-mode p(*). p(a)." "p(X)." (4 ∷ []) (not_accepted 0) ∷
    -- no records
    case 99 "" "true." [] (line_is "yes\n") ∷
    case 99 "" "fail." [] (not_accepted 0) ∷
    case 99 "" "true." (9 ∷ []) (not_accepted 0) ∷
    -- 18: the line with its line feed
    case 4 "" "true." [] (line_is "yes\n") ∷
    case 3 "" "true." [] too_long ∷
    case 3 "" "true." (2 ∷ []) (not_accepted 0) ∷
    -- path 255 is not passed: 255 records of kind 1 are good, and the 256th is not
    case 99 ":-mode l. l:-l. l." "l." (ones 254 (1 ∷ 2 ∷ 0 ∷ [])) (line_is "yes\n") ∷
    case 99 ":-mode l. l:-l. l." "l." (ones 255 (1 ∷ 2 ∷ 0 ∷ [])) (not_accepted 765) ∷
    case 99 ":-mode l. l:-l. l." "l." (ones 255 (2 ∷ [])) (not_accepted 765) ∷
    case 99 ":-mode l. l:-l. l." "l." (ones 255 []) (not_accepted 765) ∷
    -- a bracket does not lengthen the path
    case 99 ":-mode l. l:-(l;true)." "l." (1 ∷ 1 ∷ 0 ∷ 2 ∷ 1 ∷ 1 ∷ 0 ∷ 3 ∷ []) (line_is "yes\n") ∷
    -- the sheet's refusals first (16 too, there is no mark), then the goal's, then 17
    case 99 ":-mode p." "p" (9 ∷ []) (rejected in_sheet (Unwritten 7)) ∷
    case 99 "" "p." (9 ∷ []) (rejected in_goal (Undeclared 0 1 0 1)) ∷
    case 99 ":-mode p(+). p(a)." "p(X)." (9 ∷ []) (rejected in_goal (OpenInput 2 0 1 1 0 1)) ∷
    []

all-cases : map (λ (c : Case). computed_workings c.sheet c.goal c.workings c.room) cases ≡ map (λ (c : Case). c.expected) cases
unfolding computed_workings ones
all-cases = refl
