-- Computed cases of runs with a trace, from the texts to the report and the answer text; and facts as they are written are read as the clauses that they
-- are. The expected ones were written by hand from REQUESTS (ix).
use Prim.Native.Nat.{ℕ, zero, suc}
use Prim.Native.String.{String}
use mathlib.Core.Path.{◌≡◌, refl}
use mathlib.Core.Bool.{false}
use mathlib.Core.List.{List, [], ◌∷◌, ◌++◌, map}
use lib.ListN.{length}
use Rattle.syntax.specs.Quote.{bytes}
use Rattle.syntax.specs.Terms.{Sheet}
use Rattle.syntax.specs.Verdicts.{Outcome, refused, accepted, sheet_of}
use Rattle.syntax.specs.declared.Text.TheVariants.{Sheet as in_sheet, Goal as in_goal, Trace as in_trace, Neither}
use Rattle.syntax.specs.declared.Refusal.TheVariants.{Settings, NoToken, Misplaced, OpenInput, Unwritten, BadTrace, TraceOverLimit, SeenUndeclared}
use Rattle.machine.specs.Runs.{Done, RunSettings, RunOutcome, ran, stopped}
use Rattle.machine.specs.Traces.{between, Fact, fact_texts, with_facts}
use Rattle.machine.proofs.Compute.{computed_traced}

pub record Case : Type 0 where
  pub sheet : List ℕ
  pub goal : List ℕ
  pub trace : List ℕ
  pub asked : RunSettings
  pub expected : RunOutcome

abbrev ended : ℕ → ℕ → String → RunOutcome
ended answers steps text = ran (record { kind = Done; answers = answers; steps = steps }) (bytes text)

abbrev within : ℕ → String → String → List ℕ → RunOutcome → Case
within allowance sheet goal trace expected =
    record { sheet = bytes sheet; goal = bytes goal; trace = trace; asked = record { allowance = allowance; wanted = 16; stored = false }; expected = expected }

abbrev traced : String → String → List ℕ → RunOutcome → Case
traced sheet goal trace expected = within 300 sheet goal trace expected

-- the trace of so many records of kind 1, tick 0 and band low, before others
unfoldable pub lows : ℕ → List ℕ → List ℕ
lows zero rest = rest
lows (suc n) rest = 1 ∷ 0 ∷ 0 ∷ 0 ∷ lows n rest

abbrev cases : List Case
cases =
    -- elapsed counts from the first record of either kind; equal ticks are 0 apart; K counts kind 1 alone
    traced ":-mode seen(*,*,*)." "seen(K,E,B)." (2 ∷ 10 ∷ 0 ∷ 1 ∷ 5 ∷ 0 ∷ 0 ∷ 1 ∷ 5 ∷ 0 ∷ 4 ∷ [])
    (ended 2 5 "K = 1, E = 65531, B = low\nK = 2, E = 65531, B = rinse\n") ∷
    -- past 65,535: 65,535 to 0 is 1, 0 to 65,535 is 65,535
    traced ":-mode seen(*,*,*)." "seen(_,E,B)." (1 ∷ 255 ∷ 255 ∷ 1 ∷ 1 ∷ 0 ∷ 0 ∷ 2 ∷ 1 ∷ 255 ∷ 255 ∷ 3 ∷ [])
    (ended 3 7 "E = 0, B = steady\nE = 1, B = high\nE = 65536, B = off\n") ∷
    -- behind the sheet's own clauses, in trace order; numerals as (iii) has them
    traced ":-mode seen(*,*,*). seen(0,0,mine)." "seen(_,_,B)." (1 ∷ 0 ∷ 0 ∷ 3 ∷ []) (ended 2 5 "B = mine\nB = off\n") ∷
    traced ":-mode seen(*,*,*)." "seen(01,E,B)." (1 ∷ 0 ∷ 0 ∷ 3 ∷ []) (ended 1 3 "E = 0, B = off\n") ∷
    traced ":-mode seen(+,-,-)." "seen(2,E,B)." (1 ∷ 0 ∷ 1 ∷ 3 ∷ 1 ∷ 2 ∷ 1 ∷ 0 ∷ []) (ended 1 4 "E = 2, B = low\n") ∷
    traced ":-mode seen(+,+,+)." "seen(K,0,low)." (1 ∷ 0 ∷ 0 ∷ 0 ∷ []) (stopped in_goal (OpenInput 5 0 1 1 0 4)) ∷
    traced ":-mode seen(-,-,-). :-mode p(-). p(B) :- seen(_,_,B), seen(2,_,B)." "p(X)." (1 ∷ 0 ∷ 0 ∷ 0 ∷ 1 ∷ 0 ∷ 0 ∷ 0 ∷ []) (ended 2 13 "X = low\nX = low\n") ∷
    -- no trace, filler alone and kind 2 alone need no `seen`
    traced "" "true." [] (ended 1 2 "yes\n") ∷
    traced "" "true." (0 ∷ 0 ∷ []) (ended 1 2 "yes\n") ∷
    traced "" "true." (2 ∷ 0 ∷ 0 ∷ []) (ended 1 2 "yes\n") ∷
    traced ":-mode seen(*,*,*)." "seen(K,E,B)." (0 ∷ 0 ∷ 0 ∷ []) (ended 0 1 "") ∷
    -- settings, the sheet with 16, then the trace, then the goal
    within 0 "p(" "!" (9 ∷ []) (stopped Neither Settings) ∷
    traced "p(" "!" (9 ∷ []) (stopped in_sheet (Misplaced 2)) ∷
    traced ":-mode p." "!" (9 ∷ []) (stopped in_sheet (Unwritten 7)) ∷
    traced "" "!" (9 ∷ []) (stopped in_trace (BadTrace 0)) ∷
    traced "" "!" (1 ∷ 0 ∷ 0 ∷ 0 ∷ []) (stopped in_trace SeenUndeclared) ∷
    traced ":-mode seen(*,*). seen(a,b)." "!" (1 ∷ 0 ∷ 0 ∷ 0 ∷ []) (stopped in_trace SeenUndeclared) ∷
    traced ":-mode seen(*,*,*)." "!" (1 ∷ 0 ∷ 0 ∷ 0 ∷ []) (stopped in_goal (NoToken 0)) ∷
    -- 13: a record's start, or the byte that is not zero behind filler
    traced "" "true." (0 ∷ 0 ∷ 1 ∷ []) (stopped in_trace (BadTrace 2)) ∷
    traced "" "true." (2 ∷ 0 ∷ 0 ∷ 1 ∷ 0 ∷ 0 ∷ 5 ∷ []) (stopped in_trace (BadTrace 3)) ∷
    traced "" "true." (2 ∷ 0 ∷ 0 ∷ 1 ∷ 0 ∷ 0 ∷ []) (stopped in_trace (BadTrace 3)) ∷
    traced "" "true." (2 ∷ 0 ∷ 0 ∷ 2 ∷ 0 ∷ []) (stopped in_trace (BadTrace 3)) ∷
    traced "" "true." (2 ∷ 0 ∷ 0 ∷ 3 ∷ []) (stopped in_trace (BadTrace 3)) ∷
    traced "" "true." (2 ∷ 0 ∷ 0 ∷ 0 ∷ 2 ∷ 0 ∷ []) (stopped in_trace (BadTrace 4)) ∷
    -- 14 for records behind 13 and before 15
    traced "" "true." (lows 193 (1 ∷ [])) (stopped in_trace (BadTrace 772)) ∷
    traced "" "true." (lows 193 []) (stopped in_trace TraceOverLimit) ∷
    traced "" "true." (lows 192 []) (stopped in_trace SeenUndeclared) ∷
    traced ":-mode seen(*,*,*)." "true." (lows 192 []) (ended 1 2 "yes\n") ∷ []

all-cases : map (λ (c : Case). computed_traced c.sheet c.goal c.trace c.asked 4096) cases ≡ map (λ (c : Case). c.expected) cases
unfolding computed_traced lows
all-cases = refl

-- differences on the circle
circle : map (λ (p : ℕ × ℕ). between p.0 p.1) ((0, 0) ∷ (5, 5) ∷ (0, 65535) ∷ (65535, 0) ∷ (10, 5) ∷ (65535, 65535) ∷ (1, 2) ∷ []) ≡ 0 ∷ 0 ∷ 65535 ∷ 1 ∷ 65531 ∷ 0 ∷ 1 ∷ []
circle = refl

-- Facts as they are written behind a sheet are read as the clauses that they are, at the places that they have.
abbrev facts : List Fact
facts =
    record { number = 1; elapsed = 0; band = 0 } ∷ record { number = 9; elapsed = 65531; band = 1 } ∷ record { number = 10; elapsed = 357821100; band = 2 } ∷
    record { number = 192; elapsed = 10; band = 3 } ∷ record { number = 100; elapsed = 99; band = 4 } ∷ []

abbrev before-facts : List ℕ
before-facts = bytes ":-mode seen(*,*,*).\nseen(X,Y,Z).\n"

unfoldable pub facts_behind : List ℕ → Outcome Sheet → Outcome Sheet
facts_behind s (accepted sh) = accepted (with_facts (length s) sh facts)
facts_behind s (refused r) = refused r

read_back : sheet_of (before-facts ++ fact_texts facts) ≡ facts_behind before-facts (sheet_of before-facts)
unfolding computed_traced fact_texts facts_behind
read_back = refl
