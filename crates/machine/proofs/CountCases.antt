-- Both counts on short texts, most of which the modes refuse: the zero counts are not vacuous. The numbers were given by the separately written engine.
use Prim.Native.Nat.{ℕ}
use mathlib.Core.Bool.{true, false}
use Prim.Native.String.{String}
use mathlib.Core.Path.{◌≡◌, refl}
use mathlib.Core.List.{List, [], ◌∷◌, map}
use mathlib.Core.Option.{some}
use Rattle.syntax.specs.Quote.{bytes}
use Rattle.syntax.specs.Terms.{nil}
use Rattle.machine.specs.Machine.{Call}
use Rattle.machine.specs.Counts.{is_within}
use Rattle.machine.proofs.Compute.{Counted, counted}

-- a sheet, a goal, steps, and the open inputs and open outputs after so many
pub record Case : Type 0 where
  pub sheet : List ℕ
  pub goal : List ℕ
  pub steps : ℕ
  pub expected : Counted

abbrev counting : String → String → ℕ → ℕ → ℕ → Case
counting sheet goal n inputs outputs =
    record { sheet = bytes sheet; goal = bytes goal; steps = n; expected = some (record { inputs = inputs; outputs = outputs }) }

abbrev cases : List Case
cases =
    -- the `true` case of RULES: no output is open before the call, and one after it
    counting ":- mode p(-). p(X) :- true." "p(X)." 0 0 0 ∷
    counting ":- mode p(-). p(X) :- true." "p(X)." 1 0 0 ∷
    counting ":- mode p(-). p(X) :- true." "p(X)." 2 0 1 ∷
    counting ":- mode p(-). p(X) :- true." "p(X)." 9 0 1 ∷
    -- an open input, taken up at each of its steps: two clauses, and the step that finds none
    counting ":-mode p(+). p(a). p(b)." "p(X)." 0 0 0 ∷
    counting ":-mode p(+). p(a). p(b)." "p(X)." 1 1 0 ∷
    counting ":-mode p(+). p(a). p(b)." "p(X)." 5 3 0 ∷
    counting ":- mode next(+,-). :- mode ends(+,-). next(off,rinse). ends(S,T) :- next(U,T)." "ends(a,T)." 9 2 0 ∷
    -- a step that shows two successes, and one that shows three
    counting ":-mode p(-). :-mode q(-). p(X) :- q(X). q(Y)." "p(Z)." 1 0 0 ∷
    counting ":-mode p(-). :-mode q(-). p(X) :- q(X). q(Y)." "p(Z)." 2 0 2 ∷
    counting ":-mode p(-). :-mode q(-). p(X) :- q(X). q(Y)." "p(Z)." 9 0 2 ∷
    counting ":-mode p(-). :-mode q(-). :-mode r(-). p(X) :- q(X). q(X) :- r(X). r(Y)." "p(Z)." 2 0 0 ∷
    counting ":-mode p(-). :-mode q(-). :-mode r(-). p(X) :- q(X). q(X) :- r(X). r(Y)." "p(Z)." 3 0 3 ∷
    -- a call succeeds only when nothing of it is left, at whatever depth
    counting ":-mode p(-). :-mode q(-). p(X) :- q(X), Y = b. q(Y)." "p(Z)." 2 0 1 ∷
    counting ":-mode p(-). :-mode q(-). p(X) :- q(X), Y = b. q(Y)." "p(Z)." 3 0 2 ∷
    counting ":-mode p(-). :-mode q(-). p(X) :- q(Y), X = Y. q(Y)." "p(Z), Z = a." 9 0 2 ∷
    counting ":-mode p(-). :-mode q(-). p(X) :- q(X). q(X) :- true, X = a." "p(Z)." 9 0 0 ∷
    -- an alternative that went makes no call succeed; a branch given up is counted over
    counting ":-mode p(-). p(X) :- fail." "p(X)." 9 0 0 ∷
    counting ":-mode p(-). p(X) :- true, a = b." "p(X)." 9 0 0 ∷
    counting ":-mode p(-). p(X). p(Y)." "p(X), fail." 9 0 2 ∷
    counting ":-mode p(-). p(f(X,a)) :- b = b. p(c)." "p(Z)." 3 0 1 ∷
    -- REQUESTS (i): both sides of a bracket are counted over; the bracket's own step shows nothing
    counting ":-mode p(-). p(X) :- (true; X = a)." "p(Z)." 2 0 0 ∷
    counting ":-mode p(-). p(X) :- (true; X = a)." "p(Z)." 3 0 1 ∷
    counting ":-mode p(-). p(X) :- (true; X = a)." "p(Z)." 9 0 1 ∷
    counting ":-mode p(-). p(X) :- (X = a; true)." "p(Z)." 4 0 0 ∷
    counting ":-mode p(-). p(X) :- (X = a; true)." "p(Z)." 5 0 1 ∷
    counting ":-mode p(+). p(a)." "(X = a; true), p(X)." 6 0 0 ∷
    counting ":-mode p(+). p(a)." "(X = a; true), p(X)." 12 2 0 ∷
    -- arguments marked * are not counted; one argument counts once
    counting ":-mode p(*,-,+). p(X,f(Y,Y),Z)." "p(A,B,g(C,C))." 9 2 1 ∷
    []

all-cases : map (λ (c : Case). counted c.sheet c.goal c.steps) cases ≡ map (λ (c : Case). c.expected) cases
unfolding counted
all-cases = refl

-- ---- the example at `is_within`: copy 1 was made for a call of copy 0, copy 2 for one of copy 1, copy 3 for one of copy 0

abbrev call_of : ℕ → Call
call_of c = record { copy = c; atom = record { at = 0; name = []; args = nil } }

abbrev calls : List Call
calls = call_of 0 ∷ call_of 1 ∷ call_of 0 ∷ []

within-example : (is_within calls 1 2 ≡ true) × (is_within calls 1 3 ≡ false)
unfolding is_within
within-example = (refl, refl)
