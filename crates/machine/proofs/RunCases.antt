-- Computed cases, from the texts to the report and the answer text. The expected ones were given by the separately written engine.
use Prim.Native.Nat.{ℕ}
use Prim.Native.String.{String}
use mathlib.Core.Path.{◌≡◌, refl}
use mathlib.Core.Bool.{Bool, true, false}
use mathlib.Core.List.{List, [], ◌∷◌, map}
use Rattle.syntax.specs.Quote.{bytes}
use Rattle.syntax.specs.declared.Text.TheVariants.{Sheet as in_sheet, Goal as in_goal, Neither}
use Rattle.syntax.specs.declared.Refusal.TheVariants.{Settings, Misplaced, Undeclared, OpenInput, OpenOutput, Unwritten}
use Rattle.machine.specs.Runs.{RunEnd, Wanted, Done, Steps, Full, Deep, RunSettings, RunOutcome, ran, stopped}
use Rattle.machine.proofs.Compute.{computed}

pub record Case : Type 0 where
  pub sheet : List ℕ
  pub goal : List ℕ
  pub asked : RunSettings
  pub room : ℕ
  pub expected : RunOutcome

abbrev ended : RunEnd → ℕ → ℕ → String → RunOutcome
ended k answers steps text = ran (record { kind = k; answers = answers; steps = steps }) (bytes text)

-- the mark of a sheet stored earlier, allowance, wanted answers, room, sheet, goal
abbrev with_mark : Bool → ℕ → ℕ → ℕ → String → String → RunOutcome → Case
with_mark stored allowance wanted room sheet goal expected =
    record { sheet = bytes sheet; goal = bytes goal; asked = record { allowance = allowance; wanted = wanted; stored = stored }; room = room; expected = expected }

abbrev within : ℕ → ℕ → ℕ → String → String → RunOutcome → Case
within allowance wanted room sheet goal expected = with_mark false allowance wanted room sheet goal expected

-- with the runner's settings
abbrev runner : String → String → RunOutcome → Case
runner sheet goal expected = within 65536 16 4096 sheet goal expected

-- the same with an allowance that is enough for a short run
abbrev short : String → String → RunOutcome → Case
short sheet goal expected = within 300 16 4096 sheet goal expected

-- and with the mark
abbrev stored : String → String → RunOutcome → Case
stored sheet goal expected = with_mark true 300 16 4096 sheet goal expected

abbrev cases : List Case
cases =
    -- the example of RULES, and its two starred goals
    runner ":- mode plus(+,+,-).\nplus(z,N,N).\nplus(s(M),N,s(P)) :- plus(M,N,P).\n" "plus(s(z),z,X).\n" (ended Done 1 7 "X = s(z)\n") ∷
    runner "" "X = f(X)." (ended Done 0 1 "") ∷
    runner "" "true." (ended Done 1 2 "yes\n") ∷
    -- running examples: clauses of other predicates, deep, steps, full, wanted, untouched variables, no goal
    runner ":-mode p(*). :-mode q(*). q(c). p(a). q(d). p(b)." "p(b)." (ended Done 1 4 "yes\n") ∷
    runner ":-mode l. l :- l." "l." (ended Deep 0 255 "") ∷
    within 1 1 0 "" "true." (ended Steps 0 1 "") ∷
    within 2 1 3 "" "true." (ended Full 0 1 "") ∷
    within 2 1 4 "" "true." (ended Done 1 2 "yes\n") ∷
    runner "" "A = f(B,C), C = D." (ended Done 1 3 "A = f(_1,_2), B = _1, C = _2, D = _2\n") ∷
    runner "" "" (stopped in_goal (Misplaced 0)) ∷
    -- `fail`, alone and behind `true`; a clash; a head that does not unify
    short "" "fail." (ended Done 0 1 "") ∷
    short "" "true, fail, true." (ended Done 0 2 "") ∷
    short "" "a = b." (ended Done 0 1 "") ∷
    short ":-mode p(+). p(a)." "p(b)." (ended Done 0 2 "") ∷
    -- bindings of an alternative that went are not kept; clauses from the top; an equation in a body
    short ":-mode p(*). p(X) :- X = a, fail. p(b)." "p(X)." (ended Done 1 6 "X = b\n") ∷
    short ":-mode p(-). p(a). p(b). p(c)." "p(X)." (ended Done 3 7 "X = a\nX = b\nX = c\n") ∷
    short ":-mode p(-). p(a). p(b). p(c)." "p(X), X = b." (ended Done 1 8 "X = b\n") ∷
    short ":-mode p(-,-). :-mode q(-). q(a). q(b). p(X,Y) :- q(X), q(Y)." "p(X,Y)." (ended Done 4 15 "X = a, Y = a\nX = a, Y = b\nX = b, Y = a\nX = b, Y = b\n") ∷
    short ":-mode p(-). p(X) :- Y = a, X = f(Y)." "p(Z)." (ended Done 1 5 "Z = f(a)\n") ∷
    -- occurs check through a second equation, and under a head; names, numerals and numbers of arguments that clash
    short "" "f(X,Y) = f(Y,g(X))." (ended Done 0 1 "") ∷
    short ":-mode p(*,*). p(X,f(X))." "p(Y,Y)." (ended Done 0 2 "") ∷
    -- REQUESTS (iii): numerals without leading zeros; names are not touched
    short "" "01 = 1." (ended Done 1 2 "yes\n") ∷
    short ":-mode p(*). p(007). p(00)." "p(7), p(X)." (ended Done 2 8 "X = 7\nX = 0\n") ∷
    short "" "X=f(000,a01,b007)." (ended Done 1 2 "X = f(0,a01,b007)\n") ∷
    short "" "a01=a1." (ended Done 0 1 "") ∷
    short "" "10 = 1." (ended Done 0 1 "") ∷
    short "" "f(a) = f(a,b)." (ended Done 0 1 "") ∷
    short "" "f(1) = f(X)." (ended Done 1 2 "X = 1\n") ∷
    -- a head's variable met twice; a goal's variable bound by a later literal; both sides variables
    short ":-mode p(*,*). p(X,X)." "p(f(A),B), A = c." (ended Done 1 4 "A = c, B = f(c)\n") ∷
    short "" "X = Y, Y = Z, Z = a." (ended Done 1 4 "X = a, Y = a, Z = a\n") ∷
    short "" "X = Y, Z = Y." (ended Done 1 3 "X = _1, Y = _1, Z = _1\n") ∷
    -- the answer line: `_` is left out, `_1` and `__` are not, numbers of two digits, `yes`
    short "" "f(_,X) = f(Y,_)." (ended Done 1 2 "X = _1, Y = _2\n") ∷
    short "" "_1 = f(__,_)." (ended Done 1 2 "_1 = f(_1,_2), __ = _1\n") ∷
    short "" "f(A,B,C,D,E,F) = X, f(G,H,I,J) = Y." (ended Done 1 3 "A = _1, B = _2, C = _3, D = _4, E = _5, F = _6, X = f(_1,_2,_3,_4,_5,_6), G = _7, H = _8, I = _9, J = _10, Y = f(_7,_8,_9,_10)\n") ∷
    short "" "_ = a." (ended Done 1 2 "yes\n") ∷
    short "" "X=f(Y,g(Y,Z),h)." (ended Done 1 2 "X = f(_1,g(_1,_2),h), Y = _1, Z = _2\n") ∷
    -- REQUESTS (i): the left side and then the right one, with the bindings from before the bracket; one step for a bracket; nested, in a body
    short "" "(X=a;X=b),(Y=c;Y=X)." (ended Done 4 13 "X = a, Y = c\nX = a, Y = a\nX = b, Y = c\nX = b, Y = b\n") ∷
    short "" "((X=a;X=b);X=c)." (ended Done 3 8 "X = a\nX = b\nX = c\n") ∷
    short "" "(X=a;Y=b), Z = f(X,Y)." (ended Done 2 7 "X = a, Y = _1, Z = f(a,_1)\nX = _1, Y = b, Z = f(_1,b)\n") ∷
    short "" "(X=a, fail; X=b)." (ended Done 1 5 "X = b\n") ∷
    short ":-mode p(-). p(X) :- (X = a; X = b)." "p(X)." (ended Done 2 7 "X = a\nX = b\n") ∷
    within 3 16 4096 "" "(true;true)." (ended Steps 1 3 "yes\n") ∷
    -- it leaves the path as it was, and is no `deep` at the longest
    runner ":-mode l. l:-(l;true)." "l." (ended Deep 0 510 "") ∷
    runner ":-mode l. l:-(fail;l)." "l." (ended Deep 0 765 "") ∷
    -- the ends at their edges: steps, wanted, full, deep, and which comes first
    within 6 16 4096 ":- mode plus(+,+,-). plus(z,N,N). plus(s(M),N,s(P)) :- plus(M,N,P)." "plus(s(z),z,X)." (ended Steps 1 6 "X = s(z)\n") ∷
    within 7 16 4096 ":- mode plus(+,+,-). plus(z,N,N). plus(s(M),N,s(P)) :- plus(M,N,P)." "plus(s(z),z,X)." (ended Done 1 7 "X = s(z)\n") ∷
    within 7 1 4096 ":- mode plus(+,+,-). plus(z,N,N). plus(s(M),N,s(P)) :- plus(M,N,P)." "plus(s(z),z,X)." (ended Wanted 1 4 "X = s(z)\n") ∷
    within 4 1 9 ":- mode plus(+,+,-). plus(z,N,N). plus(s(M),N,s(P)) :- plus(M,N,P)." "plus(s(z),z,X)." (ended Wanted 1 4 "X = s(z)\n") ∷
    within 300 1 8 ":- mode plus(+,+,-). plus(z,N,N). plus(s(M),N,s(P)) :- plus(M,N,P)." "plus(s(z),z,X)." (ended Full 0 3 "") ∷
    within 300 2 4096 ":-mode p(-). p(a). p(b). p(c)." "p(X)." (ended Wanted 2 4 "X = a\nX = b\n") ∷
    within 300 64 12 ":-mode p(-). p(a). p(b). p(c)." "p(X)." (ended Full 2 5 "X = a\nX = b\n") ∷
    within 300 64 11 ":-mode p(-). p(a). p(b). p(c)." "p(X)." (ended Full 1 3 "X = a\n") ∷
    within 300 64 6 ":-mode p(-). p(aa). p(b)." "p(X)." (ended Full 0 1 "") ∷
    within 255 1 0 ":-mode l. l :- l." "l." (ended Steps 0 255 "") ∷
    within 256 1 0 ":-mode l. l :- l." "l." (ended Deep 0 255 "") ∷
    -- the wanted count reached: nothing left, a call without a further clause left, a further clause left; an allowance just enough and one
    -- short, room just enough and one short
    within 9 1 4 "" "true." (ended Done 1 2 "yes\n") ∷
    within 9 2 12 ":-mode p(-). p(a). p(b)." "p(X)." (ended Wanted 2 4 "X = a\nX = b\n") ∷
    within 9 1 99 ":-mode p(-). p(a)." "p(X)." (ended Wanted 1 2 "X = a\n") ∷
    within 2 1 6 ":-mode p(-). p(a)." "p(X)." (ended Wanted 1 2 "X = a\n") ∷
    within 1 1 6 ":-mode p(-). p(a)." "p(X)." (ended Steps 0 1 "") ∷
    within 9 1 5 ":-mode p(-). p(a)." "p(X)." (ended Full 0 1 "") ∷
    within 9 1 6 ":-mode p(-). p(a). p(b)." "p(X)." (ended Wanted 1 2 "X = a\n") ∷
    within 2 1 6 "" "X = a." (ended Done 1 2 "X = a\n") ∷
    within 1 1 6 "" "X = a." (ended Steps 0 1 "") ∷
    within 2 1 5 "" "X = a." (ended Full 0 1 "") ∷
    -- refusals of a run: settings, then the sheet, then the goal
    within 0 1 0 "p" "" (stopped Neither Settings) ∷
    within 65537 1 0 "p" "" (stopped Neither Settings) ∷
    within 1 0 0 "p" "" (stopped Neither Settings) ∷
    within 1 65 0 "p" "" (stopped Neither Settings) ∷
    within 65536 64 0 "p" "" (stopped in_sheet (Misplaced 1)) ∷
    short ":-mode p(-). p(X) :- true." "p" (stopped in_sheet (OpenOutput 15 1 1 13 1)) ∷
    short "" "p(X)." (stopped in_goal (Undeclared 0 1 0 1)) ∷
    short ":-mode p(+). p(a)." "p(X)." (stopped in_goal (OpenInput 2 0 1 1 0 1)) ∷
    short ":-mode p(+). p(a)." "(X = a; true), p(X)." (stopped in_goal (OpenInput 17 0 3 1 15 1)) ∷
    -- REQUESTS (x): a declared predicate without clauses is refused, before the goal is looked at, and called with the mark; `seen` with three
    -- arguments is called without it; the mark passes over nothing else
    short ":-mode p." "p" (stopped in_sheet (Unwritten 7)) ∷
    short ":-mode p. :-mode q. p." "q." (stopped in_sheet (Unwritten 17)) ∷
    stored ":-mode p." "p." (ended Done 0 1 "") ∷
    stored ":-mode p. :-mode q(+,-). p :- q(a,X). p." "p." (ended Done 1 5 "yes\n") ∷
    short ":-mode seen(*,*,*)." "seen(X,Y,Z)." (ended Done 0 1 "") ∷
    stored ":-mode p. :-mode q(-). q(X)." "p." (stopped in_sheet (OpenOutput 25 1 1 23 1)) ∷
    stored ":-mode p." "q." (stopped in_goal (Undeclared 0 1 0 1)) ∷
    with_mark true 0 1 0 ":-mode p." "p." (stopped Neither Settings) ∷
    -- traps of the modes: a call's outputs give nothing to its own inputs, * arguments of a head give nothing, and after `fail` all is ground
    short ":-mode p(+,-). p(a,a)." "p(X,X)." (stopped in_goal (OpenInput 2 0 1 1 0 1)) ∷
    short ":-mode p(*,-). p(X,X)." "p(a,Y)." (stopped in_sheet (OpenOutput 19 1 2 15 1)) ∷
    short ":-mode p(-). p(X) :- fail." "p(X)." (ended Done 0 3 "") ∷
    []

all-cases : map (λ (c : Case). computed c.sheet c.goal c.asked c.room) cases ≡ map (λ (c : Case). c.expected) cases
unfolding computed
all-cases = refl
