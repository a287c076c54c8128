-- The machine of RULES: alternatives, the pile, and one step (RULES, "The run").
use Rattle.std.specs.Prelude.{ℕ, zero, suc, Bool, true, false, List, [], ◌∷◌, ◌++◌, length, drop}
use Rattle.std.proofs.Math.Option.{Option, none, some}
use Rattle.syntax.specs.Terms.{Atom, term_of, Literal, call, equation, truth, falsity, either, Body, done, also, Clause, Sheet, Goal, arity, same_predicate}
use Rattle.machine.specs.Substitution.{copied, Binding}
use Rattle.machine.specs.Unification.{unify}

-- a literal and the copy it belongs to
pub record Pending : Type 0 where
  pub copy : ℕ
  pub literal : Literal

-- a call for which a clause copy was made, and the copy it was a call of
pub record Call : Type 0 where
  pub copy : ℕ
  pub atom : Atom

-- An alternative: the literals left; the bindings; the number of the next clause for the first literal, 0 where there is none, no literal or
-- no call; and the calls for which copies were made from the goal to it, newest first.
pub record Alternative : Type 0 where
  pub literals : List Pending
  pub bindings : List Binding
  pub next : ℕ
  pub calls : List Call

-- the path of RULES. The copies made are 1 to the path, so the next is new.
abbrev pub path : Alternative → ℕ
path a = length a.calls

-- a body's literals in a copy, before others
unfoldable pub pending : ℕ → Body → List Pending → List Pending
pending c done rest = rest
pending c (also l b) rest = record { copy = c; literal = l } ∷ pending c b rest

-- ---- clauses by number

-- the clause's head has the atom's predicate
abbrev pub is_for : Atom → Clause → Bool
is_for a cl = same_predicate cl.head.name (arity cl.head.args) a.name (arity a.args)

-- the number of the topmost of some clauses, of which the first has the number k, that is for an atom; 0 where there is none
unfoldable pub first_for : Atom → ℕ → List Clause → ℕ
first_for a k [] = 0
first_for a k (cl ∷ cls) = elim (is_for a cl) [ true ↦ k | false ↦ first_for a (suc k) cls ]

-- the topmost after the clause of number n; with n = 0 the topmost of all
unfoldable pub next_for : Sheet → Atom → ℕ → ℕ
next_for sh a n = first_for a (suc n) (drop n sh.clauses)

-- the next clause for a new literal
unfoldable pub next_of : Sheet → Literal → ℕ
next_of sh (call a) = next_for sh a 0
next_of sh (equation t u) = 0
next_of sh truth = 0
next_of sh falsity = 0
next_of sh (either y z) = 0

-- for some literals, the first of them new: "the topmost whenever that literal is new"
unfoldable pub topmost : Sheet → List Pending → ℕ
topmost sh [] = 0
topmost sh (p ∷ ps) = next_of sh p.literal

-- the clause at a place, counted from 0
unfoldable pub nth_clause : List Clause → ℕ → Option Clause
nth_clause [] k = none
nth_clause (cl ∷ cls) zero = some cl
nth_clause (cl ∷ cls) (suc k) = nth_clause cls k

-- the clause of a number: clauses count from 1, and 0 is none
unfoldable pub clause_at : Sheet → ℕ → Option Clause
clause_at sh zero = none
clause_at sh (suc k) = nth_clause sh.clauses k

-- ---- one step

-- some literals as new, with bindings and calls
abbrev pub new_alternative : Sheet → List Pending → List Binding → List Call → Alternative
new_alternative sh lits b calls = record { literals = lits; bindings = b; next = topmost sh lits; calls = calls }

-- "the literal goes": the literals behind it are left, the first of them new
unfoldable pub gone : Sheet → Alternative → List Pending → List Binding → Alternative
gone sh a rest b = new_alternative sh rest b a.calls

-- "equation: unified, the literal goes; not unifiable, the alternative goes"
unfoldable pub equated : Sheet → Alternative → List Pending → Option (List Binding) → List Alternative
equated sh a rest none = []
equated sh a rest (some b) = gone sh a rest b ∷ []

-- "the alternative moves on to the clause after"
unfoldable pub moved_on : Sheet → Alternative → Atom → Alternative
moved_on sh a at = record { literals = a.literals; bindings = a.bindings; next = next_for sh at a.next; calls = a.calls }

-- "If the head unifies, a new alternative …: the body, then the other literals, with the new bindings and path one longer"; a call of copy c
unfoldable pub laid : Sheet → Alternative → ℕ → Atom → List Pending → Clause → Option (List Binding) → Option Alternative
laid sh a c at rest cl none = none
laid sh a c at rest cl (some b) =
    some (new_alternative sh (pending (suc (path a)) cl.body rest) b (record { copy = c; atom = at } ∷ a.calls))

-- What trying one clause leads to: "it is tried with new variables", those of the copy one past the path.
unfoldable pub tried : Sheet → Alternative → ℕ → Atom → List Pending → Clause → Option Alternative
tried sh a c at rest cl =
    laid sh a c at rest cl (unify a.bindings (copied c (term_of at)) (copied (suc (path a)) (term_of cl.head)))

-- the new alternative, if there is one, lies on top of the other
unfoldable pub on_top : Option Alternative → Alternative → List Alternative
on_top none a = a ∷ []
on_top (some new) a = new ∷ a ∷ []

-- "call, no further clause of that predicate: the alternative goes"; else the clause is tried
unfoldable pub called : Sheet → Alternative → ℕ → Atom → List Pending → Option Clause → List Alternative
called sh a c at rest none = []
called sh a c at rest (some cl) = on_top (tried sh a c at rest cl) (moved_on sh a at)

-- What comes of an alternative whose first literal, of copy c, stands before the rest. Of a bracket (REQUESTS (i)): "one step replaces the
-- alternative by the right-hand one and lays the left-hand one on top, path unchanged".
unfoldable pub worked : Sheet → Alternative → ℕ → List Pending → Literal → List Alternative
worked sh a c rest (call at) = called sh a c at rest (clause_at sh a.next)
worked sh a c rest (equation t u) = equated sh a rest (unify a.bindings (copied c t) (copied c u))
worked sh a c rest truth = gone sh a rest a.bindings ∷ []
worked sh a c rest falsity = []
worked sh a c rest (either y z) = gone sh a (pending c y rest) a.bindings ∷ gone sh a (pending c z rest) a.bindings ∷ []

-- "no literals left: an answer; the alternative goes"
unfoldable pub worked_on : Sheet → Alternative → List Pending → List Alternative
worked_on sh a [] = []
worked_on sh a (p ∷ rest) = worked sh a p.copy rest p.literal

-- what comes of an alternative in one step: none, one or two
unfoldable pub outcome : Sheet → Alternative → List Alternative
outcome sh a = worked_on sh a a.literals

-- A state is a pile (the word of RULES) of alternatives, the top first. One step works on the top.
unfoldable pub step : Sheet → List Alternative → List Alternative
step sh [] = []
step sh (a ∷ below) = outcome sh a ++ below

-- "At first there is one, the goal, path 0."
unfoldable pub start : Sheet → Goal → List Alternative
start sh g = new_alternative sh (pending 0 g.body []) [] [] ∷ []

-- the pile after n steps from the goal alone
unfoldable pub pile_after : Sheet → Goal → ℕ → List Alternative
pile_after sh g zero = start sh g
pile_after sh g (suc n) = step sh (pile_after sh g n)
