-- Alternatives reached from a goal, and what stands in an alternative: what the theorems about copies and bindings speak of.
use Rattle.std.specs.Prelude.{ℕ, ◌≡◌, Bool, false, ◌||◌}
use mathlib.Core.List.{List, [], ◌∷◌, Memᴰ}
use Rattle.syntax.specs.Terms.{Literal, call, equation, truth, falsity, either, Body, done, also, Sheet, Goal}
use Rattle.machine.specs.Substitution.{Variable, same_variable, occurs, occurs_in, copied, copied_all, Binding}
use Rattle.machine.specs.Machine.{Pending, Call, Alternative, next_for, pile_after}

-- it lies on the pile after some number of steps from the goal alone
abbrev pub Reached : Sheet → Goal → Alternative → Type 0
Reached sh g a = (n : ℕ) × Memᴰ a (pile_after sh g n)

-- a variable stands in a literal or body of copy c, in some literals, in some calls, in some bindings
unfoldable mutual
  pub in_literal : Variable → ℕ → Literal → Bool
  in_literal v c (call a) = occurs_in v (copied_all c a.args)
  in_literal v c (equation t u) = occurs v (copied c t) || occurs v (copied c u)
  in_literal v c truth = false
  in_literal v c falsity = false
  in_literal v c (either y z) = in_body v c y || in_body v c z

  pub in_body : Variable → ℕ → Body → Bool
  in_body v c done = false
  in_body v c (also l b) = in_literal v c l || in_body v c b

unfoldable pub in_literals : Variable → List Pending → Bool
in_literals v [] = false
in_literals v (p ∷ ps) = in_literal v p.copy p.literal || in_literals v ps

unfoldable pub in_calls : Variable → List Call → Bool
in_calls v [] = false
in_calls v (c ∷ cs) = occurs_in v (copied_all c.copy c.atom.args) || in_calls v cs

unfoldable pub in_bindings : Variable → List Binding → Bool
in_bindings v [] = false
in_bindings v (e ∷ b) = (same_variable v e.variable || occurs v e.term) || in_bindings v b

unfoldable pub in_alternative : Variable → Alternative → Bool
in_alternative v a = in_literals v a.literals || (in_calls v a.calls || in_bindings v a.bindings)

-- n is a number of the next clause for a literal: for a call, of the topmost clause of its predicate after some m others; else 0
unfoldable pub IsNext : Sheet → Literal → ℕ → Type 0
IsNext sh (call a) n = (m : ℕ) × (n ≡ next_for sh a m)
IsNext sh (equation t u) n = n ≡ 0
IsNext sh truth n = n ≡ 0
IsNext sh falsity n = n ≡ 0
IsNext sh (either y z) n = n ≡ 0

-- for some literals, by their first
unfoldable pub IsNextOf : Sheet → List Pending → ℕ → Type 0
IsNextOf sh [] n = n ≡ 0
IsNextOf sh (p ∷ ps) n = IsNext sh p.literal n
