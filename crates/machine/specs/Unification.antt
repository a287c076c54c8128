-- Unification that respects the occurs check, by first difference (Robinson).
use Rattle.std.specs.Prelude.{ℕ, zero, suc, ◌+◌, cond, List, ◌∷◌}
use Rattle.std.proofs.Math.Option.{Option, none, some}
use Rattle.syntax.specs.Terms.{same_name}
use Rattle.machine.specs.Substitution.{Variable, same_variable, is_later, RTerm, RTerms, var, app, rnil, rcons, occurs_in, Binding, resolve}

-- The first difference of two terms from the left: none, one that no binding takes away, or a variable to be bound to a term.
pub data Difference : Type 0 where
  same : Difference
  clash : Difference
  apart : Variable → RTerm → Difference

-- of two variables the later is bound to the earlier
unfoldable pub differ_variables : Variable → Variable → Difference
differ_variables v w = cond (same_variable v w) same (cond (is_later v w) (apart v (var w)) (apart w (var v)))

-- a variable beside a name with arguments: the occurs check
unfoldable pub differ_mixed : Variable → List ℕ → RTerms → Difference
differ_mixed v f ts = cond (occurs_in v ts) clash (apart v (app f ts))

-- a first difference, or the one behind it
unfoldable pub or_else : Difference → Difference → Difference
or_else same d = d
or_else clash d = clash
or_else (apart v s) d = apart v s

-- the first difference of two terms, and of two lists: names that are not the same clash, and so do lists of different lengths
unfoldable mutual
  pub differ : RTerm → RTerm → Difference
  differ (var v) (var w) = differ_variables v w
  differ (var v) (app g us) = differ_mixed v g us
  differ (app f ts) (var w) = differ_mixed w f ts
  differ (app f ts) (app g us) = cond (same_name f g) (differ_all ts us) clash

  pub differ_all : RTerms → RTerms → Difference
  differ_all rnil rnil = same
  differ_all rnil (rcons u us) = clash
  differ_all (rcons t ts) rnil = clash
  differ_all (rcons t ts) (rcons u us) = or_else (differ t u) (differ_all ts us)

-- what a difference makes of the bindings; `again` goes on with one binding more
unfoldable pub bound : Difference → List Binding → (List Binding → Option (List Binding)) → Option (List Binding)
bound same b again = some b
bound clash b again = none
bound (apart v s) b again = again (record { variable = v; term = s } ∷ b)

-- While the two resolved terms differ, their first difference is bound away. The first number bounds the rounds, so that this is a definition. When no
-- round is left it says "the bindings so far", which would be wrong if a difference were left; with as many rounds as `unify` gives, none is
-- (`Unifier.unify-spec`), and more rounds change nothing (`Unifier.unify-unbounded`).
unfoldable pub rounds : ℕ → List Binding → RTerm → RTerm → Option (List Binding)
rounds zero b t u = some b
rounds (suc n) b t u = bound (differ (resolve b t) (resolve b u)) b (λ b1. rounds n b1 t u)

-- how many variables stand in a term, each counted as often as it stands there
abbrev mutual
  pub places : RTerm → ℕ
  places (var v) = 1
  places (app f ts) = places_in ts

  pub places_in : RTerms → ℕ
  places_in rnil = 0
  places_in (rcons t ts) = places t + places_in ts

-- The bindings that make two terms equal, most general, or none. Each round takes a variable away, so the bound on the rounds never cuts in
-- (`Unifier.unify-spec`).
unfoldable pub unify : List Binding → RTerm → RTerm → Option (List Binding)
unify b t u = rounds (suc (places (resolve b t) + places (resolve b u))) b t u
