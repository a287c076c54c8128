-- What the machine's steps are to a replay: where an alternative stands, what a step makes of it, and a potential that falls at each choice.
use Prim.Native.Nat.{ℕ, suc, ◌+◌, ◌*◌, ◌≤◌, ◌<◌}
use native.Mathlib.Omega.{arith}
use mathlib.Core.Path.{◌≡◌, refl, ap, ◌∙◌, subst}
use mathlib.Core.List.{List, [], ◌∷◌, ◌++◌}
use mathlib.Core.Option.{Option, none, some}
use Rattle.syntax.specs.Limits.{longest_path, literals}
use Rattle.syntax.specs.Terms.{Atom, term_of, Literal, call, equation, truth, falsity, either, Body, done, also, literals_in, literals_of, Clause, Sheet, Goal}
use Rattle.machine.specs.Substitution.{copied, Binding}
use Rattle.machine.specs.Unification.{unify}
use Rattle.machine.specs.Machine.{Pending, Alternative, path, pending, clause_at, gone, equated, laid, tried, on_top, worked, new_alternative}
use Rattle.machine.specs.Low.{BodyFilled, BodyShort, LiteralFilled, AllFilled, left_of, Low}
use Rattle.derivations.specs.Workings.{Numbered, Left, Right, failed, at_call, unified, met, settled, led}
use Rattle.derivations.specs.Resolvents.{resolvent, potential}
use Rattle.derivations.proofs.Exactly.{led-clause, led-clash}

-- the literals of a body before others: how many, and that all are filled
left-pending : (c : ℕ) (body : Body) (rest : List Pending) → left_of (pending c body rest) ≡ literals_of body + left_of rest
unfolding left_of pending literals_of
left-pending c done rest = omega arith
left-pending c (also l body) rest = let e : left_of (pending c body rest) ≡ literals_of body + left_of rest = left-pending c body rest in omega arith

filled-pending : (c : ℕ) (body : Body) (rest : List Pending) → BodyFilled body → AllFilled rest → AllFilled (pending c body rest)
unfolding pending
filled-pending c done rest h k = k
filled-pending c (also l body) rest h k = (h.0, filled-pending c body rest h.1 k)

-- what comes of a step at `true`, `fail` or an equation: nothing, and it is failed; or an alternative in its place that stands where it stood
pub data Goes (sh : Sheet) (a : Alternative) (below : List Alternative) : List Alternative → Type 0 where
  goes-off : resolvent a ≡ failed → Goes sh a below below
  goes-on : (a1 : Alternative) → resolvent a ≡ resolvent a1 → potential a1 < potential a → Goes sh a below (a1 ∷ below)

-- at a call, and at a bracket
abbrev pub StandsAt : Alternative → ℕ → Literal → List Pending → Type 0
StandsAt a c l rest = a.literals ≡ record { copy = c; literal = l } ∷ rest

abbrev pub Plain : Literal → Type 0
Plain (call a) = ⊥
Plain (equation t u) = Unit {0}
Plain truth = Unit {0}
Plain falsity = Unit {0}
Plain (either y z) = ⊥

-- where an alternative stands, by its literals
stands : (a : Alternative) (lits : List Pending) → a.literals ≡ lits → resolvent a ≡ settled (path a) a.bindings lits
stands a lits e = ap (settled (path a) a.bindings) e

module _ (sh : Sheet) (a : Alternative) (below : List Alternative) (c : ℕ) (rest : List Pending) where
  pub plain-goes : (l : Literal) → Plain l → StandsAt a c l rest → Goes sh a below (worked sh a c rest l ++ below)
  unfolding worked gone settled met left_of literals_in
  plain-goes (call at) p e = absurd p
  plain-goes (equation t u) p e = go (unify a.bindings (copied c t) (copied c u)) refl
    where
      go : (o : Option (List Binding)) → unify a.bindings (copied c t) (copied c u) ≡ o → Goes sh a below (equated sh a rest o ++ below)
      go none q = unfold equated in unfold unified in (goes-off (stands a (record { copy = c; literal = equation t u } ∷ rest) e ∙ ap (λ (o : Option (List Binding)). unified o (λ b1. settled (path a) b1 rest)) q))
      go (some b) q = unfold equated in unfold unified in (goes-on (gone sh a rest b) (stands a (record { copy = c; literal = equation t u } ∷ rest) e ∙ ap (λ (o : Option (List Binding)). unified o (λ b1. settled (path a) b1 rest)) q) (omega (arith, ap left_of e)))
  plain-goes truth p e = goes-on (gone sh a rest a.bindings) (stands a (record { copy = c; literal = truth } ∷ rest) e) (omega (arith, ap left_of e))
  plain-goes falsity p e = goes-off (stands a (record { copy = c; literal = falsity } ∷ rest) e)
  plain-goes (either y z) p e = absurd p

  -- a clause tried for a call, whatever its number: it does not fit, or the alternative that is laid stands where the record leads
  pub data Taken (n : ℕ) : Option Alternative → Type 0 where
    not-taken : led sh (Numbered n) (resolvent a) ≡ failed → Taken n none
    is-taken : (a1 : Alternative) → led sh (Numbered n) (resolvent a) ≡ resolvent a1 → potential a1 < potential a → Taken n (some a1)

  pub call-takes : (at : Atom) → StandsAt a c (call at) rest → path a < longest_path → (n : ℕ) (cl : Clause) → clause_at sh n ≡ some cl
      → BodyShort cl.body → Taken n (tried sh a c at rest cl)
  unfolding tried
  call-takes at e low n cl there s = go (unify a.bindings (copied c (term_of at)) (copied (suc (path a)) (term_of cl.head))) refl
    where
      here : resolvent a ≡ at_call (path a) a.bindings c at rest
      here = unfold settled in unfold met in stands a (record { copy = c; literal = call at } ∷ rest) e

      go : (o : Option (List Binding)) → unify a.bindings (copied c (term_of at)) (copied (suc (path a)) (term_of cl.head)) ≡ o → Taken n (laid sh a c at rest cl o)
      go none q = unfold laid in (not-taken (ap (led sh (Numbered n)) here ∙ led-clash sh (path a) a.bindings c n at cl rest low there q))
      go (some b) q = unfold laid in (is-taken (new_alternative sh (pending (suc (path a)) cl.body rest) b (record { copy = c; atom = at } ∷ a.calls)) (ap (led sh (Numbered n)) here ∙ led-clause sh (path a) a.bindings c n at cl rest b low there q)
          (unfold left_of in unfold literals_in in omega (arith, ap left_of e, left-pending (suc (path a)) cl.body rest, s.few, low)))

  -- a bracket: both sides, the left one on top
  pub record Parts (y z : Body) : Type 0 where
    pub left_is : led sh Left (resolvent a) ≡ resolvent (gone sh a (pending c y rest) a.bindings)
    pub right_is : led sh Right (resolvent a) ≡ resolvent (gone sh a (pending c z rest) a.bindings)
    pub left_falls : potential (gone sh a (pending c y rest) a.bindings) < potential a
    pub right_falls : potential (gone sh a (pending c z rest) a.bindings) < potential a

  pub bracket-parts : (y z : Body) → StandsAt a c (either y z) rest → LiteralFilled (either y z) → Parts y z
  unfolding gone settled met led left_of literals_in
  bracket-parts y z e f =
      record {
        left_is = ap (led sh Left) (stands a (record { copy = c; literal = either y z } ∷ rest) e);
        right_is = ap (led sh Right) (stands a (record { copy = c; literal = either y z } ∷ rest) e);
        left_falls = omega (arith, ap left_of e, left-pending c y rest, f.1.0);
        right_falls = omega (arith, ap left_of e, left-pending c z rest, f.0.0);
      }

-- a clause tried, whatever its number, leaves a pile low
pub low-taken : (sh : Sheet) (a : Alternative) (below : List Alternative) → Low (a ∷ below) → (c : ℕ) (at : Atom) (rest : List Pending) → StandsAt a c (call at) rest
    → (cl : Clause) → BodyShort cl.body → Low (on_top (tried sh a c at rest cl) a ++ below)
unfolding tried on_top left_of literals_in
low-taken sh a below h c at rest e cl s = go (unify a.bindings (copied c (term_of at)) (copied (suc (path a)) (term_of cl.head)))
  where
    filled : AllFilled rest
    filled = (subst AllFilled e h.0.filled).1

    go : (o : Option (List Binding)) → Low (on_top (laid sh a c at rest cl o) a ++ below)
    go none = unfold laid in h
    go (some b) = unfold laid in (
      record {
        few = omega (arith, ap left_of e, left-pending (suc (path a)) cl.body rest, s.few, h.0.few);
        height = omega (arith, h.0.height);
        filled = filled-pending (suc (path a)) cl.body rest s.filled filled;
      },
      h,
    )

-- at the start it is at most 4,096
pub begun-potential : (sh : Sheet) (g : Goal) → BodyShort g.body → potential (new_alternative sh (pending 0 g.body []) [] []) ≤ literals * suc longest_path
unfolding left_of
begun-potential sh g s = omega (arith, left-pending 0 g.body [], s.few)
