-- Every pile reached from a goal is low, if no body has more than 16 literals or an empty side: with paths up to 255 it has at most 4,096 alternatives.
-- A clause adds an alternative, takes its call away and adds a body and one to the path; each side of a bracket lacks the literals of the other.
use Prim.Native.Nat.{ℕ, zero, suc, ◌+◌, ◌*◌, ◌≤◌}
use native.Mathlib.Omega.{arith}
use mathlib.Core.Path.{◌≡◌, refl, sym, ap, subst}
use mathlib.Core.List.{List, [], ◌∷◌, ◌++◌}
use mathlib.Core.Option.{Option, none, some}
use lib.ListN.{length}
use Rattle.syntax.specs.Limits.{literals, longest_path}
use Rattle.syntax.specs.Terms.{Atom, term_of, Literal, call, equation, truth, falsity, either, Body, done, also, literals_in, literals_of, Clause, Sheet, Goal}
use Rattle.machine.specs.Substitution.{copied, Binding}
use Rattle.machine.specs.Unification.{unify}
use Rattle.machine.specs.Machine.{Pending, Alternative, path, pending, nth_clause, clause_at, gone, equated, moved_on, laid, tried, on_top, called, worked, worked_on, outcome, step, start, pile_after}
use Rattle.machine.specs.Low.{LiteralFilled, BodyFilled, BodyShort, ClausesShort, left_of, AllFilled, LowOver, Low}
use Rattle.machine.proofs.Tests.{some-eq, some-none}
use Rattle.machine_theorems.proofs.Piles.{All}

-- ---- a body's literals before others

left-pending : (c : ℕ) (body : Body) (rest : List Pending) → left_of (pending c body rest) ≡ literals_of body + left_of rest
unfolding left_of pending literals_of
left-pending c done rest = omega arith
left-pending c (also l body) rest = let e : left_of (pending c body rest) ≡ literals_of body + left_of rest = left-pending c body rest in omega arith

filled-pending : (c : ℕ) (body : Body) (rest : List Pending) → BodyFilled body → AllFilled rest → AllFilled (pending c body rest)
unfolding pending
filled-pending c done rest h k = k
filled-pending c (also l body) rest h k = (h.0, filled-pending c body rest h.1 k)

-- ---- the clauses of a sheet

clauses-short : (cls : List Clause) → ClausesShort cls → (k : ℕ) (cl : Clause) → nth_clause cls k ≡ some cl → BodyShort cl.body
unfolding nth_clause
clauses-short [] h k cl e = absurd (some-none cl (sym e))
clauses-short (x ∷ xs) h zero cl e = subst (λ (y : Clause). BodyShort y.body) (some-eq x cl e) h.0
clauses-short (x ∷ xs) h (suc k) cl e = clauses-short xs h.1 k cl e

clause-short : (sh : Sheet) → ClausesShort sh.clauses → (n : ℕ) (cl : Clause) → clause_at sh n ≡ some cl → BodyShort cl.body
unfolding clause_at
clause-short sh h zero cl e = absurd (some-none cl (sym e))
clause-short sh h (suc k) cl e = clauses-short sh.clauses h k cl e

-- ---- one step

module _ (sh : Sheet) (short : ClausesShort sh.clauses) (a : Alternative) (below : List Alternative)
    (over : LowOver (length below) a) (rest : Low below) where
  low-moved : (at : Atom) → Low (moved_on sh a at ∷ below)
  unfolding moved_on
  low-moved at = (record { few = over.few; height = over.height; filled = over.filled }, rest)

  module _ (c : ℕ) (ps : List Pending) where
    -- a literal goes, or a side of a bracket stands in its place
    low-gone : (b : List Binding) → left_of ps ≤ left_of a.literals → AllFilled ps → Low (gone sh a ps b ∷ below)
    unfolding gone
    low-gone b l f = (record { few = omega (arith, l, over.few); height = over.height; filled = f }, rest)

    low-laid : (at : Atom) (cl : Clause) → BodyShort cl.body → suc (left_of ps) ≤ left_of a.literals → AllFilled ps
        → (r : Option (List Binding)) → Low (on_top (laid sh a c at ps cl r) (moved_on sh a at) ++ below)
    unfolding on_top laid
    low-laid at cl s l f none = low-moved at
    low-laid at cl s l f (some b) = (
      record {
        few = omega (arith, l, left-pending (suc (path a)) cl.body ps, s.few, over.few);
        height = omega (arith, over.height);
        filled = filled-pending (suc (path a)) cl.body ps s.filled f;
      },
      low-moved at,
    )

    low-called : (at : Atom) → suc (left_of ps) ≤ left_of a.literals → AllFilled ps → (o : Option Clause) → clause_at sh a.next ≡ o
        → Low (called sh a c at ps o ++ below)
    unfolding called tried
    low-called at l f none e = rest
    low-called at l f (some cl) e =
        low-laid at cl (clause-short sh short a.next cl e) l f (unify a.bindings (copied c (term_of at)) (copied (suc (path a)) (term_of cl.head)))

    low-equated : suc (left_of ps) ≤ left_of a.literals → AllFilled ps → (r : Option (List Binding)) → Low (equated sh a ps r ++ below)
    unfolding equated
    low-equated l f none = rest
    low-equated l f (some b) = low-gone b (omega (arith, l)) f

  low-either : (c : ℕ) (y z : Body) (ps : List Pending) → literals_in (either y z) + left_of ps ≤ left_of a.literals → LiteralFilled (either y z) → AllFilled ps
      → Low (gone sh a (pending c y ps) a.bindings ∷ gone sh a (pending c z ps) a.bindings ∷ below)
  unfolding gone literals_in
  low-either c y z ps l f g = (
    record {
      few = omega (arith, l, left-pending c y ps, f.1.0, over.few);
      height = omega (arith, l, f.0.0, f.1.0, over.few);
      filled = filled-pending c y ps f.0.1 g;
    },
    low-gone c (pending c z ps) a.bindings (omega (arith, l, left-pending c z ps)) (filled-pending c z ps f.1.1 g),
  )

  low-worked : (c : ℕ) (l : Literal) (ps : List Pending) → literals_in l + left_of ps ≤ left_of a.literals → LiteralFilled l → AllFilled ps
      → Low (worked sh a c ps l ++ below)
  unfolding worked literals_in
  low-worked c (call at) ps l f g = low-called c ps at (omega (arith, l)) g (clause_at sh a.next) refl
  low-worked c (equation t u) ps l f g = low-equated c ps (omega (arith, l)) g (unify a.bindings (copied c t) (copied c u))
  low-worked c truth ps l f g = low-gone c ps a.bindings (omega (arith, l)) g
  low-worked c falsity ps l f g = rest
  low-worked c (either y z) ps l f g = low-either c y z ps l f g

  low-outcome : Low (outcome sh a ++ below)
  unfolding outcome worked_on left_of
  low-outcome = go a.literals refl over.filled
    where
      go : (lits : List Pending) → a.literals ≡ lits → AllFilled lits → Low (worked_on sh a lits ++ below)
      go [] e f = rest
      go (p ∷ ps) e f =
          let same : left_of (p ∷ ps) ≡ left_of a.literals = ap left_of (sym e) in
          let l : literals_in p.literal + left_of ps ≤ left_of a.literals = omega (arith, same) in
          low-worked p.copy p.literal ps l f.0 f.1

-- ---- the theorems

pub low_step : (sh : Sheet) → ClausesShort sh.clauses → (pile : List Alternative) → Low pile → Low (step sh pile)
unfolding step
low_step sh short [] h = tt
low_step sh short (a ∷ below) h = low-outcome sh short a below h.0 h.1

pub low-start : (sh : Sheet) (g : Goal) → BodyShort g.body → Low (start sh g)
unfolding start left_of
low-start sh g s =
    (record { few = omega (arith, left-pending 0 g.body [], s.few); height = omega arith; filled = filled-pending 0 g.body [] s.filled tt }, tt)

-- after any number of steps
pub low-after : (sh : Sheet) (g : Goal) → ClausesShort sh.clauses → BodyShort g.body → (n : ℕ) → Low (pile_after sh g n)
unfolding pile_after
low-after sh g short s zero = low-start sh g s
low-after sh g short s (suc n) = low_step sh short (pile_after sh g n) (low-after sh g short s n)

-- 4,096: how many alternatives a pile has whose top has no longer path than the longest
pub low-height : (a : Alternative) (below : List Alternative) → Low (a ∷ below) → path a ≤ longest_path → suc (length below) ≤ literals * suc longest_path
low-height a below h l = omega (arith, h.0.height, l)

-- so after any number of steps, where no path is longer than the longest
pub most-alternatives : (sh : Sheet) (g : Goal) → ClausesShort sh.clauses → BodyShort g.body → (n : ℕ)
    → All (λ a. path a ≤ longest_path) (pile_after sh g n)
    → length (pile_after sh g n) ≤ literals * suc longest_path
most-alternatives sh g short s n paths = by (pile_after sh g n) (low-after sh g short s n) paths
  where
    by : (pile : List Alternative) → Low pile → All (λ a. path a ≤ longest_path) pile → length pile ≤ literals * suc longest_path
    by [] h p = omega arith
    by (a ∷ below) h p = low-height a below h p.0
