-- "Every answer of our own run without a trace or (x)'s mark has workings that are accepted with the same line, given room for it": every alternative
-- reached at a path of at most 255 has records that lead to it. What goes through from it goes through behind them.
use Prim.Native.Nat.{ℕ, suc, ◌≤◌}
use native.Mathlib.Omega.{arith}
use mathlib.Core.Path.{◌≡◌, refl, ap, ◌∙◌}
use mathlib.Core.List.{List, [], ◌∷◌, ◌++◌}
use mathlib.Core.Option.{Option, none, some}
use Rattle.syntax.specs.Limits.{longest_path}
use Rattle.syntax.specs.Terms.{Atom, term_of, Literal, call, equation, truth, falsity, either, Clause, Sheet, Goal}
use Rattle.machine.specs.Substitution.{copied, Binding}
use Rattle.machine.specs.Unification.{unify}
use Rattle.machine.specs.Machine.{Pending, Alternative, path, pending, clause_at, gone, equated, moved_on, laid, tried, on_top, called, worked, worked_on, outcome, start}
use Rattle.machine.specs.Reached.{Reached}
use Rattle.machine_theorems.proofs.Piles.{All, all-reached}
use Rattle.derivations.specs.Workings.{Choice, Numbered, Left, Right, Records, next, unified, met, settled, led, answered, replay, begun, record_bytes}
use Rattle.derivations.specs.Derivations.{recorded_then}
use Rattle.derivations.proofs.Exactly.{answers-used, led-clause}

-- behind some choices, others
then-recorded : (ms ns : List Choice) (rs : Records) → recorded_then (ms ++ ns) rs ≡ recorded_then ms (recorded_then ns rs)
unfolding recorded_then
then-recorded [] ns rs = refl
then-recorded (m ∷ ms) ns rs = ap (next m) (then-recorded ms ns rs)

-- each clause that is taken is one of the sheet
abbrev pub ClausesThere : Sheet → List Choice → Type 0
ClausesThere sh [] = Unit {0}
ClausesThere sh (Numbered n ∷ ms) = ((cl : Clause) × (clause_at sh n ≡ some cl)) × ClausesThere sh ms
ClausesThere sh (Left ∷ ms) = ClausesThere sh ms
ClausesThere sh (Right ∷ ms) = ClausesThere sh ms

numbered-both : (sh : Sheet) (ms ns : List Choice) → ClausesThere sh ms → ClausesThere sh ns → ClausesThere sh (ms ++ ns)
numbered-both sh [] ns h g = g
numbered-both sh (Numbered n ∷ ms) ns h g = (h.0, numbered-both sh ms ns h.1 g)
numbered-both sh (Left ∷ ms) ns h g = numbered-both sh ms ns h g
numbered-both sh (Right ∷ ms) ns h g = numbered-both sh ms ns h g

module _ (sh : Sheet) (g : Goal) where
  -- records that lead from the goal to some literals, with a path and bindings
  pub record LedTo (k : ℕ) (b : List Binding) (lits : List Pending) : Type 0 where
    pub choices : List Choice
    pub numbered : ClausesThere sh choices
    pub onward : (rs : Records) (e : List Binding) → replay sh rs (settled k b lits) ≡ answered e → replay sh (recorded_then choices rs) (begun g) ≡ answered e

  abbrev pub HasRecords : Alternative → Type 0
  HasRecords a = path a ≤ longest_path → LedTo (path a) a.bindings a.literals

  -- one record more
  one_more : (k j : ℕ) (b b1 : List Binding) (lits rest : List Pending) (m : Choice) → ClausesThere sh (m ∷ []) → led sh m (settled k b lits) ≡ settled j b1 rest
      → LedTo k b lits → LedTo j b1 rest
  unfolding replay recorded_then
  one_more k j b b1 lits rest m n q l =
      record {
        choices = l.choices ++ (m ∷ []);
        numbered = numbered-both sh l.choices (m ∷ []) l.numbered n;
        onward = λ rs e h. ap (λ (x : Records). replay sh x (begun g)) (then-recorded l.choices (m ∷ []) rs)
            ∙ l.onward (next m rs) e (answers-used sh (record_bytes m) rs (led sh m (settled k b lits)) e (ap (replay sh rs) q ∙ h));
      }

  module _ (a : Alternative) (c : ℕ) (rest : List Pending) where
    -- the literals that it stands at
    abbrev Here : Literal → Type 0
    Here l = path a ≤ longest_path → LedTo (path a) a.bindings (record { copy = c; literal = l } ∷ rest)

    gone-has : (lits : List Pending) (b : List Binding) → (path a ≤ longest_path → LedTo (path a) b lits) → HasRecords (gone sh a lits b)
    unfolding gone
    gone-has lits b h = h

    equated-has : (l : Literal) → Here l → (o : Option (List Binding)) → ((b : List Binding) → o ≡ some b → settled (path a) a.bindings (record { copy = c; literal = l } ∷ rest) ≡ settled (path a) b rest)
        → All HasRecords (equated sh a rest o)
    unfolding equated
    equated-has l h none q = tt
    equated-has l h (some b) q = (
      gone-has rest b (λ p. (let w : LedTo (path a) a.bindings (record { copy = c; literal = l } ∷ rest) = h p in
          record { choices = w.choices; numbered = w.numbered; onward = λ rs e x. w.onward rs e (ap (replay sh rs) (q b refl) ∙ x) })),
      tt,
    )

    laid-has : (at : Atom) → HasRecords a → Here (call at) → (n : ℕ) (cl : Clause) → clause_at sh n ≡ some cl → (o : Option (List Binding))
        → unify a.bindings (copied c (term_of at)) (copied (suc (path a)) (term_of cl.head)) ≡ o → All HasRecords (on_top (laid sh a c at rest cl o) (moved_on sh a at))
    unfolding laid on_top moved_on settled met
    laid-has at k h n cl there none q = (k, tt)
    laid-has at k h n cl there (some b) q = (
      (λ (p : suc (path a) ≤ longest_path).
          one_more (path a) (suc (path a)) a.bindings b (record { copy = c; literal = call at } ∷ rest) (pending (suc (path a)) cl.body rest) (Numbered n) ((cl, there), tt)
          (led-clause sh (path a) a.bindings c n at cl rest b p there q) (h (let z : path a ≤ longest_path = omega arith in z))),
      (k, tt),
    )

    called-has : (at : Atom) → HasRecords a → Here (call at) → (n : ℕ) (o : Option Clause) → clause_at sh n ≡ o → All HasRecords (called sh a c at rest o)
    unfolding called tried
    called-has at k h n none there = tt
    called-has at k h n (some cl) there =
        laid-has at k h n cl there (unify a.bindings (copied c (term_of at)) (copied (suc (path a)) (term_of cl.head))) refl

    worked-has : HasRecords a → (l : Literal) → Here l → All HasRecords (worked sh a c rest l)
    unfolding worked settled met led
    worked-has k (call at) h = called-has at k h a.next (clause_at sh a.next) refl
    worked-has k (equation t u) h =
        equated-has (equation t u) h (unify a.bindings (copied c t) (copied c u))
        (λ b q. ap (λ (o : Option (List Binding)). unified o (λ b1. settled (path a) b1 rest)) q ∙ unfold unified in refl)
    worked-has k truth h = (
      gone-has rest a.bindings (λ p. (let w : LedTo (path a) a.bindings (record { copy = c; literal = truth } ∷ rest) = h p in
          record { choices = w.choices; numbered = w.numbered; onward = λ rs e x. w.onward rs e x })),
      tt,
    )
    worked-has k falsity h = tt
    worked-has k (either y z) h = (
      gone-has (pending c y rest) a.bindings (λ p. one_more (path a) (path a) a.bindings a.bindings (record { copy = c; literal = either y z } ∷ rest) (pending c y rest) Left tt refl (h p)),
      (gone-has (pending c z rest) a.bindings (λ p. one_more (path a) (path a) a.bindings a.bindings (record { copy = c; literal = either y z } ∷ rest) (pending c z rest) Right tt refl (h p)), tt),
    )

  pub outcome-has : (a : Alternative) → HasRecords a → All HasRecords (outcome sh a)
  unfolding outcome worked_on
  outcome-has a h = go a.literals h
    where
      go : (lits : List Pending) → (path a ≤ longest_path → LedTo (path a) a.bindings lits) → All HasRecords (worked_on sh a lits)
      go [] k = tt
      go (p ∷ rest) k = worked-has a p.copy rest h p.literal k

  pub start-has : All HasRecords (start sh g)
  unfolding start begun recorded_then
  start-has = ((λ p. record { choices = []; numbered = tt; onward = λ rs e h. h }), tt)

  pub reached-has : (a : Alternative) → Reached sh g a → HasRecords a
  reached-has = all-reached HasRecords sh g outcome-has start-has
