-- Laws of a move. Assumes nothing.
use Prim.Native.Nat.{ℕ, zero, suc, ◌-◌, ◌≤◌, ◌<◌}
use native.Mathlib.Omega.{arith}
use mathlib.Core.Path.{◌≡◌, refl, sym, ap, ◌∙◌, subst, subst⁻¹}
use mathlib.Core.List.{List, [], ◌∷◌, ◌++◌}
use mathlib.Core.Option.{Option as Opt, none, some}
use Rattle.std.specs.Prelude.{Some, None}
use lib.ListN.{length}
use Rattle.syntax.specs.Limits.{longest_path}
use Rattle.syntax.specs.Words.{call_kind}
use Rattle.syntax.specs.Terms.{Atom, call, Clause, Sheet, Goal}
use Rattle.machine.specs.Machine.{Alternative, nth_clause, clause_at, tried, on_top}
use Rattle.machine.specs.Low.{BodyShort, ClausesShort, Low}
use Rattle.run_layout.specs.Regions.{most_alternatives}
use Rattle.run_layout.specs.Nodes.{Symbol}
use Rattle.run_layout.specs.Program.{record_kind}
use Rattle.run_layout.specs.Pile.{copy_at, literal_at, mark_at, path_at, alternative_at, pile_of}
use Rattle.run_layout.proofs.Pile.{path-high, pile-count}
use Rattle.run_layout.specs.Rooms.{Clean}
use Rattle.bindings.specs.Scratch.{Roomy}
use Rattle.run.specs.Moves.{Tryable, ClauseTried, rest_at}
use Rattle.run.specs.Steps.{Running, meaning}
use Rattle.run.specs.declared.alternatives.PileHeight.{PileHeight}
use Rattle.run.proofs.TopLaws.{at_top}
use Rattle.derivations.specs.Workings.{failed, led}
use Rattle.derivations.specs.declared.Choice.TheVariants.{Numbered}
use Rattle.derivations.specs.Resolvents.{resolvent}
use Rattle.derivations.proofs.StepLaws.{Taken, not-taken, is-taken, call-takes, low-taken}
use Rattle.workings.specs.Choices.{ClauseTakable, Advanced, ChoiceMade}
use Rattle.workings.proofs.DueLaws.{path-is, calling, called-body, call-stands}

nth-some : (cls : List Clause) (k : ℕ) → k < length cls → (cl : Clause) × (nth_clause cls k ≡ some cl)
unfolding nth_clause
nth-some [] k l = absurd (omega (arith, l))
nth-some (cl ∷ cls) zero l = (cl, refl)
nth-some (cl ∷ cls) (suc k) l = nth-some cls k (omega (arith, l))

clause-there : (sh : Sheet) (n : ℕ) → 1 ≤ n → n ≤ length sh.clauses → (cl : Clause) × (clause_at sh n ≡ some cl)
unfolding clause_at
clause-there sh zero l m = absurd (omega (arith, l))
clause-there sh (suc k) l m = nth-some sh.clauses k (omega (arith, m))

some-eq : (x y : Clause) → ◌≡◌ {A = Opt Clause} (some x) (some y) → x ≡ y
some-eq x y e = cc

some-none : (x : Clause) → ◌≡◌ {A = Opt Clause} (some x) none → ⊥
some-none x e = let z : ◌≡◌ {A = ℕ} 0 1 = cc in omega arith

nth-short : (cls : List Clause) → ClausesShort cls → (k : ℕ) (cl : Clause) → nth_clause cls k ≡ some cl → BodyShort cl.body
unfolding nth_clause
nth-short [] h k cl e = absurd (some-none cl (sym e))
nth-short (x ∷ xs) h zero cl e = subst (λ (y : Clause). BodyShort y.body) (some-eq x cl e) h.0
nth-short (x ∷ xs) h (suc k) cl e = nth-short xs h.1 k cl e

clause-short : (sh : Sheet) → ClausesShort sh.clauses → (n : ℕ) (cl : Clause) → clause_at sh n ≡ some cl → BodyShort cl.body
unfolding clause_at
clause-short sh h zero cl e = absurd (some-none cl (sym e))
clause-short sh h (suc k) cl e = nth-short sh.clauses h k cl e

-- the top, alternative j of suc j
module _ (nodes code state scratch : List ℕ) (j number : ℕ) (running : Running nodes code state (suc j) (mark_at state j)) (kind : record_kind code (literal_at state j) ≡ call_kind)
    (low : path_at state j < longest_path) (first : 1 ≤ number) (last : number ≤ length running.sh.clauses) where
  abbrev ss : List Symbol
  ss = running.ss

  abbrev sh : Sheet
  sh = running.sh

  abbrev g : Goal
  g = running.g

  abbrev top : Alternative
  top = alternative_at ss sh g nodes code state j

  abbrev called : Atom
  called = (calling nodes code state j (mark_at state j) running kind).0

  there : (cl : Clause) × (clause_at sh number ≡ some cl)
  there = clause-there sh number first last

  short : BodyShort there.0.body
  short = clause-short sh running.piled.program.bodies_short number there.0 there.1

  stands-at : top.literals ≡ record { copy = copy_at state j; literal = call called } ∷ rest_at sh g code state j
  stands-at = call-stands nodes code state j (mark_at state j) running kind

  room : suc j < most_alternatives
  room = omega (arith, path-high ss sh g nodes code state j running.low, low)

  module _ (roomy : Roomy scratch) (clean : Clean scratch) where
    pub tryable : Tryable nodes code state scratch (suc j) j number
    tryable =
        record {
          ss = ss;
          sh = sh;
          g = g;
          piled = running.piled;
          filled = refl;
          low = low;
          room = room;
          atom = called;
          calls = called-body nodes code state j (mark_at state j) running kind;
          clause = there.0;
          there = there.1;
          roomy = roomy;
          clean = clean;
        }

    module _ (after later : List ℕ) (p : PileHeight) (c : ClauseTried tryable after later p) where
      abbrev below : List Alternative
      below = pile_of ss sh g nodes code state j

      abbrev one : Opt Alternative
      one = tried sh top (copy_at state j) called (rest_at sh g code state j) there.0

      outcome-is : Taken sh top below (copy_at state j) (rest_at sh g code state j) number one
      outcome-is = call-takes sh top below (copy_at state j) (rest_at sh g code state j) called stands-at (omega (arith, path-is nodes code state j (mark_at state j) running, low)) number there.0 there.1 short

      low-is : Low (on_top one top ++ below)
      unfolding pile_of
      low-is = low-taken sh top below running.low (copy_at state j) called (rest_at sh g code state j) stands-at there.0 short

      count : p.height ≡ length (on_top one top ++ below)
      unfolding tryable
      count = sym (pile-count ss sh g nodes code after p.height) ∙ ap (λ (x : List Alternative). length x) c.is

      -- as many as before: it does not fit
      pub same-count : p.height ≡ suc j → led sh (Numbered number) (resolvent top) ≡ failed
      unfolding on_top
      same-count e = go one outcome-is count
        where
          go : (o : Opt Alternative) → Taken sh top below (copy_at state j) (rest_at sh g code state j) number o → p.height ≡ length (on_top o top ++ below) → led sh (Numbered number) (resolvent top) ≡ failed
          go none (not-taken q) n = q
          go (some a1) (is-taken a2 q f) n = absurd (omega (arith, e, n, pile-count ss sh g nodes code state j))

      -- more: it fits
      pub more-count : (p.height ≡ suc j → ⊥) → Advanced (meaning running) state scratch top (led sh (Numbered number) (resolvent top)) after later p
      unfolding on_top pile_of tryable
      more-count e = go one outcome-is count low-is c.is
        where
          go : (o : Opt Alternative) → Taken sh top below (copy_at state j) (rest_at sh g code state j) number o → p.height ≡ length (on_top o top ++ below) → Low (on_top o top ++ below)
              → pile_of ss sh g nodes code after p.height ≡ on_top o top ++ below → Advanced (meaning running) state scratch top (led sh (Numbered number) (resolvent top)) after later p
          go none (not-taken q) n l i = absurd (e (omega (arith, n, pile-count ss sh g nodes code state j)))
          go (some a1) (is-taken a2 q f) n l i =
              record {
                new = a1;
                is = i;
                others = pile_of ss sh g nodes code state (suc j);
                stands = q;
                falls = f;
                low = subst⁻¹ Low i l;
                piled = c.piled;
                state_long = c.state_long;
                clean = c.clean;
                scratch_long = c.scratch_long;
              }

-- ---- for a height and the number below it

module _ {nodes code state scratch : List ℕ} {h number : ℕ} (w : ClauseTakable nodes code state scratch h number) where
  pub take-tryable : Tryable nodes code state scratch h (h - 1) number
  take-tryable =
      at_top
      (λ x k. (running : Running nodes code state x (mark_at state k)) → record_kind code (literal_at state k) ≡ call_kind → path_at state k < longest_path
      → 1 ≤ number → number ≤ length running.sh.clauses → Roomy scratch → Clean scratch → Tryable nodes code state scratch x k number)
      (λ j running kind low first last roomy clean. tryable nodes code state scratch j number running kind low first last roomy clean)
      h w.top.some w.top.running w.kind w.low w.first w.last w.top.roomy w.top.clean

  module _ (after later : List ℕ) (p : PileHeight) (given : (v : Tryable nodes code state scratch h (h - 1) number) → ClauseTried v after later p) where
    pub take-none : p.height ≡ h → ChoiceMade (meaning w.top.running) state scratch (h - 1) (Numbered number) after later None
    unfolding ChoiceMade
    take-none e =
        at_top
        (λ x k. (running : Running nodes code state x (mark_at state k)) → record_kind code (literal_at state k) ≡ call_kind → path_at state k < longest_path
        → 1 ≤ number → number ≤ length running.sh.clauses → Roomy scratch → Clean scratch
        → ((v : Tryable nodes code state scratch x k number) → ClauseTried v after later p) → p.height ≡ x
        → led running.sh (Numbered number) (resolvent (alternative_at running.ss running.sh running.g nodes code state k)) ≡ failed)
        (λ j running kind low first last roomy clean f q.
        same-count nodes code state scratch j number running kind low first last roomy clean after later p (f (tryable nodes code state scratch j number running kind low first last roomy clean)) q)
        h w.top.some w.top.running w.kind w.low w.first w.last w.top.roomy w.top.clean given e

    pub take-some : (p.height ≡ h → ⊥) → ChoiceMade (meaning w.top.running) state scratch (h - 1) (Numbered number) after later (Some p)
    unfolding ChoiceMade
    take-some e =
        at_top
        (λ x k. (running : Running nodes code state x (mark_at state k)) → record_kind code (literal_at state k) ≡ call_kind → path_at state k < longest_path
        → 1 ≤ number → number ≤ length running.sh.clauses → Roomy scratch → Clean scratch
        → ((v : Tryable nodes code state scratch x k number) → ClauseTried v after later p) → (p.height ≡ x → ⊥)
        → Advanced (meaning running) state scratch (alternative_at running.ss running.sh running.g nodes code state k) (led running.sh (Numbered number) (resolvent (alternative_at running.ss running.sh running.g nodes code state k))) after later p)
        (λ j running kind low first last roomy clean f q.
        more-count nodes code state scratch j number running kind low first last roomy clean after later p (f (tryable nodes code state scratch j number running kind low first last roomy clean)) q)
        h w.top.some w.top.running w.kind w.low w.first w.last w.top.roomy w.top.clean given e
