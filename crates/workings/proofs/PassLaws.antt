-- Laws of `true`, `fail` and equations. Assumes nothing.
use Prim.Native.Nat.{ℕ, suc, ◌-◌, ◌≤◌, ◌<◌}
use native.Mathlib.Omega.{arith}
use mathlib.Core.Path.{◌≡◌, refl, sym, ap, ◌∙◌, subst⁻¹}
use mathlib.Core.Bool.{Bool, false, ◌&&◌}
use mathlib.Core.List.{List, ◌∷◌}
use Rattle.std.specs.Prelude.{Some, None}
use lib.Dec.{leb}
use lib.ListN.{length}
use Rattle.syntax.specs.Limits.{longest_path}
use Rattle.syntax.specs.Words.{literal_length, call_kind}
use Rattle.syntax.specs.Terms.{Literal, call, equation, truth, falsity, either, Body, done, also, Sheet, Goal}
use Rattle.machine.specs.Machine.{Pending, Alternative, path, step}
use Rattle.machine.specs.Low.{Low}
use Rattle.machine.specs.Runs.{tries_with, tries_first, goes_deeper}
use Rattle.machine_theorems.proofs.Low.{low_step}
use Rattle.run_layout.specs.Regions.{body_end_kind, split_kind}
use Rattle.run_layout.specs.Nodes.{Symbol}
use Rattle.run_layout.specs.Program.{record_kind}
use Rattle.run_layout.specs.Pile.{rest_from, left_from, copy_at, literal_at, path_at, alternative_at, pile_of}
use Rattle.run_layout.proofs.Pile.{HeadStands, pile-count}
use Rattle.run_layout.proofs.Step.{left-also}
use Rattle.run_layout.specs.Rooms.{Clean}
use Rattle.bindings.specs.Scratch.{Roomy}
use Rattle.run.specs.Moves.{rest_at}
use Rattle.run.specs.Steps.{Running, meaning, Steppable, Stepped}
use Rattle.run.specs.declared.alternatives.PileHeight.{PileHeight}
use Rattle.run.proofs.TopLaws.{at_top, top-stacked, top-stands, step-also}
use Rattle.derivations.specs.Workings.{failed}
use Rattle.derivations.specs.Resolvents.{resolvent}
use Rattle.derivations.proofs.StepLaws.{Plain, Goes, goes-off, goes-on, plain-goes}
use Rattle.workings.specs.Choices.{LiteralPassable, Advanced, LiteralPassed}

-- what stands at a record of none of three kinds
record PlainHead (b : Body) : Type 0 where
  literal : Literal
  rest : Body
  is : b ≡ also literal rest
  plain : Plain literal
  one : literal_length literal ≡ 1

plain-head : (ss : List Symbol) (sh : Sheet) (nodes code : List ℕ) (l : ℕ) (b : Body) → HeadStands ss sh nodes code l b → (record_kind code l ≡ call_kind → ⊥)
    → (record_kind code l ≡ split_kind → ⊥) → (record_kind code l ≡ body_end_kind → ⊥) → PlainHead b
unfolding literal_length
plain-head ss sh nodes code l done h c s e = absurd (e h)
plain-head ss sh nodes code l (also (call a) r) h c s e = absurd (c h.0)
plain-head ss sh nodes code l (also (equation t u) r) h c s e = record { literal = equation t u; rest = r; is = refl; plain = tt; one = refl }
plain-head ss sh nodes code l (also truth r) h c s e = record { literal = truth; rest = r; is = refl; plain = tt; one = refl }
plain-head ss sh nodes code l (also falsity r) h c s e = record { literal = falsity; rest = r; is = refl; plain = tt; one = refl }
plain-head ss sh nodes code l (also (either y z) r) h c s e = absurd (s h)

tries-none : (sh : Sheet) (a : Alternative) (l : Literal) → Plain l → tries_with sh a l ≡ false
unfolding tries_with
tries-none sh a (call at) p = absurd p
tries-none sh a (equation t u) p = refl
tries-none sh a truth p = refl
tries-none sh a falsity p = refl
tries-none sh a (either y z) p = absurd p

-- the top, alternative j of suc j
module _ (nodes code state scratch : List ℕ) (j n : ℕ) (running : Running nodes code state (suc j) n) (no-call : record_kind code (literal_at state j) ≡ call_kind → ⊥)
    (no-split : record_kind code (literal_at state j) ≡ split_kind → ⊥) (no-end : record_kind code (literal_at state j) ≡ body_end_kind → ⊥) where
  abbrev ss : List Symbol
  ss = running.ss

  abbrev sh : Sheet
  sh = running.sh

  abbrev g : Goal
  g = running.g

  abbrev top : Alternative
  top = alternative_at ss sh g nodes code state j

  abbrev below : List Alternative
  below = pile_of ss sh g nodes code state j

  head : PlainHead (rest_from sh g code state (copy_at state j) (literal_at state j))
  head = plain-head ss sh nodes code (literal_at state j) (rest_from sh g code state (copy_at state j) (literal_at state j)) (top-stands ss sh g nodes code state j n running.piled) no-call no-split no-end

  left-is : left_from sh g code state (path_at state j) (copy_at state j) (literal_at state j) ≡ record { copy = copy_at state j; literal = head.literal } ∷ rest_at sh g code state j
  left-is = left-also (path_at state j) running.piled.program (top-stacked ss sh g nodes code state j n running.piled).place (top-stacked ss sh g nodes code state j n running.piled).stays head.one head.is

  stands-at : top.literals ≡ record { copy = copy_at state j; literal = head.literal } ∷ rest_at sh g code state j
  unfolding alternative_at
  stands-at = left-is

  goes : goes_deeper sh (pile_of ss sh g nodes code state (suc j)) ≡ false
  unfolding goes_deeper pile_of tries_first
  goes =
      ap (λ (ls : List Pending). tries_first sh top ls && leb longest_path (path top)) stands-at
      ∙ ap (λ (b : Bool). b && leb longest_path (path top)) (tries-none sh top head.literal head.plain)

  goes-by : Goes sh top below (step sh (pile_of ss sh g nodes code state (suc j)))
  goes-by =
      subst⁻¹ (Goes sh top below) (step-also ss sh g nodes code state j n running.piled head.literal head.rest head.one head.is)
      (plain-goes sh top below (copy_at state j) (rest_at sh g code state j) head.literal head.plain stands-at)

  module _ (roomy : Roomy scratch) (clean : Clean scratch) where
    pub steppable : Steppable nodes code state scratch (suc j) n
    steppable = record { running = running; some = omega arith; goes = goes; roomy = roomy; clean = clean }

    module _ (after later : List ℕ) (p : PileHeight) (s : Stepped (meaning running) state after scratch later (suc j) p) where
      abbrev next-pile : List Alternative
      next-pile = step sh (pile_of ss sh g nodes code state (suc j))

      count : p.height ≡ length next-pile
      count = sym (pile-count ss sh g nodes code after p.height) ∙ ap (λ (x : List Alternative). length x) s.is

      pub fewer : p.height < suc j → resolvent top ≡ failed
      fewer l = go next-pile goes-by count
        where
          go : (xs : List Alternative) → Goes sh top below xs → p.height ≡ length xs → resolvent top ≡ failed
          go xs (goes-off q) e = q
          go xs (goes-on a1 q f) e = absurd (omega (arith, l, e, pile-count ss sh g nodes code state j))

      pub as-many : suc j ≤ p.height → Advanced (meaning running) state scratch top (resolvent top) after later p
      as-many l = go next-pile goes-by count s.is (low_step sh running.piled.program.bodies_short (pile_of ss sh g nodes code state (suc j)) running.low)
        where
          go : (xs : List Alternative) → Goes sh top below xs → p.height ≡ length xs → pile_of ss sh g nodes code after p.height ≡ xs → Low xs → Advanced (meaning running) state scratch top (resolvent top) after later p
          go xs (goes-off q) e i w = absurd (omega (arith, l, e, pile-count ss sh g nodes code state j))
          go xs (goes-on a1 q f) e i w =
              record {
                new = a1;
                is = i;
                others = below;
                stands = q;
                falls = f;
                low = subst⁻¹ Low i w;
                piled = s.piled;
                state_long = s.state_long;
                clean = s.clean;
                scratch_long = s.scratch_long;
              }

-- ---- for a height and the number below it

module _ {nodes code state scratch : List ℕ} {h n : ℕ} (w : LiteralPassable nodes code state scratch h n) where
  abbrev At : (ℕ → ℕ → Type 0) → ℕ → ℕ → Type 0
  At P x k =
      (record_kind code (literal_at state k) ≡ call_kind → ⊥) → (record_kind code (literal_at state k) ≡ split_kind → ⊥) → (record_kind code (literal_at state k) ≡ body_end_kind → ⊥) → P x k

  pub pass-steppable : Steppable nodes code state scratch h n
  pass-steppable =
      at_top (λ x k. Running nodes code state x n → At (λ y m. Steppable nodes code state scratch y n) x k)
      (λ j running c s e. steppable nodes code state scratch j n running c s e w.top.roomy w.top.clean)
      h w.top.some w.top.running w.no_call w.no_split w.no_end

  module _ (after later : List ℕ) (p : PileHeight) (given : (v : Steppable nodes code state scratch h n) → Stepped (meaning v.running) state after scratch later h p) where
    pub pass-none : p.height < h → LiteralPassed (meaning w.top.running) state scratch (h - 1) after later None
    unfolding LiteralPassed
    pass-none l =
        at_top
        (λ x k. (running : Running nodes code state x n) → At (λ y m. ((v : Steppable nodes code state scratch y n) → Stepped (meaning v.running) state after scratch later y p) → p.height < y → resolvent (alternative_at running.ss running.sh running.g nodes code state m) ≡ failed) x k)
        (λ j running c s e f q. fewer nodes code state scratch j n running c s e w.top.roomy w.top.clean after later p (unfold steppable in f (steppable nodes code state scratch j n running c s e w.top.roomy w.top.clean)) q)
        h w.top.some w.top.running w.no_call w.no_split w.no_end given l

    pub pass-some : h ≤ p.height → LiteralPassed (meaning w.top.running) state scratch (h - 1) after later (Some p)
    unfolding LiteralPassed
    pass-some l =
        at_top
        (λ x k. (running : Running nodes code state x n) → At (λ y m. ((v : Steppable nodes code state scratch y n) → Stepped (meaning v.running) state after scratch later y p) → y ≤ p.height → Advanced (meaning running) state scratch (alternative_at running.ss running.sh running.g nodes code state m) (resolvent (alternative_at running.ss running.sh running.g nodes code state m)) after later p) x k)
        (λ j running c s e f q. as-many nodes code state scratch j n running c s e w.top.roomy w.top.clean after later p (unfold steppable in f (steppable nodes code state scratch j n running c s e w.top.roomy w.top.clean)) q)
        h w.top.some w.top.running w.no_call w.no_split w.no_end given l
