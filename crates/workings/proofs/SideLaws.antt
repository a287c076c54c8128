-- Laws of a bracket's sides. Assumes nothing.
use Prim.Native.Nat.{ℕ, suc, ◌-◌, ◌≤◌}
use native.Mathlib.Omega.{arith}
use mathlib.Core.Path.{◌≡◌, sym, ap, ◌∙◌, subst, subst⁻¹}
use mathlib.Core.Bool.{true, false, ◌&&◌}
use mathlib.Core.List.{List, ◌∷◌, ◌++◌}
use Rattle.std.specs.Prelude.{Some}
use lib.Dec.{leb}
use lib.ListN.{length}
use Rattle.syntax.specs.Limits.{longest_path}
use Rattle.syntax.specs.Terms.{either, Body, Sheet, Goal}
use Rattle.machine.specs.Machine.{Pending, Alternative, path, pending, gone, worked, worked_on, outcome, step}
use Rattle.machine.specs.Low.{LiteralFilled, AllFilled, Low}
use Rattle.machine.specs.Runs.{tries_with, tries_first, goes_deeper}
use Rattle.machine_theorems.proofs.Low.{low_step}
use Rattle.run_layout.specs.Regions.{split_kind}
use Rattle.run_layout.specs.Nodes.{Symbol}
use Rattle.run_layout.specs.Program.{record_kind}
use Rattle.run_layout.specs.Pile.{rest_from, copy_at, literal_at, alternative_at, pile_of}
use Rattle.run_layout.proofs.Pile.{pile-count, popped}
use Rattle.run_layout.specs.Rooms.{Clean}
use Rattle.bindings.specs.Scratch.{Roomy}
use Rattle.run.specs.Meanings.{PiledIn}
use Rattle.run.specs.Steps.{Running, meaning, Steppable, Stepped}
use Rattle.run.specs.declared.alternatives.PileHeight.{PileHeight}
use Rattle.run.proofs.TopLaws.{at_top, tail-eq}
use Rattle.derivations.proofs.StepLaws.{Parts, bracket-parts}
use Rattle.workings.specs.Choices.{SideTakable, Advanced, ChoiceMade, side}
use Rattle.workings.proofs.DueLaws.{SplitHead, split, behind-split, bracket-stands}
use Rattle.derivations.specs.Workings.{led}
use Rattle.derivations.specs.Resolvents.{resolvent}

-- the top, alternative j of suc j
module _ (nodes code state scratch : List ℕ) (j n : ℕ) (running : Running nodes code state (suc j) n) (kind : record_kind code (literal_at state j) ≡ split_kind) where
  abbrev ss : List Symbol
  ss = running.ss

  abbrev sh : Sheet
  sh = running.sh

  abbrev g : Goal
  g = running.g

  abbrev top : Alternative
  top = alternative_at ss sh g nodes code state j

  abbrev below : List Alternative
  below = pile_of ss sh g nodes code state j

  abbrev head : SplitHead (rest_from sh g code state (copy_at state j) (literal_at state j))
  head = split nodes code state j n running kind

  abbrev rest : List Pending
  rest = behind-split nodes code state j n running kind

  stands-at : top.literals ≡ record { copy = copy_at state j; literal = either head.left head.right } ∷ rest
  stands-at = bracket-stands nodes code state j n running kind

  goes : goes_deeper sh (pile_of ss sh g nodes code state (suc j)) ≡ false
  unfolding goes_deeper pile_of tries_first tries_with
  goes = ap (λ (ls : List Pending). tries_first sh top ls && leb longest_path (path top)) stands-at

  abbrev one : Body → Alternative
  one y = gone sh top (pending (copy_at state j) y rest) top.bindings

  step-is : step sh (pile_of ss sh g nodes code state (suc j)) ≡ one head.left ∷ one head.right ∷ below
  unfolding step outcome worked_on worked pile_of
  step-is = ap (λ (ls : List Pending). worked_on sh top ls ++ below) stands-at

  filled : LiteralFilled (either head.left head.right)
  unfolding pile_of
  filled = (subst AllFilled stands-at running.low.0.filled).0

  parts : Parts sh top below (copy_at state j) rest head.left head.right
  parts = bracket-parts sh top below (copy_at state j) rest head.left head.right stands-at filled

  low-is : Low (one head.left ∷ one head.right ∷ below)
  low-is = subst Low step-is (low_step sh running.piled.program.bodies_short (pile_of ss sh g nodes code state (suc j)) running.low)

  module _ (roomy : Roomy scratch) (clean : Clean scratch) where
    pub steppable : Steppable nodes code state scratch (suc j) n
    steppable = record { running = running; some = omega arith; goes = goes; roomy = roomy; clean = clean }

    module _ (after later : List ℕ) (p : PileHeight) (s : Stepped (meaning running) state after scratch later (suc j) p) where
      pile-is : pile_of ss sh g nodes code after p.height ≡ one head.left ∷ one head.right ∷ below
      pile-is = s.is ∙ step-is

      pub count : p.height ≡ suc (suc j)
      count = omega (arith, sym (pile-count ss sh g nodes code after p.height), ap (λ (x : List Alternative). length x) pile-is, pile-count ss sh g nodes code state j)

      pub left-sided : Advanced (meaning running) state scratch top (led sh (side false) (resolvent top)) after later p
      left-sided =
          record { new = one head.left; others = one head.right ∷ below; is = pile-is; stands = parts.left_is; falls = parts.left_falls; low = subst⁻¹ Low pile-is low-is; piled = s.piled; state_long = s.state_long; clean = s.clean; scratch_long = s.scratch_long }

      pub right-sided : (k : ℕ) → p.height ≡ suc k → Advanced (meaning running) state scratch top (led sh (side true) (resolvent top)) after later (record { height = k; trail = p.trail })
      unfolding pile_of
      right-sided k e =
          let is : pile_of ss sh g nodes code after k ≡ one head.right ∷ below =
          tail-eq (alternative_at ss sh g nodes code after k) (one head.left) (pile_of ss sh g nodes code after k) (one head.right ∷ below) (ap (λ (x : ℕ). pile_of ss sh g nodes code after x) (sym e) ∙ pile-is) in
          record { new = one head.right; others = below; is = is; stands = parts.right_is; falls = parts.right_falls; low = subst⁻¹ Low is low-is.1; piled = popped ss sh g nodes code after k p.trail (subst (λ (x : ℕ). PiledIn (meaning running) after x p.trail) e s.piled); state_long = s.state_long; clean = s.clean; scratch_long = s.scratch_long }

-- ---- for a height and the number below it

module _ {nodes code state scratch : List ℕ} {h n : ℕ} (w : SideTakable nodes code state scratch h n) where
  pub side-steppable : Steppable nodes code state scratch h n
  side-steppable =
      at_top (λ x k. Running nodes code state x n → record_kind code (literal_at state k) ≡ split_kind → Steppable nodes code state scratch x n)
      (λ j running e. steppable nodes code state scratch j n running e w.top.roomy w.top.clean) h w.top.some w.top.running w.kind

  module _ (after later : List ℕ) (p : PileHeight) (given : (v : Steppable nodes code state scratch h n) → Stepped (meaning v.running) state after scratch later h p) where
    pub side-some : 1 ≤ p.height
    side-some =
        at_top (λ x k. Running nodes code state x n → record_kind code (literal_at state k) ≡ split_kind → ((v : Steppable nodes code state scratch x n) → Stepped (meaning v.running) state after scratch later x p) → 1 ≤ p.height)
        (λ j running e f. omega (arith, count nodes code state scratch j n running e w.top.roomy w.top.clean after later p (unfold steppable in f (steppable nodes code state scratch j n running e w.top.roomy w.top.clean)))) h w.top.some w.top.running w.kind given

    pub side-left : ChoiceMade (meaning w.top.running) state scratch (h - 1) (side false) after later (Some p)
    unfolding ChoiceMade
    side-left =
        at_top (λ x k. (running : Running nodes code state x n) → record_kind code (literal_at state k) ≡ split_kind → ((v : Steppable nodes code state scratch x n) → Stepped (meaning v.running) state after scratch later x p) → ChoiceMade (meaning running) state scratch k (side false) after later (Some p))
        (λ j running e f. left-sided nodes code state scratch j n running e w.top.roomy w.top.clean after later p (unfold steppable in f (steppable nodes code state scratch j n running e w.top.roomy w.top.clean))) h w.top.some w.top.running w.kind given

    pub side-right : ChoiceMade (meaning w.top.running) state scratch (h - 1) (side true) after later (Some (record { height = p.height - 1; trail = p.trail }))
    unfolding ChoiceMade
    side-right =
        at_top (λ x k. (running : Running nodes code state x n) → record_kind code (literal_at state k) ≡ split_kind → ((v : Steppable nodes code state scratch x n) → Stepped (meaning v.running) state after scratch later x p) → ChoiceMade (meaning running) state scratch k (side true) after later (Some (record { height = p.height - 1; trail = p.trail })))
        (λ j running e f. right-sided nodes code state scratch j n running e w.top.roomy w.top.clean after later p (unfold steppable in f (steppable nodes code state scratch j n running e w.top.roomy w.top.clean)) (p.height - 1) (let z : 1 ≤ p.height = side-some in omega arith)) h w.top.some w.top.running w.kind given
