-- Laws of the rows of the stack and of how much is left of them. Assumes nothing.
use Prim.Native.Nat.{ℕ, zero, suc, ◌+◌, ◌-◌, ◌*◌, ◌≤◌, ◌<◌}
use native.Mathlib.Omega.{arith}
use mathlib.Core.Path.{◌≡◌, refl, sym, ap, ◌∙◌, subst, subst⁻¹}
use mathlib.Core.Bool.{Bool, true, false}
use mathlib.Core.List.{List}
use lib.Dec.{eqb}
use borrow.Author.Tests.{eqb-true, eqb-false}
use Rattle.std.proofs.Math.Nat.{suc-mul, mul-lt-mul_of_pos_right, mul-le-mul_right}
use Rattle.run_layout.specs.Regions.{copies, pairs}
use Rattle.run_layout.specs.Nodes.{Symbol, Node, Row, terms_at, count}
use Rattle.bindings.specs.Scratch.{left_at, right_at}
use Rattle.bindings.specs.declared.stack.Side.{Side}
use Rattle.unify.specs.Stacks.{end_of}
use Rattle.unify.specs.Shapes.{SideRows, StackRows, power, most_left, weight, mass}

-- ---- weights

pub power-some : (b d : ℕ) → 0 < b → 0 < power b d
unfolding power
power-some b zero o = omega arith
power-some b (suc d) o = subst (λ (k : ℕ). k < b * power b d) (z (power b d)) (mul-lt-mul_of_pos_right o (power-some b d o))
  where
    z : (k : ℕ) → 0 * k ≡ 0
    z k = omega arith

power-step : (b d : ℕ) → power b (suc d) ≡ b * power b d
unfolding power
power-step b d = refl

weight-some : (k : ℕ) → 0 < weight k
weight-some k = power-some most_left (pairs - k) (omega arith)

-- a word of a row, and the rows above it
weight-above : (h : ℕ) → 1 ≤ h → h ≤ pairs → weight (h - 1) ≡ most_left * weight h
weight-above h o l = ap (power most_left) (let e : pairs - (h - 1) ≡ suc (pairs - h) = omega arith in e) ∙ power-step most_left (pairs - h)

-- ---- how much is left

pub mass-top : (nodes : List ℕ) (s : ℕ → Side) (k : ℕ) → mass nodes s (suc k) ≡ suc (end_of nodes (s k) - (s k).at) * weight k + mass nodes s k
unfolding mass
mass-top nodes s k = refl

pub mass-agrees : (nodes : List ℕ) (s t : ℕ → Side) (h : ℕ) → ((k : ℕ) → k < h → t k ≡ s k) → mass nodes t h ≡ mass nodes s h
unfolding mass
mass-agrees nodes s t zero a = refl
mass-agrees nodes s t (suc h) a =
    let older : mass nodes t h ≡ mass nodes s h = mass-agrees nodes s t h (λ k l. a k (omega arith)) in
    let here : t h ≡ s h = a h (omega arith) in
    λ i. suc (end_of nodes (here i) - (here i).at) * weight h + older i

mass-on : (nodes : List ℕ) (s : ℕ → Side) (h : ℕ) → 1 ≤ h → mass nodes s h ≡ suc (end_of nodes (s (h - 1)) - (s (h - 1)).at) * weight (h - 1) + mass nodes s (h - 1)
mass-on nodes s h o = ap (mass nodes s) (let e : h ≡ suc (h - 1) = omega arith in e) ∙ mass-top nodes s (h - 1)

module _ (nodes : List ℕ) (s t : ℕ → Side) (h : ℕ) (some : 1 ≤ h) (below : (k : ℕ) → k < h - 1 → t k ≡ s k) where
  -- the top row is gone
  pub mass-popped : mass nodes t (h - 1) < mass nodes s h
  mass-popped =
      let a : mass nodes t (h - 1) ≡ mass nodes s (h - 1) = mass-agrees nodes s t (h - 1) below in
      let b : mass nodes s h ≡ suc (end_of nodes (s (h - 1)) - (s (h - 1)).at) * weight (h - 1) + mass nodes s (h - 1) = mass-on nodes s h some in
      let c : suc (end_of nodes (s (h - 1)) - (s (h - 1)).at) * weight (h - 1) ≡ (end_of nodes (s (h - 1)) - (s (h - 1)).at) * weight (h - 1) + weight (h - 1) = suc-mul (end_of nodes (s (h - 1)) - (s (h - 1)).at) (weight (h - 1)) in
      let d : 0 < weight (h - 1) = weight-some (h - 1) in
      omega arith

  -- the top row is moved on
  pub mass-moved : (j : ℕ) → t (h - 1) ≡ record { root = (s (h - 1)).root; at = j; copy = (s (h - 1)).copy } → (s (h - 1)).at < j → j ≤ end_of nodes (s (h - 1)) → mass nodes t h + weight (h - 1) ≤ mass nodes s h
  mass-moved j e l o =
      let a : mass nodes t (h - 1) ≡ mass nodes s (h - 1) = mass-agrees nodes s t (h - 1) below in
      let b : mass nodes s h ≡ suc (end_of nodes (s (h - 1)) - (s (h - 1)).at) * weight (h - 1) + mass nodes s (h - 1) = mass-on nodes s h some in
      let c : mass nodes t h ≡ suc (end_of nodes (s (h - 1)) - j) * weight (h - 1) + mass nodes t (h - 1) = mass-on nodes t h some ∙ ap (λ (x : Side). suc (end_of nodes x - x.at) * weight (h - 1) + mass nodes t (h - 1)) e in
      let d : suc (suc (end_of nodes (s (h - 1)) - j)) * weight (h - 1) ≤ suc (end_of nodes (s (h - 1)) - (s (h - 1)).at) * weight (h - 1) = mul-le-mul_right (weight (h - 1)) (let i : suc (suc (end_of nodes (s (h - 1)) - j)) ≤ suc (end_of nodes (s (h - 1)) - (s (h - 1)).at) = omega arith in i) in
      let f : suc (suc (end_of nodes (s (h - 1)) - j)) * weight (h - 1) ≡ suc (end_of nodes (s (h - 1)) - j) * weight (h - 1) + weight (h - 1) = suc-mul (suc (end_of nodes (s (h - 1)) - j)) (weight (h - 1)) in
      omega arith

-- a row is laid on top
pub mass-pushed : (nodes : List ℕ) (s t : ℕ → Side) (h : ℕ) → 1 ≤ h → h < pairs → ((k : ℕ) → k < h → t k ≡ s k) → suc (end_of nodes (t h) - (t h).at) < most_left → mass nodes t (suc h) < mass nodes s h + weight (h - 1)
mass-pushed nodes s t h some l below few =
    let a : mass nodes t h ≡ mass nodes s h = mass-agrees nodes s t h below in
    let b : mass nodes t (suc h) ≡ suc (end_of nodes (t h) - (t h).at) * weight h + mass nodes t h = mass-top nodes t h in
    let c : suc (end_of nodes (t h) - (t h).at) * weight h < most_left * weight h = mul-lt-mul_of_pos_right few (weight-some h) in
    let d : weight (h - 1) ≡ most_left * weight h = weight-above h some (omega arith) in
    omega arith

-- it is never more than that
abbrev pub heaviest : ℕ
heaviest = power most_left (suc pairs)

pub mass-bounded : (nodes : List ℕ) (s : ℕ → Side) (h : ℕ) → h ≤ pairs → ((k : ℕ) → k < h → suc (end_of nodes (s k) - (s k).at) < most_left) → mass nodes s h + power most_left (suc pairs - h) ≤ heaviest
unfolding mass
mass-bounded nodes s zero l few = omega arith
mass-bounded nodes s (suc h) l few =
    let a : mass nodes s h + power most_left (suc pairs - h) ≤ heaviest = mass-bounded nodes s h (omega arith) (λ k o. few k (omega arith)) in
    let b : power most_left (suc pairs - h) ≡ most_left * weight h = ap (power most_left) (let e : suc pairs - h ≡ suc (pairs - h) = omega arith in e) ∙ power-step most_left (pairs - h) in
    let c : suc (suc (end_of nodes (s h) - (s h).at)) * weight h ≤ most_left * weight h = mul-le-mul_right (weight h) (few h (omega arith)) in
    let d : suc (suc (end_of nodes (s h) - (s h).at)) * weight h ≡ suc (end_of nodes (s h) - (s h).at) * weight h + weight h = suc-mul (suc (end_of nodes (s h) - (s h).at)) (weight h) in
    let f : suc pairs - suc h ≡ pairs - h = omega arith in
    subst⁻¹ (λ (k : ℕ). suc (end_of nodes (s h) - (s h).at) * weight h + mass nodes s h + power most_left k ≤ heaviest) f (omega arith)

-- ---- one side

pub side-agrees : (ss : List Symbol) (nodes : List ℕ) (top : ℕ) (s t : ℕ → Side) (h : ℕ) → ((k : ℕ) → k < h → t k ≡ s k) → SideRows ss nodes top s h → SideRows ss nodes top t h
side-agrees ss nodes top s t h a f =
    record {
      node = λ k l. subst⁻¹ (λ (x : Side). Node ss nodes x.root) (a k l) (f.node k l);
      copy = λ k l. subst⁻¹ (λ (x : Side). x.copy < copies) (a k l) (f.copy k l);
      below = λ k l. subst⁻¹ (λ (x : Side). x.copy ≤ top) (a k l) (f.below k l);
      row = λ k l. subst⁻¹ (λ (x : Side). Row ss nodes x.at (end_of nodes x)) (a k l) (f.row k l);
    }

pub side-less : (ss : List Symbol) (nodes : List ℕ) (top : ℕ) (s : ℕ → Side) (h j : ℕ) → j ≤ h → SideRows ss nodes top s h → SideRows ss nodes top s j
side-less ss nodes top s h j l f =
    record { node = λ k q. f.node k (omega arith); copy = λ k q. f.copy k (omega arith); below = λ k q. f.below k (omega arith); row = λ k q. f.row k (omega arith) }

-- a side x on top of those before
pub side-topped : (ss : List Symbol) (nodes : List ℕ) (top : ℕ) (s t : ℕ → Side) (h : ℕ) (x : Side) → ((k : ℕ) → k < h → t k ≡ s k) → t h ≡ x → Node ss nodes x.root → x.copy < copies → x.copy ≤ top → Row ss nodes x.at (end_of nodes x) → SideRows ss nodes top s h → SideRows ss nodes top t (suc h)
side-topped ss nodes top s t h x a e node copy below row f =
    record {
      node = λ k l. at (λ (y : Side). Node ss nodes y.root) k l (f.node k) node (eqb k h) refl;
      copy = λ k l. at (λ (y : Side). y.copy < copies) k l (f.copy k) copy (eqb k h) refl;
      below = λ k l. at (λ (y : Side). y.copy ≤ top) k l (f.below k) below (eqb k h) refl;
      row = λ k l. at (λ (y : Side). Row ss nodes y.at (end_of nodes y)) k l (f.row k) row (eqb k h) refl;
    }
  where
    at : (P : Side → Type 0) (k : ℕ) → k < suc h → (k < h → P (s k)) → P x → (q : Bool) → eqb k h ≡ q → P (t k)
    at P k l low here true q = subst⁻¹ (λ (i : ℕ). P (t i)) (eqb-true k h q) (subst⁻¹ P e here)
    at P k l low here false q = let z : k ≡ h → ⊥ = eqb-false k h q in let m : k < h = omega (arith, z) in subst⁻¹ P (a k m) (low m)

-- ---- both sides

pub rows-agreed : (ss : List Symbol) (nodes : List ℕ) (top : ℕ) (before after : List ℕ) (h : ℕ) → ((k : ℕ) → k < h → left_at after k ≡ left_at before k) → ((k : ℕ) → k < h → right_at after k ≡ right_at before k) → StackRows ss nodes top before h → StackRows ss nodes top after h
rows-agreed ss nodes top before after h a c w =
    record {
      low = w.low;
      left = side-agrees ss nodes top (left_at before) (left_at after) h a w.left;
      right = side-agrees ss nodes top (right_at before) (right_at after) h c w.right;
      same = λ k q x y. ap (λ (s : Side). count (terms_at ss nodes s.at (end_of nodes s) x)) (a k q) ∙ (w.same k q x y ∙ sym (ap (λ (s : Side). count (terms_at ss nodes s.at (end_of nodes s) y)) (c k q)));
    }

pub rows-less : (ss : List Symbol) (nodes : List ℕ) (top : ℕ) (scratch : List ℕ) (h j : ℕ) → j ≤ h → StackRows ss nodes top scratch h → StackRows ss nodes top scratch j
rows-less ss nodes top scratch h j l w =
    record { low = (let z : h ≤ pairs = w.low in omega arith); left = side-less ss nodes top (left_at scratch) h j l w.left; right = side-less ss nodes top (right_at scratch) h j l w.right; same = λ k q. w.same k (omega arith) }

-- two rows of as many terms on top of those before
pub rows-topped : (ss : List Symbol) (nodes : List ℕ) (top : ℕ) (before after : List ℕ) (h : ℕ) (x y : Side) → h < pairs
    → ((k : ℕ) → k < h → left_at after k ≡ left_at before k) → left_at after h ≡ x → ((k : ℕ) → k < h → right_at after k ≡ right_at before k) → right_at after h ≡ y
    → SideRows ss nodes top (λ k. x) 1 → SideRows ss nodes top (λ k. y) 1
    → ((c d : ℕ) → count (terms_at ss nodes x.at (end_of nodes x) c) ≡ count (terms_at ss nodes y.at (end_of nodes y) d)) → StackRows ss nodes top before h → StackRows ss nodes top after (suc h)
rows-topped ss nodes top before after h x y l a e c f left right same w =
    record {
      low = omega arith;
      left = side-topped ss nodes top (left_at before) (left_at after) h x a e (left.node 0 (omega arith)) (left.copy 0 (omega arith)) (left.below 0 (omega arith)) (left.row 0 (omega arith)) w.left;
      right = side-topped ss nodes top (right_at before) (right_at after) h y c f (right.node 0 (omega arith)) (right.copy 0 (omega arith)) (right.below 0 (omega arith)) (right.row 0 (omega arith)) w.right;
      same = λ k q i j. at k q i j (eqb k h) refl;
    }
  where
    at : (k : ℕ) → k < suc h → (i j : ℕ) → (z : Bool) → eqb k h ≡ z → count (terms_at ss nodes (left_at after k).at (end_of nodes (left_at after k)) i) ≡ count (terms_at ss nodes (right_at after k).at (end_of nodes (right_at after k)) j)
    at k q i j true z =
        ap (λ (s : Side). count (terms_at ss nodes s.at (end_of nodes s) i)) (ap (left_at after) (eqb-true k h z) ∙ e)
        ∙ (same i j ∙ sym (ap (λ (s : Side). count (terms_at ss nodes s.at (end_of nodes s) j)) (ap (right_at after) (eqb-true k h z) ∙ f)))
    at k q i j false z =
        let o : k < h = (let n : k ≡ h → ⊥ = eqb-false k h z in omega (arith, n)) in
        ap (λ (s : Side). count (terms_at ss nodes s.at (end_of nodes s) i)) (a k o)
        ∙ (w.same k o i j ∙ sym (ap (λ (s : Side). count (terms_at ss nodes s.at (end_of nodes s) j)) (c k o)))
