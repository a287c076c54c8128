-- Laws of the work stack. Assumes nothing.
use Prim.Native.Nat.{ℕ, zero, suc, ◌+◌, ◌-◌, ◌*◌, ◌≤◌, ◌<◌}
use native.Mathlib.Omega.{arith}
use mathlib.Core.Path.{◌≡◌, refl, sym, ap, ap₂, ◌∙◌, subst, subst⁻¹}
use mathlib.Core.Bool.{Bool, true, false}
use mathlib.Core.List.{List, [], ◌∷◌, ◌++◌, append_assoc}
use mathlib.Core.Logic.{◌⊎◌, inl, inr}
use lib.Dec.{ltb, eqb}
use lib.ListN.{length, get_or, set, length-set}
use lib.Seq.{get_or-set_same, get_or-set_other}
use borrow.Author.Tests.{ltb-true, ltb-false, eqb-true, eqb-false}
use Rattle.syntax.specs.Words.{first_name}
use Rattle.machine.specs.Substitution.{RTerm, var, replace, Binding, resolve}
use Rattle.run_layout.specs.Regions.{cut_list, copies, cells, stack, big_pairs, pairs, pair_of, loaded_node, side_size, pair_size}
use Rattle.run_layout.specs.Nodes.{Symbol, name_of_symbol, Node, Row, term_at, terms_at, followed, count}
use Rattle.run_layout.specs.State.{variable_of}
use Rattle.run_layout.proofs.Nodes.{compound-at, compound-row}
use Rattle.run_layout.proofs.Pigeonhole.{pigeonhole}
use Rattle.bindings.specs.Scratch.{stack_side, stack_side_words, left_at, right_at, pair_words, SameMarks}
use Rattle.run_layout.specs.declared.terms.At.{At}
use Rattle.bindings.specs.declared.stack.Side.{Side}
use Rattle.unify.specs.Rows.{nodes_of, rows_size}
use Rattle.unify.specs.Stacks.{inner_row, end_of, whole_of, row_of, rows_of, StackSide, OpenedByCell, Stack}
use Rattle.unify.proofs.Rowwise.{size-app}

-- ---- words

module _ (words : List ℕ) (i : ℕ) (s : Side) (fits : i + side_size ≤ length words) where
  long1 : length (set words i s.root) ≡ length words
  long1 = length-set words i s.root

  long2 : length (set (set words i s.root) (i + 1) s.at) ≡ length words
  long2 = length-set (set words i s.root) (i + 1) s.at ∙ long1

  pub side-long : length (stack_side_words words i s) ≡ length words
  unfolding stack_side_words
  side-long = length-set (set (set words i s.root) (i + 1) s.at) (i + 2) s.copy ∙ long2

  pub side-others : (j : ℕ) → (j < i) ⊎ (i + side_size ≤ j) → get_or (stack_side_words words i s) j 0 ≡ get_or words j 0
  unfolding stack_side_words
  side-others j (inl l) = get_or-set_other (set (set words i s.root) (i + 1) s.at) (i + 2) j s.copy 0 (λ e. omega arith) ∙ (get_or-set_other (set words i s.root) (i + 1) j s.at 0 (λ e. omega arith) ∙ get_or-set_other words i j s.root 0 (λ e. omega arith))
  side-others j (inr l) = get_or-set_other (set (set words i s.root) (i + 1) s.at) (i + 2) j s.copy 0 (λ e. omega arith) ∙ (get_or-set_other (set words i s.root) (i + 1) j s.at 0 (λ e. omega arith) ∙ get_or-set_other words i j s.root 0 (λ e. omega arith))

  pub side-here : stack_side (stack_side_words words i s) i ≡ s
  unfolding stack_side_words
  side-here =
      let a : get_or (set (set (set words i s.root) (i + 1) s.at) (i + 2) s.copy) i 0 ≡ s.root = get_or-set_other (set (set words i s.root) (i + 1) s.at) (i + 2) i s.copy 0 (λ e. omega arith) ∙ (get_or-set_other (set words i s.root) (i + 1) i s.at 0 (λ e. omega arith) ∙ get_or-set_same words i s.root 0 (omega arith)) in
      let b : get_or (set (set (set words i s.root) (i + 1) s.at) (i + 2) s.copy) (i + 1) 0 ≡ s.at = get_or-set_other (set (set words i s.root) (i + 1) s.at) (i + 2) (i + 1) s.copy 0 (λ e. omega arith) ∙ get_or-set_same (set words i s.root) (i + 1) s.at 0 (let e : length (set words i s.root) ≡ length words = long1 in omega arith) in
      let c : get_or (set (set (set words i s.root) (i + 1) s.at) (i + 2) s.copy) (i + 2) 0 ≡ s.copy = get_or-set_same (set (set words i s.root) (i + 1) s.at) (i + 2) s.copy 0 (let e : length (set (set words i s.root) (i + 1) s.at) ≡ length words = long2 in omega arith) in
      λ k. record { root = a k; at = b k; copy = c k }

-- a side whose words are as they were
side-kept : (before after : List ℕ) (i : ℕ) → ((j : ℕ) → i ≤ j → j < i + side_size → get_or after j 0 ≡ get_or before j 0) → stack_side after i ≡ stack_side before i
side-kept before after i k =
    let a : get_or after i 0 ≡ get_or before i 0 = k i (omega arith) (omega arith) in
    let b : get_or after (i + 1) 0 ≡ get_or before (i + 1) 0 = k (i + 1) (omega arith) (omega arith) in
    let c : get_or after (i + 2) 0 ≡ get_or before (i + 2) 0 = k (i + 2) (omega arith) (omega arith) in
    λ x. record { root = a x; at = b x; copy = c x }

module _ (scratch : List ℕ) (k : ℕ) (l0 r0 : Side) (fits : pair_of k + pair_size ≤ length scratch) where
  first : List ℕ
  first = stack_side_words scratch (pair_of k) l0

  first-long : length (stack_side_words scratch (pair_of k) l0) ≡ length scratch
  first-long = side-long scratch (pair_of k) l0 (omega arith)

  fits-two : pair_of k + side_size + side_size ≤ length (stack_side_words scratch (pair_of k) l0)
  fits-two = let e : length (stack_side_words scratch (pair_of k) l0) ≡ length scratch = first-long in omega arith

  pub pair-long : length (pair_words scratch k l0 r0) ≡ length scratch
  unfolding pair_words
  pair-long = side-long (stack_side_words scratch (pair_of k) l0) (pair_of k + side_size) r0 fits-two ∙ first-long

  pub pair-others : (j : ℕ) → (j < pair_of k) ⊎ (pair_of k + pair_size ≤ j) → get_or (pair_words scratch k l0 r0) j 0 ≡ get_or scratch j 0
  unfolding pair_words
  pair-others j (inl l) = side-others (stack_side_words scratch (pair_of k) l0) (pair_of k + side_size) r0 fits-two j (inl (omega arith)) ∙ side-others scratch (pair_of k) l0 (omega arith) j (inl (omega arith))
  pair-others j (inr l) = side-others (stack_side_words scratch (pair_of k) l0) (pair_of k + side_size) r0 fits-two j (inr (omega arith)) ∙ side-others scratch (pair_of k) l0 (omega arith) j (inr (omega arith))

  pub pair-marks : SameMarks scratch (pair_words scratch k l0 r0)
  pair-marks = record { long = pair-long; words = λ j l. pair-others j (inl (omega arith)) }

  pub pair_left : left_at (pair_words scratch k l0 r0) k ≡ l0
  unfolding pair_words
  pair_left =
      side-kept (stack_side_words scratch (pair_of k) l0) (stack_side_words (stack_side_words scratch (pair_of k) l0) (pair_of k + side_size) r0) (pair_of k)
      (λ j l h. side-others (stack_side_words scratch (pair_of k) l0) (pair_of k + side_size) r0 fits-two j (inl (omega arith)))
      ∙ side-here scratch (pair_of k) l0 (omega arith)

  pub pair-right : right_at (pair_words scratch k l0 r0) k ≡ r0
  unfolding pair_words
  pair-right = side-here (stack_side_words scratch (pair_of k) l0) (pair_of k + side_size) r0 fits-two

  pub pair-left-others : (j : ℕ) → (j ≡ k → ⊥) → left_at (pair_words scratch k l0 r0) j ≡ left_at scratch j
  pair-left-others j z = side-kept scratch (pair_words scratch k l0 r0) (pair_of j) (λ i l h. pair-others i (go i l h (ltb j k) refl))
    where
      go : (i : ℕ) → pair_of j ≤ i → i < pair_of j + side_size → (b : Bool) → ltb j k ≡ b → (i < pair_of k) ⊎ (pair_of k + pair_size ≤ i)
      go i l h true e = inl (let q : j < k = ltb-true j k e in omega arith)
      go i l h false e = inr (let q : k ≤ j = ltb-false j k e in omega (arith, z))

  pub pair-right-others : (j : ℕ) → (j ≡ k → ⊥) → right_at (pair_words scratch k l0 r0) j ≡ right_at scratch j
  pair-right-others j z = side-kept scratch (pair_words scratch k l0 r0) (pair_of j + side_size) (λ i l h. pair-others i (go i l h (ltb j k) refl))
    where
      go : (i : ℕ) → pair_of j + side_size ≤ i → i < pair_of j + side_size + 3 → (b : Bool) → ltb j k ≡ b → (i < pair_of k) ⊎ (pair_of k + pair_size ≤ i)
      go i l h true e = inl (let q : j < k = ltb-true j k e in omega arith)
      go i l h false e = inr (let q : k ≤ j = ltb-false j k e in omega (arith, z))

-- words from 32,768 on as they were: the pairs are as they were
pub left-kept : (before after : List ℕ) → ((j : ℕ) → stack ≤ j → j < cut_list → get_or after j 0 ≡ get_or before j 0) → (k : ℕ) → k < pairs → left_at after k ≡ left_at before k
left-kept before after w k o = side-kept before after (pair_of k) (λ j l h. w j (omega arith) (omega arith))

pub right_kept : (before after : List ℕ) → ((j : ℕ) → stack ≤ j → j < cut_list → get_or after j 0 ≡ get_or before j 0) → (k : ℕ) → k < pairs → right_at after k ≡ right_at before k
right_kept before after w k o = side-kept before after (pair_of k + side_size) (λ j l h. w j (omega arith) (omega arith))

-- words before the memo as they were: so are the pairs of a stack that is not too high
pub left-front : (before after : List ℕ) → ((j : ℕ) → j < cut_list → get_or after j 0 ≡ get_or before j 0) → (k : ℕ) → k < pairs → left_at after k ≡ left_at before k
left-front before after w k o = side-kept before after (pair_of k) (λ j l h. w j (omega arith))

pub right-front : (before after : List ℕ) → ((j : ℕ) → j < cut_list → get_or after j 0 ≡ get_or before j 0) → (k : ℕ) → k < pairs → right_at after k ≡ right_at before k
right-front before after w k o = side-kept before after (pair_of k + side_size) (λ j l h. w j (omega arith))

-- ---- rows

pub rows_agree : (ss : List Symbol) (nodes : List ℕ) (s t : ℕ → Side) (h : ℕ) → ((k : ℕ) → k < h → t k ≡ s k) → rows_of ss nodes t h ≡ rows_of ss nodes s h
unfolding rows_of
rows_agree ss nodes s t zero a = refl
rows_agree ss nodes s t (suc h) a = ap₂ followed (ap (row_of ss nodes) (a h (omega arith))) (rows_agree ss nodes s t h (λ k l. a k (omega arith)))

pub rows-top : (ss : List Symbol) (nodes : List ℕ) (s : ℕ → Side) (h : ℕ) → rows_of ss nodes s (suc h) ≡ followed (row_of ss nodes (s h)) (rows_of ss nodes s h)
unfolding rows_of
rows-top ss nodes s h = refl

-- ---- one side

pub half-agrees : (ss : List Symbol) (nodes : List ℕ) (b : List Binding) (top : ℕ) (s t : ℕ → Side) (h : ℕ) → ((k : ℕ) → k < h → t k ≡ s k) → StackSide ss nodes b top s h → StackSide ss nodes b top t h
half-agrees ss nodes b top s t h a f =
    record {
      node = λ k l. subst⁻¹ (λ (x : Side). Node ss nodes x.root) (a k l) (f.node k l);
      copy = λ k l. subst⁻¹ (λ (x : Side). x.copy < copies) (a k l) (f.copy k l);
      below = λ k l. subst⁻¹ (λ (x : Side). x.copy ≤ top) (a k l) (f.below k l);
      row = λ k l. subst⁻¹ (λ (x : Side). Row ss nodes x.at (end_of nodes x)) (a k l) (f.row k l);
      small = λ k o l newer. subst⁻¹ (λ (x : Side). rows_size (newer ++ b) (row_of ss nodes x) < nodes_of (resolve (newer ++ b) (whole_of ss nodes x))) (a k l) (f.small k o l newer);
      down = λ k o l newer. subst⁻¹ (λ (x : Side). nodes_of (resolve (newer ++ b) (whole_of ss nodes (t (k + 1)))) < nodes_of (resolve (newer ++ b) (whole_of ss nodes x))) (a k (omega arith))
          (subst⁻¹ (λ (x : Side). nodes_of (resolve (newer ++ b) (whole_of ss nodes x)) < nodes_of (resolve (newer ++ b) (whole_of ss nodes (s k)))) (a (k + 1) l) (f.down k o l newer));
    }

pub half-less : (ss : List Symbol) (nodes : List ℕ) (b : List Binding) (top : ℕ) (s : ℕ → Side) (h j : ℕ) → j ≤ h → StackSide ss nodes b top s h → StackSide ss nodes b top s j
half-less ss nodes b top s h j l f =
    record {
      node = λ k q. f.node k (omega arith);
      copy = λ k q. f.copy k (omega arith);
      below = λ k q. f.below k (omega arith);
      row = λ k q. f.row k (omega arith);
      small = λ k o q. f.small k o (omega arith);
      down = λ k o q. f.down k o (omega arith);
    }

-- one binding more
pub half-bound : (ss : List Symbol) (nodes : List ℕ) (b : List Binding) (e : Binding) (top : ℕ) (s : ℕ → Side) (h : ℕ) → StackSide ss nodes b top s h → StackSide ss nodes (e ∷ b) top s h
half-bound ss nodes b e top s h f =
    record {
      node = f.node;
      copy = f.copy;
      below = f.below;
      row = f.row;
      small = λ k o l newer. subst (λ (x : List Binding). rows_size x (row_of ss nodes (s k)) < nodes_of (resolve x (whole_of ss nodes (s k)))) (append_assoc newer (e ∷ []) b) (f.small k o l (newer ++ (e ∷ [])));
      down = λ k o l newer. subst (λ (x : List Binding). nodes_of (resolve x (whole_of ss nodes (s (k + 1)))) < nodes_of (resolve x (whole_of ss nodes (s k)))) (append_assoc newer (e ∷ []) b) (f.down k o l (newer ++ (e ∷ [])));
    }

-- a side x on top of those before
module _ {s t : ℕ → Side} {h : ℕ} (x : Side) (a : (k : ℕ) → k < h → t k ≡ s k) (e : t h ≡ x) where
  on-top : (P : Side → Type 0) {k : ℕ} → k < suc h → (k < h → P (s k)) → (k ≡ h → P x) → P (t k)
  on-top P {k} l low here = by (eqb k h) refl
    where
      by : (q : Bool) → eqb k h ≡ q → P (t k)
      by true q = let z : k ≡ h = eqb-true k h q in subst⁻¹ (λ (i : ℕ). P (t i)) z (subst⁻¹ P e (here z))
      by false q = let z : k ≡ h → ⊥ = eqb-false k h q in let m : k < h = omega (arith, z) in subst⁻¹ P (a k m) (low m)

  half-topped : {ss : List Symbol} {nodes : List ℕ} {b : List Binding} {top : ℕ} → Node ss nodes x.root → x.copy < copies → x.copy ≤ top → Row ss nodes x.at (end_of nodes x) → (1 ≤ h → (newer : List Binding) → rows_size (newer ++ b) (row_of ss nodes x) < nodes_of (resolve (newer ++ b) (whole_of ss nodes x)))
      → (2 ≤ h → (newer : List Binding) → nodes_of (resolve (newer ++ b) (whole_of ss nodes x)) < nodes_of (resolve (newer ++ b) (whole_of ss nodes (s (h - 1))))) → StackSide ss nodes b top s h → StackSide ss nodes b top t (suc h)
  half-topped {ss} {nodes} {b} {top} node copy below row small inside f =
      record {
        node = λ k l. on-top (λ (y : Side). Node ss nodes y.root) l (f.node k) (λ z. node);
        copy = λ k l. on-top (λ (y : Side). y.copy < copies) l (f.copy k) (λ z. copy);
        below = λ k l. on-top (λ (y : Side). y.copy ≤ top) l (f.below k) (λ z. below);
        row = λ k l. on-top (λ (y : Side). Row ss nodes y.at (end_of nodes y)) l (f.row k) (λ z. row);
        small = λ k o l newer. on-top (λ (y : Side). rows_size (newer ++ b) (row_of ss nodes y) < nodes_of (resolve (newer ++ b) (whole_of ss nodes y))) l (λ m. f.small k o m newer) (λ z. small (omega arith) newer);
        down = λ k o l newer. subst⁻¹ (λ (y : Side). nodes_of (resolve (newer ++ b) (whole_of ss nodes (t (k + 1)))) < nodes_of (resolve (newer ++ b) (whole_of ss nodes y))) (a k (omega arith))
            (on-top (λ (y : Side). nodes_of (resolve (newer ++ b) (whole_of ss nodes y)) < nodes_of (resolve (newer ++ b) (whole_of ss nodes (s k)))) l (λ m. f.down k o m newer)
            (λ z. subst (λ (i : ℕ). nodes_of (resolve (newer ++ b) (whole_of ss nodes x)) < nodes_of (resolve (newer ++ b) (whole_of ss nodes (s i)))) (let i : h - 1 ≡ k = omega arith in i) (inside (omega arith) newer)));
      }

-- the top moved on within its row
pub half-moved : (ss : List Symbol) (nodes : List ℕ) (b : List Binding) (top : ℕ) (s t : ℕ → Side) (h j : ℕ) → ((k : ℕ) → k < h → t k ≡ s k) → t h ≡ record { root = (s h).root; at = j; copy = (s h).copy } → Row ss nodes j (end_of nodes (s h))
    → ((x : List Binding) → rows_size x (terms_at ss nodes j (end_of nodes (s h)) (s h).copy) ≤ rows_size x (row_of ss nodes (s h))) → StackSide ss nodes b top s (suc h) → StackSide ss nodes b top t (suc h)
half-moved ss nodes b top s t h j a e r less f =
    half-topped (record { root = (s h).root; at = j; copy = (s h).copy }) a e (f.node h (omega arith)) (f.copy h (omega arith)) (f.below h (omega arith)) r
    (λ o newer. (let x : rows_size (newer ++ b) (row_of ss nodes (s h)) < nodes_of (resolve (newer ++ b) (whole_of ss nodes (s h))) = f.small h o (omega arith) newer in
    let y : rows_size (newer ++ b) (terms_at ss nodes j (end_of nodes (s h)) (s h).copy) ≤ rows_size (newer ++ b) (row_of ss nodes (s h)) = less (newer ++ b) in
    omega arith))
    (λ o newer. subst (λ (i : ℕ). nodes_of (resolve (newer ++ b) (whole_of ss nodes (s i))) < nodes_of (resolve (newer ++ b) (whole_of ss nodes (s (h - 1))))) (let i : h - 1 + 1 ≡ h = omega arith in i) (f.down (h - 1) (omega arith) (omega arith) newer))
    (half-less ss nodes b top s (suc h) h (omega arith) f)

-- a new top: the arguments of a name that stands strictly inside the top before
pub half-pushed : (ss : List Symbol) (nodes : List ℕ) (b : List Binding) (top : ℕ) (s t : ℕ → Side) (h : ℕ) (p : At) → ((k : ℕ) → k < h → t k ≡ s k) → t h ≡ inner_row p → Node ss nodes p.node → p.copy < copies → p.copy ≤ top → first_name ≤ get_or nodes p.node 0
    → (2 ≤ h → (newer : List Binding) → nodes_of (resolve (newer ++ b) (term_at ss nodes p.node p.copy)) < nodes_of (resolve (newer ++ b) (whole_of ss nodes (s (h - 1))))) → StackSide ss nodes b top s h → StackSide ss nodes b top t (suc h)
half-pushed ss nodes b top s t h p a e node copy below high inside f =
    half-topped (inner_row p) a e node copy below (compound-row ss nodes p.node node high)
    (λ o newer. (let x : nodes_of (resolve (newer ++ b) (term_at ss nodes p.node p.copy)) ≡ suc (rows_size (newer ++ b) (terms_at ss nodes (p.node + loaded_node) (p.node + get_or nodes (p.node + 1) 0) p.copy)) = ap (λ (y : RTerm). nodes_of (resolve (newer ++ b) y)) (compound-at ss nodes p.node node p.copy high) ∙ size-app (newer ++ b) (name_of_symbol ss (get_or nodes p.node 0 - first_name)) (terms_at ss nodes (p.node + loaded_node) (p.node + get_or nodes (p.node + 1) 0) p.copy) in
    omega arith))
    inside f

-- ---- the height

module _ (ss : List Symbol) (nodes : List ℕ) (b : List Binding) (top : ℕ) (s : ℕ → Side) (h : ℕ) (f : StackSide ss nodes b top s h) where
  smaller : (m k l : ℕ) → l ≡ k + 1 + m → 1 ≤ k → l < h → nodes_of (resolve b (whole_of ss nodes (s l))) < nodes_of (resolve b (whole_of ss nodes (s k)))
  smaller zero k l e o q = subst⁻¹ (λ (i : ℕ). nodes_of (resolve b (whole_of ss nodes (s i))) < nodes_of (resolve b (whole_of ss nodes (s k)))) (let i : l ≡ k + 1 = omega arith in i) (f.down k o (omega arith) [])
  smaller (suc m) k l e o q =
      let x : nodes_of (resolve b (whole_of ss nodes (s (k + 1 + m)))) < nodes_of (resolve b (whole_of ss nodes (s k))) = smaller m k (k + 1 + m) refl o (omega arith) in
      let y : nodes_of (resolve b (whole_of ss nodes (s (k + 1 + m + 1)))) < nodes_of (resolve b (whole_of ss nodes (s (k + 1 + m)))) = f.down (k + 1 + m) (omega arith) (omega arith) [] in
      let z : nodes_of (resolve b (whole_of ss nodes (s (k + 1 + m + 1)))) < nodes_of (resolve b (whole_of ss nodes (s k))) = omega arith in
      subst⁻¹ (λ (i : ℕ). nodes_of (resolve b (whole_of ss nodes (s i))) < nodes_of (resolve b (whole_of ss nodes (s k)))) (let i : l ≡ k + 1 + m + 1 = omega arith in i) z

  pub wholes-apart : (k l : ℕ) → 1 ≤ k → k < l → l < h → resolve b (whole_of ss nodes (s k)) ≡ resolve b (whole_of ss nodes (s l)) → ⊥
  wholes-apart k l o q r e =
      let x : nodes_of (resolve b (whole_of ss nodes (s l))) < nodes_of (resolve b (whole_of ss nodes (s k))) = smaller (l - (k + 1)) k l (omega arith) o r in
      let y : nodes_of (resolve b (whole_of ss nodes (s k))) ≡ nodes_of (resolve b (whole_of ss nodes (s l))) = ap nodes_of e in
      omega arith

-- the pairs are no more than the cells, once for each side, and those below
pub height : (ss : List Symbol) (nodes : List ℕ) (b : List Binding) (top : ℕ) (l r : ℕ → Side) (h : ℕ) → Stack ss nodes b top l r h → h ≤ pairs
height ss nodes b top l r h st = let k : h - big_pairs ≤ 2 * cells = pigeonhole (2 * cells) (h - big_pairs) (λ j. st.via (j + big_pairs)) (λ j q. (st.vias (j + big_pairs) (omega arith) (omega arith)).small) apart in omega arith
  where
    ordered : (i j : ℕ) → i < j → j < h - big_pairs → st.via (i + big_pairs) ≡ st.via (j + big_pairs) → (q : Bool) → ltb (st.via (i + big_pairs)) cells ≡ q → ⊥
    ordered i j q w e true x =
        let a : st.via (i + big_pairs) < cells = ltb-true (st.via (i + big_pairs)) cells x in
        let c : st.via (j + big_pairs) < cells = omega arith in
        wholes-apart ss nodes b top l h st.left (i + big_pairs) (j + big_pairs) (omega arith) (omega arith) (omega arith)
        (sym ((st.vias (i + big_pairs) (omega arith) (omega arith)).left_is a) ∙ (ap (λ (v : ℕ). resolve b (var (variable_of v))) e ∙ (st.vias (j + big_pairs) (omega arith) (omega arith)).left_is c))
    ordered i j q w e false x =
        let a : cells ≤ st.via (i + big_pairs) = ltb-false (st.via (i + big_pairs)) cells x in
        let c : cells ≤ st.via (j + big_pairs) = omega arith in
        wholes-apart ss nodes b top r h st.right (i + big_pairs) (j + big_pairs) (omega arith) (omega arith) (omega arith)
        (sym ((st.vias (i + big_pairs) (omega arith) (omega arith)).right_is a) ∙ (ap (λ (v : ℕ). resolve b (var (variable_of (v - cells)))) e ∙ (st.vias (j + big_pairs) (omega arith) (omega arith)).right_is c))

    apart : (i j : ℕ) → i < h - big_pairs → j < h - big_pairs → st.via (i + big_pairs) ≡ st.via (j + big_pairs) → i ≡ j
    apart i j q w e =
        let x : i < j → ⊥ = (λ k. ordered i j k w e (ltb (st.via (i + big_pairs)) cells) refl) in
        let y : j < i → ⊥ = (λ k. ordered j i k q (sym e) (ltb (st.via (j + big_pairs)) cells) refl) in
        omega (arith, x, y)

-- ---- both sides

via-bound : (b : List Binding) (e : Binding) (v : ℕ) (left right : RTerm) → OpenedByCell b v left right → OpenedByCell (e ∷ b) v left right
unfolding resolve
via-bound b e v left right w =
    record { small = w.small; left_is = λ l. ap (replace e.variable e.term) (w.left_is l); right_is = λ l. ap (replace e.variable e.term) (w.right_is l) }

pub stack-bound : (ss : List Symbol) (nodes : List ℕ) (b : List Binding) (e : Binding) (top : ℕ) (l r : ℕ → Side) (h : ℕ) → Stack ss nodes b top l r h → Stack ss nodes (e ∷ b) top l r h
stack-bound ss nodes b e top l r h st =
    record {
      left = half-bound ss nodes b e top l h st.left;
      right = half-bound ss nodes b e top r h st.right;
      same = st.same;
      via = st.via;
      vias = λ k o q. via-bound b e (st.via k) (whole_of ss nodes (l k)) (whole_of ss nodes (r k)) (st.vias k o q);
    }

pub stack-agrees : (ss : List Symbol) (nodes : List ℕ) (b : List Binding) (top : ℕ) (l r l' r' : ℕ → Side) (h : ℕ) → ((k : ℕ) → k < h → l' k ≡ l k) → ((k : ℕ) → k < h → r' k ≡ r k) → Stack ss nodes b top l r h → Stack ss nodes b top l' r' h
stack-agrees ss nodes b top l r l' r' h a c st =
    record {
      left = half-agrees ss nodes b top l l' h a st.left;
      right = half-agrees ss nodes b top r r' h c st.right;
      same = λ k q x y. ap (λ (s : Side). count (terms_at ss nodes s.at (end_of nodes s) x)) (a k q) ∙ (st.same k q x y ∙ sym (ap (λ (s : Side). count (terms_at ss nodes s.at (end_of nodes s) y)) (c k q)));
      via = st.via;
      vias = λ k o q. subst⁻¹ (λ (s : Side). OpenedByCell b (st.via k) (whole_of ss nodes s) (whole_of ss nodes (r' k))) (a k q) (subst⁻¹ (λ (s : Side). OpenedByCell b (st.via k) (whole_of ss nodes (l k)) (whole_of ss nodes s)) (c k q) (st.vias k o q));
    }

pub stack-less : (ss : List Symbol) (nodes : List ℕ) (b : List Binding) (top : ℕ) (l r : ℕ → Side) (h j : ℕ) → j ≤ h → Stack ss nodes b top l r h → Stack ss nodes b top l r j
stack-less ss nodes b top l r h j q st =
    record { left = half-less ss nodes b top l h j q st.left; right = half-less ss nodes b top r h j q st.right; same = λ k x. st.same k (omega arith); via = st.via; vias = λ k o x. st.vias k o (omega arith) }
